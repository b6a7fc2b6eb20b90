-- FIELDS IN RANGE: what is known of an event whose fields are, and that the ordinal names the first that is not.
-- Assumes nothing.
use mathlib.Core.Path.{◌≡◌, refl, sym, ◌∙◌}
use mathlib.Core.Bool.{Bool, true, false, ◌&&◌, ◌||◌}
use mathlib.Core.List.{List, [], ◌∷◌}
use mathlib.Core.Logic.{◌↔◌}
use Rattle.std.specs.Prelude.{Some, None}
use Prim.Native.Nat.{ℕ, zero, suc, ◌<◌, ◌≤◌, ◌+◌}
use native.Mathlib.Omega.{arith}
use lib.Dec.{eqb, leb}
use Rattle.rows.specs.Read.{bit}
use Rattle.rows.specs.Valid.{every_one, first_false, ordinal, number_there, number_absent, number_if, code_ok, item_ok, parts_ok, present_then}
use Rattle.rows.specs.Perform.{refused_at}
use Rattle.rows.specs.Reasons.{field_in, FirstOut}
use Rattle.rows.specs.Step.{takes_of, if_in_range}
use Rattle.rows.specs.Valid.{ranges_of, event_ok, bad_field_of}
use Rattle.rows.specs.declared.Call.{Call}
use Rattle.rows.specs.declared.Event.{Event}
use Rattle.rows.specs.declared.Event.TheVariants.{Received}
use Rattle.rows.specs.declared.Message.{Message}
use Rattle.rows.specs.declared.Number.{Number}
use Rattle.rows.proofs.Truth.{differ, left, right}

-- ---- A message in range

or_false : (a : Bool) → a ≡ true → (a || false) ≡ true
or_false true h = refl
or_false false h = h

-- a number that is there where its part is, and not where it is not
named : (b : Bool) (n : Number) (rest : List Bool) → every_one (present_then b (number_there n) rest) ≡ true → (b || number_absent n) ≡ true →
    number_if b n ≡ true
named true n rest h i = or_false (number_there n) (left (number_there n) _ h)
named false n rest h i = i

later : (b ok : Bool) (rest : List Bool) → every_one (present_then b ok rest) ≡ true → every_one rest ≡ true
later true ok rest h = right ok _ h
later false ok rest h = h

pub record MessageInRange (m : Message) : Type 0 where
  pub kind : (leb 1 m.kind && leb m.kind 5) ≡ true
  pub cause : leb m.cause 127 ≡ true
  pub code : code_ok m.component ≡ true
  pub item : item_ok m.component ≡ true
  pub parts : parts_ok m ≡ true
  pub calling : number_if (bit 16 m.parts) m.calling ≡ true
  pub called : number_if (bit 32 m.parts) m.called ≡ true
  pub duration : (bit 64 m.parts || eqb m.duration 0) ≡ true

pub message_in_range : (m : Message) → event_ok (Received m) ≡ true → MessageInRange m
message_in_range m h =
    let u = right (leb 1 m.kind && leb m.kind 5) _ h in
    let x = right (leb m.cause 127) _ u in
    let i = right (code_ok m.component) _ x in
    let p = right (item_ok m.component) _ i in
    let a = left (parts_ok m) _ p in
    let c = right (parts_ok m) _ p in
    let s = right (leb m.parts 127 && (bit 2 m.parts || _)) _ a in
    let t = right (bit 16 m.parts || number_absent m.calling) _ s in
    record {
      kind = left (leb 1 m.kind && leb m.kind 5) _ h;
      cause = left (leb m.cause 127) _ u;
      code = left (code_ok m.component) _ x;
      item = left (item_ok m.component) _ i;
      parts = a;
      calling = named (bit 16 m.parts) m.calling _ c (left (bit 16 m.parts || number_absent m.calling) _ s);
      called =
          named (bit 32 m.parts) m.called _ (later (bit 16 m.parts) (number_there m.calling) _ c)
          (left (bit 32 m.parts || number_absent m.called) _ t);
      duration = right (bit 32 m.parts || number_absent m.called) _ t;
    }

-- ---- The ordinal

-- 0 exactly where every field is in range: an ordinal is counted from 1 on
pub none_false : (k : ℕ) (bs : List Bool) → every_one bs ≡ true → first_false k bs ≡ 0
none_false k [] h = refl
none_false k (true ∷ bs) h = none_false (suc k) bs h
none_false k (false ∷ bs) h = differ h

pub some_false : (k : ℕ) (bs : List Bool) → every_one bs ≡ false → k ≤ first_false k bs
some_false k [] h = differ (sym h)
some_false k (true ∷ bs) h = let i = some_false (suc k) bs h in omega arith
some_false k (false ∷ bs) h = omega arith

-- it is 0, or no less than the first that is counted
zero_or_later : (k : ℕ) (bs : List Bool) (m : ℕ) → first_false (suc k) bs ≡ suc m → k ≤ m
zero_or_later k [] m h = absurd (omega (arith, h))
zero_or_later k (true ∷ bs) m h = let i = zero_or_later (suc k) bs m h in omega (arith, i)
zero_or_later k (false ∷ bs) m h = omega (arith, h)

-- as it is answered: nothing, or the ordinal itself
pub none_told : (k : ℕ) → None ≡ ordinal k → k ≡ 0
none_told zero h = refl
none_told (suc k) h = cc

pub some_told : (n k : ℕ) → Some n ≡ ordinal k → (n ≡ k) × (k ≡ 0 → ⊥)
some_told n zero h = cc
some_told n (suc k) h = (cc, λ z. omega (arith, z))

-- the field that it names is the first out of range ..
first_out : (m : ℕ) (bs : List Bool) (k : ℕ) → first_false (suc m) bs ≡ suc m + k → FirstOut bs k
first_out m [] k h = absurd (omega (arith, h))
first_out m (true ∷ bs) zero h = let i = zero_or_later (suc m) bs m (h ∙ omega arith) in absurd (omega (arith, i))
first_out m (true ∷ bs) (suc k) h =
    let i = first_out (suc m) bs k (h ∙ omega arith) in
    (i.0, before i)
  where
    before : FirstOut bs k → (j : ℕ) → j < suc k → field_in (true ∷ bs) j ≡ true
    before i zero l = refl
    before i (suc j) l = i.1 j (omega (arith, l))
first_out m (false ∷ bs) zero h = (refl, λ j l. absurd (omega (arith, l)))
first_out m (false ∷ bs) (suc k) h = absurd (omega (arith, h))

-- .. and such a field is named
out_first : (m : ℕ) (bs : List Bool) (k : ℕ) → FirstOut bs k → first_false (suc m) bs ≡ suc m + k
out_first m [] k h = differ (sym h.0)
out_first m (true ∷ bs) zero h = differ (sym h.0)
out_first m (true ∷ bs) (suc k) h = out_first (suc m) bs k (h.0, λ j l. h.1 (suc j) (omega (arith, l))) ∙ omega arith
out_first m (false ∷ bs) zero h = omega arith
out_first m (false ∷ bs) (suc k) h = differ (h.1 0 (omega arith))

pub first_bad_exactly : (e : Event) (k : ℕ) → (bad_field_of e ≡ suc k) ↔ FirstOut (ranges_of e) k
first_bad_exactly e k = (λ h. first_out 0 (ranges_of e) k (h ∙ omega arith), λ h. out_first 0 (ranges_of e) k h ∙ omega arith)

pub none_bad_exactly : (e : Event) → (bad_field_of e ≡ 0) ↔ (event_ok e ≡ true)
none_bad_exactly e = (all (event_ok e) refl, none_false 1 (ranges_of e))
  where
    all : (b : Bool) → event_ok e ≡ b → bad_field_of e ≡ 0 → b ≡ true
    all true h i = refl
    all false h i = let j = some_false 1 (ranges_of e) h in absurd (omega (arith, i, j))

in_range_by : (b : Bool) (c : Call) (e : Event) → event_ok e ≡ b → bad_field_of e ≡ 0 → takes_of c e ≡ if_in_range b c e
in_range_by true c e h i = refl
in_range_by false c e h i = let j = some_false 1 (ranges_of e) h in absurd (omega (arith, i, j))

pub in_range_lem : (c : Call) (e : Event) → bad_field_of e ≡ 0 → takes_of c e ≡ if_in_range (event_ok e) c e
in_range_lem c e = in_range_by (event_ok e) c e refl

out_of_range_by : (b : Bool) (c : Call) (e : Event) → event_ok e ≡ b → (bad_field_of e ≡ 0 → ⊥) → refused_at 3 (bad_field_of e) c ≡ if_in_range b c e
out_of_range_by true c e h i = absurd (i (none_false 1 (ranges_of e) h))
out_of_range_by false c e h i = refl

pub out_of_range : (c : Call) (e : Event) → (bad_field_of e ≡ 0 → ⊥) → refused_at 3 (bad_field_of e) c ≡ if_in_range (event_ok e) c e
out_of_range c e = out_of_range_by (event_ok e) c e refl
