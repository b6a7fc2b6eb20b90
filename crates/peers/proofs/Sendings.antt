-- What a row sends can be written: its component and parts go together, the own number is one that can be written, and the Duration is what
-- is left to be judged.
-- Assumes nothing.
use mathlib.Core.Bool.{Bool, true, false, ◌&&◌, ◌||◌, not}
use mathlib.Core.List.{List, [], ◌∷◌}
use mathlib.Core.Logic.{◌↔◌}
use mathlib.Core.Path.{◌≡◌, refl, sym, subst, ◌∙◌}
use Prim.Native.Nat.{ℕ, suc, ◌/◌, ◌%◌, ◌^◌, ◌≤◌, ◌<◌}
use native.Mathlib.Omega.{arith}
use borrow.Author.Tests.{leb-true, eqb-true, eqb-false, eq-eqb, not-true}
use lib.Dec.{eqb, leb}
use Rattle.text.specs.Choose.{if_so, if_lt, if_eq}
use Rattle.text.proofs.Cases.{no_lt}
use Rattle.files.specs.Bodies.{count_byte, code_of, item_of}
use Rattle.files.proofs.CountByte.{in_range_value}
use Rattle.rows.specs.History.{run}
use Rattle.rows.specs.Perform.{if_there, seconds_if, note_of, stand_of, side_of}
use Rattle.rows.specs.Read.{bit, kind_by, listed_of, read_of}
use Rattle.rows.specs.Step.{unopened_call, step_of}
use Rattle.rows.specs.Valid.{in_range, number_there, event_ok}
use Rattle.rows.specs.declared.Call.{Call}
use Rattle.rows.specs.declared.Component.{Component as Sent}
use Rattle.rows.specs.declared.Component.TheVariants.{Absent, Invoke, Result, Error, Reject, Unknown}
use Rattle.rows.specs.declared.Event.{Event}
use Rattle.rows.specs.declared.Event.TheVariants.{Opening, Ask, Received, FromAccess, Expiry, Time}
use Rattle.rows.specs.declared.Kind.{Kind}
use Rattle.rows.specs.declared.Kind.TheVariants.{Opens}
use Rattle.rows.specs.declared.Nature.{Nature}
use Rattle.rows.specs.declared.Nature.TheVariants.{National, International}
use Rattle.rows.specs.declared.Number.{Number}
use Rattle.rows.specs.declared.Outcome.{Outcome}
use Rattle.rows.specs.declared.Register.{Register}
use Rattle.rows.specs.declared.Register.TheVariants.{AsHeld, FromOpening, CalledNumber, CallingNumber}
use Rattle.rows.specs.declared.Side.{Side}
use Rattle.rows.proofs.Answers.{plan_for, is_unopened}
use Rattle.rows.proofs.Found.{implies, so, Test, holds, is_kind, stepped}
use Rattle.rows.proofs.Sent.{error_listed, error_listed_lem}
use Rattle.rows.proofs.Truth.{differ, left, right, either, or_true}
use Rattle.wire.specs.Values.{absent_number}
use Rattle.wire.specs.Writable.{range_ok, item_ok, argument_ok, result_ok, places_ok, writable_of}
use Rattle.wire.proofs.Digited.{Fine}
use Rattle.wire.proofs.Goods.{Kinds, calls, answers, fails, range_inv, written_good, good_written}
use Rattle.peers.specs.Messages.{party_of, carried_of, sent_of}

-- ---- component and parts

-- a component is there
abbrev pub is_there : Sent → Bool
is_there (Absent n) = false
is_there (Invoke n) = true
is_there (Result n) = true
is_there (Error n) = true
is_there (Reject n) = true
is_there (Unknown code n) = true

-- an error's number is judged apart
abbrev goes_with : Sent → ℕ → Bool
goes_with (Absent n) p = true
goes_with (Invoke n) p = eqb (item_ok 1 n) 1 && eqb (places_ok 1 n p) 1
goes_with (Result n) p = eqb (item_ok 2 n) 1 && eqb (places_ok 2 n p) 1
goes_with (Error n) p = eqb p 0
goes_with (Reject n) p = false
goes_with (Unknown code n) p = false

abbrev shapely : Test
shapely r now k p = implies (eqb p.number 0) (goes_with p.component p.parts)

shapes : (c : Call) (e : Event) → shapely c.side.role c.stand (read_of e).kind (plan_for c e) ≡ true
unfolding item_ok places_ok range_ok argument_ok result_ok if_eq if_lt if_so
shapes c e = holds shapely (λ e t a b. refl) c e

-- one of 4 to 12, k tried first
among : (n k : ℕ) (b : Bool) → 4 ≤ k → k ≤ 12 → (b ≡ true → (4 ≤ n) × (n ≤ 12)) → (eqb n k || b) ≡ true → (4 ≤ n) × (n ≤ 12)
among n k b l h f g = either (eqb n k) b g (λ e. let d = eqb-true n k e in (omega arith, omega arith)) f

listed_range : (n : ℕ) → listed_of n ≡ true → (4 ≤ n) × (n ≤ 12)
listed_range n =
    among n 4 _ (omega arith) (omega arith) (among n 5 _ (omega arith) (omega arith) (among n 6 _ (omega arith) (omega arith)
    (among n 7 _ (omega arith) (omega arith) (among n 8 _ (omega arith) (omega arith) (among n 9 _ (omega arith) (omega arith)
    (among n 10 _ (omega arith) (omega arith) (among n 11 _ (omega arith) (omega arith)
    (λ e. let d = eqb-true n 12 e in (omega arith, omega arith)))))))))

-- from k on: k itself, or else one of those that are tried after it
onward : (n k : ℕ) (t b : Bool) → eqb n k ≡ t → k ≤ n → (suc k ≤ n → b ≡ true) → (t || b) ≡ true
onward n k true b e l f = refl
onward n k false b e l f = f (omega (arith, eqb-false n k e))

range_listed : (n : ℕ) → 4 ≤ n → n ≤ 12 → listed_of n ≡ true
range_listed n l h =
    onward n 4 _ _ refl l λ m. onward n 5 _ _ refl m λ m. onward n 6 _ _ refl m λ m. onward n 7 _ _ refl m λ m. onward n 8 _ _ refl m
    λ m. onward n 9 _ _ refl m λ m. onward n 10 _ _ refl m λ m. onward n 11 _ _ refl m λ m. eq-eqb n 12 (omega (arith, m, h))

-- the module's errors are the same to the rows, which list them, and to the wire, which has their range
pub same_errors : (n : ℕ) → (listed_of n ≡ true) ↔ (item_ok 3 n ≡ 1)
unfolding item_ok range_ok if_eq if_so
same_errors n = (
  λ e. let r = listed_range n e in sym (no_lt _ _ _ _ _ r.0 (no_lt _ _ _ _ _ r.1 refl)),
  λ e. let r = range_inv n 4 12 e in range_listed n r.0 r.1,
)

shape_fits : (x : Sent) (p i : ℕ) → i < 256 → is_there x ≡ true → goes_with x p ≡ true → error_listed x ≡ true → Kinds (code_of x) (item_of x) p i
unfolding item_ok places_ok if_eq if_so
shape_fits (Absent n) p i h t g l = differ t
shape_fits (Invoke n) p i h t g l =
    let r = range_inv n 1 3 (eqb-true _ _ (left (eqb (item_ok 1 n) 1) _ g)) in calls refl h r.0 r.1 (eqb-true _ _ (right (eqb (item_ok 1 n) 1) _ g))
shape_fits (Result n) p i h t g l =
    let r = range_inv n 1 3 (eqb-true _ _ (left (eqb (item_ok 2 n) 1) _ g)) in answers refl h r.0 r.1 (eqb-true _ _ (right (eqb (item_ok 2 n) 1) _ g))
shape_fits (Error n) p i h t g l = let r = listed_range n l in fails refl h r.0 r.1 (eqb-true p 0 g)
shape_fits (Reject n) p i h t g l = differ g
shape_fits (Unknown code n) p i h t g l = differ g

-- ---- the own number

count_low : (x : Nature) (n : ℕ) → n ≤ 15 → count_byte x n % 256 % 128 ≡ n
count_low National n h = omega arith
count_low International n h = omega arith

own_fits : (n : Number) → number_there n ≡ true → Fine (party_of n)
unfolding party_of
own_fits n h =
    let t = in_range_value n (left (in_range n) _ h) in
    let b = leb-true n.count 15 t.0 in
    let a : 1 ≤ n.count = leb-true 1 n.count (right (in_range n) _ h) in
    let e = count_low n.nature n.count b in
    record {
      byte = omega arith;
      some = omega arith;
      most = omega arith;
      fits = subst (λ (k : ℕ). n.value < 10 ^ k) (sym e) t.1;
    }

party_fits : (b : ℕ) (own : Number) → number_there own ≡ true → (t : Bool) → eqb b 1 ≡ t → b ≡ 1 → Fine (party_of (if_there t own))
party_fits b own h true e f = own_fits own h
party_fits b own h false e f = absurd (eqb-false b 1 e f)

party_none : (b : ℕ) (own : Number) (t : Bool) → eqb b 1 ≡ t → b ≡ 0 → party_of (if_there t own) ≡ absent_number
unfolding party_of
party_none b own true e f = let h = eqb-true b 1 e in absurd (omega arith)
party_none b own false e f = refl

-- ---- the Duration

untimed : (b s : ℕ) (t : Bool) → eqb b 1 ≡ t → b ≡ 0 → seconds_if t s ≡ 0
untimed b s true e f = let h = eqb-true b 1 e in absurd (omega arith)
untimed b s false e f = refl

-- ---- all of it

note_fits : (error cause : ℕ) (x : Sent) (p : ℕ) (own : Number) (caller i : ℕ) → Kinds (code_of x) (item_of x) p i
    → number_there own ≡ true → (writable_of (sent_of (note_of error cause x p own caller) i) ≡ 1) ↔ (seconds_if (bit 64 p) caller ≤ 921599)
unfolding sent_of carried_of party_of
note_fits error cause x p own caller i k o =
    let c = sent_of (note_of error cause x p own caller) i in (
      λ e. (written_good c (record { calling_byte = omega arith; called_byte = omega arith }) e).0.duration_most,
      λ l. good_written c
          (record {
            calling_fine = party_fits (p / 16 % 2) own o (bit 16 p) refl;
            calling_none = party_none (p / 16 % 2) own (bit 16 p) refl;
            called_fine = party_fits (p / 32 % 2) own o (bit 32 p) refl;
            called_none = party_none (p / 32 % 2) own (bit 32 p) refl;
            duration_most = l;
            duration_none = untimed (p / 64 % 2) caller (bit 64 p) refl;
          })
          k,
    )

abbrev Fits : ℕ → Outcome → Type 0
Fits i o = is_there o.note.component ≡ true → (writable_of (sent_of o.note i) ≡ 1) ↔ (o.note.duration ≤ 921599)

pub sent_fits : (c : Call) (e : Event) (i : ℕ) → number_there c.side.own ≡ true → i < 256 → Fits i (step_of c e)
sent_fits c e i o h =
    stepped (Fits i) c e (λ v t. differ t) (λ n k v p q t. differ t)
    (λ n d t. note_fits _ _ (plan_for c e).component (plan_for c e).parts c.side.own c.meters.caller i
    (shape_fits (plan_for c e).component (plan_for c e).parts i h t (so _ _ (shapes c e) d.row) (error_listed_lem c e)) o)

-- ---- from the opening on the own number is there, and before it nothing is sent

abbrev is_opens : Kind → Bool
is_opens k = is_kind Opens k

-- an own number is registered from an opening alone, and anything else happens only after one
abbrev own_by : Register → Bool → Bool → Bool
own_by AsHeld opens unopened = not unopened
own_by FromOpening opens unopened = opens
own_by CalledNumber opens unopened = not unopened
own_by CallingNumber opens unopened = not unopened

abbrev owning : Test
owning r now k p = implies (eqb p.number 0) (own_by p.register (is_opens k) (is_unopened now.phase))

abbrev silent : Test
silent r now k p = implies (is_unopened now.phase) (not (is_there p.component))

not_opens : (a b c : Bool) → is_opens (kind_by a b c) ≡ false
not_opens true b c = refl
not_opens false true c = refl
not_opens false false true = refl
not_opens false false false = refl

own_in_range : (e : Event) → event_ok e ≡ true → is_opens (read_of e).kind ≡ true → number_there (read_of e).own ≡ true
own_in_range (Opening r f n) o k = left (number_there n) _ (right (leb f 31) _ (right (leb r 1) _ o))
own_in_range (Ask q n) o k = differ k
own_in_range (Received m) o k = differ (sym (not_opens (eqb m.kind 1) (eqb m.kind 2 || eqb m.kind 3) (eqb m.kind 4)) ∙ k)
own_in_range (FromAccess a n) o k = differ k
own_in_range Expiry o k = differ k
own_in_range (Time s) o k = differ k

second : (u b : Bool) → not u ≡ true → (u || b) ≡ true → b ≡ true
second true b n h = differ n
second false b n h = h

own_after : (x : Register) (s : Side) (e : Event) (u : Bool) → own_by x (is_opens (read_of e).kind) u ≡ true → event_ok e ≡ true
    → (u || number_there s.own) ≡ true → number_there (side_of x s (read_of e)).own ≡ true
own_after AsHeld s e u t o h = second u _ t h
own_after FromOpening s e u t o h = own_in_range e o t
own_after CalledNumber s e u t o h = second u _ t h
own_after CallingNumber s e u t o h = second u _ t h

abbrev owned : Call → Bool
owned c = is_unopened c.stand.phase || number_there c.side.own

owned_step : (c : Call) (e : Event) → owned c ≡ true → owned (step_of c e).call ≡ true
owned_step c e h =
    stepped (λ (o : Outcome). owned o.call ≡ true) c e (λ v. h) (λ n k v p q. h)
    (λ n d. or_true (is_unopened (stand_of (plan_for c e).next c.stand).phase) _
    (own_after (plan_for c e).register c.side e (is_unopened c.stand.phase)
    (so _ _ (holds owning (λ e t a b. refl) c e) d.row) d.ranged h))

owned_run : (c : Call) (es : List Event) → owned c ≡ true → owned (run c es) ≡ true
owned_run c [] h = h
owned_run c (e ∷ es) h = owned_run (step_of c e).call es (owned_step c e h)

silent_step : (c : Call) (e : Event) → is_unopened c.stand.phase ≡ true → is_there (step_of c e).note.component ≡ false
silent_step c e h =
    stepped (λ (o : Outcome). is_there o.note.component ≡ false) c e (λ v. refl) (λ n k v p q. refl)
    (λ n d. not-true _ (so _ _ (holds silent (λ e t a b. refl) c e) h))

pub sent_fits_once_opened : (es : List Event) (e : Event) (i : ℕ) → i < 256 → Fits i (step_of (run unopened_call es) e)
sent_fits_once_opened es e i h =
    let c = run unopened_call es in
    either (is_unopened c.stand.phase) (number_there c.side.own) (owned_run unopened_call es refl)
    (λ u t. differ (sym (silent_step c e u) ∙ t)) (λ o. sent_fits c e i o h)
