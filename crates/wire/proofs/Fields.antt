-- The fields of a component one by one, and the first of them that is out of range.
-- Assumes nothing.
use mathlib.Core.Path.{◌≡◌, refl, sym, ap, ◌∙◌}
use mathlib.Core.List.{List, [], ◌∷◌}
use Prim.Native.Nat.{ℕ, zero, suc, ◌+◌, ◌/◌, ◌%◌, ◌≤◌, ◌<◌}
use native.Mathlib.Omega.{arith}
use lib.Dec.{eqb}
use lib.ListN.{get_or}
use Rattle.std.proofs.Common.{Bool, true, false, ◌==◌, ◌&&◌, ◌||◌, not, Option, Some, None}
use Rattle.text.specs.Choose.{if_eq, if_so}
use Rattle.text.proofs.Cases.{yes_eq, no_eq, both_eq, both_so}
use Rattle.wire.specs.Writable.{both_ok, kind_ok, item_ok, places_ok, unnamed_ok, untimed_ok, parts_ok, number_ok, duration_ok, id_ok, field_if, fields_of, bad_from, ordinal, bad_of, writable_of}
use Rattle.wire.specs.declared.Component.{Component}
use Rattle.wire.specs.declared.Number.{Number}

-- ---- any tests, of which the first has the ordinal k

-- what is told is one of their ordinals, or 0
told_past : (k : ℕ) (fs : List ℕ) → bad_from k fs < k → bad_from k fs ≡ 0
unfolding bad_from
told_past k [] h = refl
told_past k (ok ∷ fs) h =
    both_eq ok 1 (λ (z : ℕ). z < k → z ≡ 0) _ _ (λ _ l. told_past (k + 1) fs (omega arith)) (λ _ l. absurd (omega arith)) h

none_left : (k : ℕ) → bad_from k [] ≡ 0
unfolding bad_from
none_left k = refl

module _ (k ok : ℕ) (fs : List ℕ) where
  head_good : 1 ≤ k → bad_from k (ok ∷ fs) ≡ 0 → (ok ≡ 1) × (bad_from (k + 1) fs ≡ 0)
  unfolding bad_from
  head_good l = both_eq ok 1 (λ (z : ℕ). z ≡ 0 → (ok ≡ 1) × (bad_from (k + 1) fs ≡ 0)) _ _ (λ h e. (h, e)) (λ _ e. absurd (omega arith))

  head_on : (z : ℕ) → ok ≡ 1 → bad_from (k + 1) fs ≡ z → bad_from k (ok ∷ fs) ≡ z
  unfolding bad_from
  head_on z h e = sym (yes_eq _ _ _ _ _ h refl) ∙ e

  -- z is what those after it give
  head_as : (z : ℕ) → z ≡ bad_from (k + 1) fs → if_so (ok == 1) z k ≡ bad_from k (ok ∷ fs)
  unfolding bad_from if_eq
  head_as z e = ap (λ (y : ℕ). if_eq ok 1 y k) e

  -- a field that may be there
  field_as : (n z : ℕ) → n < 2 → z ≡ bad_from (k + n) fs → if_eq (if_eq n 1 ok 1) 1 z k ≡ bad_from k (field_if n ok fs)
  unfolding bad_from field_if if_eq if_so
  field_as zero z h e = let f : k + 0 ≡ k = omega arith in e ∙ ap (λ (y : ℕ). bad_from y fs) f
  field_as (suc zero) z h e = ap (λ (y : ℕ). if_so (eqb ok 1) y k) e
  field_as (suc (suc n)) z h e = absurd (omega arith)

  -- and as the code has it
  named_as : (n z : ℕ) → n < 2 → z ≡ bad_from (k + n) fs → if_so (not (n == 1) || (ok == 1)) z k ≡ bad_from k (field_if n ok fs)
  unfolding if_eq if_so
  named_as zero z h e = field_as zero z h e
  named_as (suc zero) z h e = field_as (suc zero) z h e
  named_as (suc (suc n)) z h e = absurd (omega arith)

-- what is told is the first that fails, and the first that fails is told
pub first_at : (k j : ℕ) (fs : List ℕ) → 1 ≤ k → bad_from k fs ≡ k + j → (get_or fs j 1 ≡ 1 → ⊥) × ((i : ℕ) → i < j → get_or fs i 1 ≡ 1)
unfolding bad_from
first_at k j [] l e = absurd (omega arith)
first_at k zero (ok ∷ fs) l e =
    both_eq ok 1 (λ (z : ℕ). z ≡ k → (ok ≡ 1 → ⊥) × ((i : ℕ) → i < 0 → get_or (ok ∷ fs) i 1 ≡ 1)) _ _
    (λ _ g. let t = told_past (k + 1) fs (omega arith) in absurd (omega arith)) (λ h _. (h, λ i g. absurd (omega arith))) (e ∙ omega arith)
first_at k (suc j) (ok ∷ fs) l e =
    both_eq ok 1 (λ (z : ℕ). z ≡ k + suc j → (get_or fs j 1 ≡ 1 → ⊥) × ((i : ℕ) → i < suc j → get_or (ok ∷ fs) i 1 ≡ 1)) _ _
    (λ h g. let w = first_at (k + 1) j fs (omega arith) (g ∙ omega arith) in (w.0, before h w.1)) (λ _ g. absurd (omega arith)) e
  where
    before : ok ≡ 1 → ((i : ℕ) → i < j → get_or fs i 1 ≡ 1) → (i : ℕ) → i < suc j → get_or (ok ∷ fs) i 1 ≡ 1
    before h f zero g = h
    before h f (suc i) g = f i (omega arith)

pub first_is : (k j : ℕ) (fs : List ℕ) → (get_or fs j 1 ≡ 1 → ⊥) → ((i : ℕ) → i < j → get_or fs i 1 ≡ 1) → bad_from k fs ≡ k + j
unfolding bad_from
first_is k j [] h f = absurd (h refl)
first_is k zero (ok ∷ fs) h f = sym (no_eq _ _ _ _ _ h (omega arith))
first_is k (suc j) (ok ∷ fs) h f =
    head_on k ok fs (k + suc j) (f 0 (omega arith)) (first_is (k + 1) j fs h (λ i g. f (suc i) (omega arith)) ∙ omega arith)

pub none_bad : (k : ℕ) (fs : List ℕ) → 1 ≤ k → bad_from k fs ≡ 0 → (j : ℕ) → get_or fs j 1 ≡ 1
none_bad k [] l e j = refl
none_bad k (ok ∷ fs) l e zero = (head_good k ok fs l e).0
none_bad k (ok ∷ fs) l e (suc j) = none_bad (k + 1) fs (omega arith) (head_good k ok fs l e).1 j

pub all_good : (k : ℕ) (fs : List ℕ) → ((j : ℕ) → get_or fs j 1 ≡ 1) → bad_from k fs ≡ 0
unfolding bad_from
all_good k [] f = refl
all_good k (ok ∷ fs) f = head_on k ok fs 0 (f 0) (all_good (k + 1) fs (λ j. f (suc j)))

-- ---- the fields of a component, each by its name

pub record Tested (c : Component) : Type 0 where
  pub kind : kind_ok c.kind ≡ 1
  pub item : item_ok c.kind c.item ≡ 1
  pub parts : parts_ok c ≡ 1
  pub calling : c.parts / 16 % 2 ≡ 1 → number_ok c.calling ≡ 1
  pub called : c.parts / 32 % 2 ≡ 1 → number_ok c.called ≡ 1
  pub duration : c.parts / 64 % 2 ≡ 1 → duration_ok c.duration ≡ 1
  pub id : id_ok c.kind c.id ≡ 1

-- a field that may be there, and those after it
module _ (k n ok : ℕ) (fs : List ℕ) (h : n < 2) where
  named_good : 1 ≤ k → bad_from k (field_if n ok fs) ≡ 0 → (n ≡ 1 → ok ≡ 1) × (bad_from (k + n) fs ≡ 0)
  named_good l e =
      both_eq _ 1 (λ (z : ℕ). z ≡ 0 → (n ≡ 1 → ok ≡ 1) × (bad_from (k + n) fs ≡ 0)) _ _
      (λ g f. (λ o. yes_eq n 1 ok ok 1 o refl ∙ g, f)) (λ _ f. absurd (omega arith)) (field_as k ok fs n _ h refl ∙ e)

  named_on : (n ≡ 1 → ok ≡ 1) → bad_from (k + n) fs ≡ 0 → bad_from k (field_if n ok fs) ≡ 0
  named_on f e =
      sym (field_as k ok fs n _ h refl)
      ∙ sym (yes_eq _ 1 0 _ k (both_eq n 1 (λ (z : ℕ). z ≡ 1) ok 1 f (λ _. refl)) (sym e))

module _ (c : Component) where
  pub writable_none : writable_of c ≡ 1 → bad_of c ≡ 0
  unfolding writable_of
  writable_none = both_eq _ 0 (λ (z : ℕ). z ≡ 1 → bad_of c ≡ 0) 1 0 (λ h _. h) (λ _ e. absurd (omega arith))

  pub none_writable : bad_of c ≡ 0 → writable_of c ≡ 1
  unfolding writable_of
  none_writable h = sym (yes_eq _ 0 1 1 0 h refl)

  -- what can be written, field by field
  pub written_tested : writable_of c ≡ 1 → Tested c
  unfolding bad_of fields_of
  written_tested e =
      let i : ℕ = c.parts / 16 % 2 in
      let j : ℕ = c.parts / 32 % 2 in
      let l : ℕ = c.parts / 64 % 2 in
      let k = head_good 1 _ _ (omega arith) (writable_none e) in
      let n = head_good _ _ _ (omega arith) k.1 in
      let p = head_good _ _ _ (omega arith) n.1 in
      let a = named_good _ i _ _ (omega arith) (omega arith) p.1 in
      let b = named_good _ j _ _ (omega arith) (omega arith) a.1 in
      let d = named_good _ l _ _ (omega arith) (omega arith) b.1 in
      let x = head_good _ _ _ (omega arith) d.1 in
      record { kind = k.0; item = n.0; parts = p.0; calling = a.0; called = b.0; duration = d.0; id = x.0 }

  pub tested_written : Tested c → writable_of c ≡ 1
  unfolding bad_of fields_of
  tested_written r =
      none_writable
      (head_on 1 _ _ 0 r.kind
      (head_on _ _ _ 0 r.item
      (head_on _ _ _ 0 r.parts
      (named_on _ (c.parts / 16 % 2) _ _ (omega arith) r.calling
      (named_on _ (c.parts / 32 % 2) _ _ (omega arith) r.called
      (named_on _ (c.parts / 64 % 2) _ _ (omega arith) r.duration
      (head_on _ _ _ 0 r.id (none_left _))))))))

  -- what is told, as the code has it
  pub fields_as : bad_of c ≡
      if_so (kind_ok c.kind == 1)
      (if_so (item_ok c.kind c.item == 1)
      (if_so (parts_ok c == 1)
      (if_so (not (c.parts / 16 % 2 == 1) || (number_ok c.calling == 1))
      (if_so (not (c.parts / 32 % 2 == 1) || (number_ok c.called == 1))
      (if_so (not (c.parts / 64 % 2 == 1) || (duration_ok c.duration == 1))
      (if_so (id_ok c.kind c.id == 1) 0
      (4 + c.parts / 16 % 2 + c.parts / 32 % 2 + c.parts / 64 % 2))
      (4 + c.parts / 16 % 2 + c.parts / 32 % 2))
      (4 + c.parts / 16 % 2))
      4)
      3)
      2)
      1
  unfolding bad_of fields_of
  fields_as =
      let i : ℕ = c.parts / 16 % 2 in
      let j : ℕ = c.parts / 32 % 2 in
      let l : ℕ = c.parts / 64 % 2 in
      sym
      (head_as 1 _ _ _
      (head_as 2 _ _ _
      (head_as 3 _ _ _
      (named_as 4 _ _ i _ (omega arith)
      (named_as (4 + i) _ _ j _ (omega arith)
      (named_as (4 + i + j) _ _ l _ (omega arith)
      (head_as (4 + i + j + l) _ _ _ (sym (none_left _)))))))))

so_most : (t : Bool) (x y n : ℕ) → x ≤ n → y ≤ n → if_so t x y ≤ n
so_most t x y n = both_so t (λ (z : ℕ). x ≤ n → y ≤ n → z ≤ n) x y (λ _ h _. h) (λ _ _ h. h)

-- there are seven fields at most
pub bad_most : (c : Component) → bad_of c ≤ 7
bad_most c =
    rw (fields_as c)
    (so_most _ _ _ 7
    (so_most _ _ _ 7
    (so_most _ _ _ 7
    (so_most _ _ _ 7
    (so_most _ _ _ 7
    (so_most _ _ _ 7 (so_most _ _ _ 7 (omega arith) (omega arith)) (omega arith)) (omega arith)) (omega arith)) (omega arith)) (omega arith)) (omega arith))

-- ---- as it is answered

pub ordinal_none : ◌≡◌ {A = Option ℕ} None (ordinal 0)
unfolding ordinal if_eq if_so
ordinal_none = refl

pub ordinal_some : (k : ℕ) → (k ≡ 0 → ⊥) → Some k ≡ ordinal k
unfolding ordinal
ordinal_some k h = no_eq k 0 _ _ _ h refl

-- each by the tests before it, as the code has them
module _ (c : Component) where
  abbrev Kind : Bool
  Kind = kind_ok c.kind == 1

  abbrev Item : Bool
  Item = item_ok c.kind c.item == 1

  abbrev Parts : Bool
  Parts = parts_ok c == 1

  abbrev Calling : Bool
  Calling = not (c.parts / 16 % 2 == 1) || (number_ok c.calling == 1)

  abbrev Called : Bool
  Called = not (c.parts / 32 % 2 == 1) || (number_ok c.called == 1)

  abbrev Timed : Bool
  Timed = not (c.parts / 64 % 2 == 1) || (duration_ok c.duration == 1)

  abbrev Named : Bool
  Named = id_ok c.kind c.id == 1

  pub first_kind : false ≡ Kind → Some 1 ≡ ordinal (bad_of c)
  unfolding if_so
  first_kind a = rw (fields_as c, ← a) (ordinal_some _ (λ e. omega arith))

  pub first_item : true ≡ Kind → false ≡ Item → Some 2 ≡ ordinal (bad_of c)
  unfolding if_so
  first_item a b = rw (fields_as c, ← a, ← b) (ordinal_some _ (λ e. omega arith))

  pub first_parts : true ≡ Kind → true ≡ Item → false ≡ Parts → Some 3 ≡ ordinal (bad_of c)
  unfolding if_so
  first_parts a b d = rw (fields_as c, ← a, ← b, ← d) (ordinal_some _ (λ e. omega arith))

  pub first_calling : true ≡ Kind → true ≡ Item → true ≡ Parts → false ≡ Calling → Some 4 ≡ ordinal (bad_of c)
  unfolding if_so
  first_calling a b d e = rw (fields_as c, ← a, ← b, ← d, ← e) (ordinal_some _ (λ e. omega arith))

  pub first_called : true ≡ Kind → true ≡ Item → true ≡ Parts → true ≡ Calling → false ≡ Called → Some (4 + c.parts / 16 % 2) ≡ ordinal (bad_of c)
  unfolding if_so
  first_called a b d e f = rw (fields_as c, ← a, ← b, ← d, ← e, ← f) (ordinal_some _ (λ e. omega arith))

  pub first_timed : true ≡ Kind → true ≡ Item → true ≡ Parts → true ≡ Calling → true ≡ Called → false ≡ Timed → Some (4 + c.parts / 16 % 2 + c.parts / 32 % 2) ≡ ordinal (bad_of c)
  unfolding if_so
  first_timed a b d e f g = rw (fields_as c, ← a, ← b, ← d, ← e, ← f, ← g) (ordinal_some _ (λ e. omega arith))

  pub first_named : true ≡ Kind → true ≡ Item → true ≡ Parts → true ≡ Calling → true ≡ Called → true ≡ Timed → false ≡ Named → Some (4 + c.parts / 16 % 2 + c.parts / 32 % 2 + c.parts / 64 % 2) ≡ ordinal (bad_of c)
  unfolding if_so
  first_named a b d e f g h = rw (fields_as c, ← a, ← b, ← d, ← e, ← f, ← g, ← h) (ordinal_some _ (λ e. omega arith))

  pub first_none : true ≡ Kind → true ≡ Item → true ≡ Parts → true ≡ Calling → true ≡ Called → true ≡ Timed → true ≡ Named → None ≡ ordinal (bad_of c)
  unfolding if_so
  first_none a b d e f g h = rw (fields_as c, ← a, ← b, ← d, ← e, ← f, ← g, ← h) ordinal_none

pub ruleset first_told = (first_kind, first_item, first_parts, first_calling, first_called, first_timed, first_named, first_none)

-- and what it was
pub told_ordinal : (bad k : ℕ) → Some k ≡ ordinal bad → (bad ≡ k) × (bad ≡ 0 → ⊥)
unfolding ordinal
told_ordinal bad k = both_eq bad 0 (λ (o : Option ℕ). Some k ≡ o → (bad ≡ k) × (bad ≡ 0 → ⊥)) _ _ (λ _ e. cc) (λ h e. (cc, h))

pub told_none : (bad : ℕ) → None ≡ ordinal bad → bad ≡ 0
unfolding ordinal
told_none bad = both_eq bad 0 (λ (o : Option ℕ). None ≡ o → bad ≡ 0) _ _ (λ h _. h) (λ _ e. cc)

-- ---- the parts, as the code has them

both_as : (a b : ℕ) → (both_ok a b == 1) ≡ ((a == 1) && (b == 1))
unfolding both_ok if_eq if_so
both_as a b = elim (a == 1) as (λ (t : Bool). (if_so t b 0 == 1) ≡ (t && (b == 1))) [ true ↦ refl | false ↦ refl ]

unnamed_as : (k : ℕ) (n : Number) → (unnamed_ok k n == 1) ≡ ((k == 1) || (n.count == 0) && (n.value == 0))
unfolding unnamed_ok if_eq if_so
unnamed_as k n =
    elim (k == 1) as (λ (t : Bool). (if_so t 1 (if_so (n.count == 0) (if_so (n.value == 0) 1 0) 0) == 1) ≡ (t || (n.count == 0) && (n.value == 0))) [
      | true ↦ refl
      | false ↦ elim (n.count == 0) as (λ (t : Bool). (if_so t (if_so (n.value == 0) 1 0) 0 == 1) ≡ (t && (n.value == 0))) [
        | true ↦ elim (n.value == 0) as (λ (t : Bool). (if_so t 1 0 == 1) ≡ t) [ true ↦ refl | false ↦ refl ]
        | false ↦ refl
      ]
    ]

untimed_as : (k t : ℕ) → (untimed_ok k t == 1) ≡ ((k == 1) || (t == 0))
unfolding untimed_ok if_eq if_so
untimed_as k n =
    elim (k == 1) as (λ (t : Bool). (if_so t 1 (if_so (n == 0) 1 0) == 1) ≡ (t || (n == 0))) [
      | true ↦ refl
      | false ↦ elim (n == 0) as (λ (t : Bool). (if_so t 1 0 == 1) ≡ t) [ true ↦ refl | false ↦ refl ]
    ]

pub parts_as : (c : Component) → (parts_ok c == 1)
    ≡ ((places_ok c.kind c.item c.parts == 1)
    && (((c.parts / 16 % 2 == 1) || (c.calling.count == 0) && (c.calling.value == 0))
    && (((c.parts / 32 % 2 == 1) || (c.called.count == 0) && (c.called.value == 0))
    && ((c.parts / 64 % 2 == 1) || (c.duration == 0)))))
unfolding parts_ok
parts_as c = simp (both_as, unnamed_as, untimed_as)
