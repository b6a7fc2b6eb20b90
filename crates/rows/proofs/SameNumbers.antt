-- TWO NUMBERS ARE THE SAME exactly with equal nature, count and value; and a number in range without digits is none.
-- Assumes nothing.
use mathlib.Core.Bool.{true, ◌||◌}
use mathlib.Core.Logic.{◌↔◌}
use mathlib.Core.Path.{◌≡◌, refl, ap, subst}
use Prim.Native.Nat.{◌≤◌, ◌<◌}
use native.Mathlib.Omega.{arith}
use lib.Dec.{ltb, leb, eqb}
use borrow.Author.Tests.{ltb-true, leb-true, eqb-true, eq-eqb}
use Rattle.rows.specs.Telephone.{absent, national, same_nature, same_number}
use Rattle.rows.specs.Valid.{ten_to, in_range}
use Rattle.rows.specs.declared.Nature.{Nature}
use Rattle.rows.specs.declared.Nature.TheVariants.{National, International}
use Rattle.rows.specs.declared.Number.{Number}
use Rattle.rows.proofs.Truth.{both, differ, either, left, right}

nature_equal : (a b : Nature) → same_nature a b ≡ true → a ≡ b
nature_equal National National h = refl
nature_equal National International h = differ h
nature_equal International National h = differ h
nature_equal International International h = refl

nature_itself : (a : Nature) → same_nature a a ≡ true
nature_itself National = refl
nature_itself International = refl

-- a number is its three fields
pub number_equal : {a b : Number} → a.nature ≡ b.nature → a.count ≡ b.count → a.value ≡ b.value → a ≡ b
number_equal e f g = λ i. record { nature = e i; count = f i; value = g i }

-- equal in each of them
abbrev pub Alike : Number → Number → Type 0
Alike a b = (a.nature ≡ b.nature) × (a.count ≡ b.count) × (a.value ≡ b.value)

same_alike : (a b : Number) → same_number a b ≡ true → Alike a b
same_alike a b h =
    let t = right (same_nature a.nature b.nature) _ h in (
      nature_equal a.nature b.nature (left (same_nature a.nature b.nature) _ h),
      eqb-true a.count b.count (left (eqb a.count b.count) _ t),
      eqb-true a.value b.value (right (eqb a.count b.count) _ t),
    )

alike_same : (a b : Number) → Alike a b → same_number a b ≡ true
alike_same a b (e, f, g) =
    both (subst (λ (n : Nature). same_nature a.nature n ≡ true) e (nature_itself a.nature))
    (both (eq-eqb a.count b.count f) (eq-eqb a.value b.value g))

pub same_exactly : (a b : Number) → (same_number a b ≡ true) ↔ Alike a b
same_exactly a b = (same_alike a b, alike_same a b)

pub same_equal : (a b : Number) → same_number a b ≡ true → a ≡ b
same_equal a b h = let (e, f, g) = same_alike a b h in number_equal e f g

pub same_is_equal : (a b : Number) → (same_number a b ≡ true) ↔ (a ≡ b)
same_is_equal a b = (same_equal a b, λ e. alike_same a b (ap (λ (n : Number). n.nature) e, ap (λ (n : Number). n.count) e, ap (λ (n : Number). n.value) e))

-- ---- the number that is none

nature_is : (x : Nature) → national x ≡ true → x ≡ National
nature_is National h = refl
nature_is International h = differ h

pub digitless_is_absent : (n : Number) → in_range n ≡ true → n.count ≡ 0 → n ≡ absent
digitless_is_absent n p z =
    let g : ltb n.value (ten_to n.count) ≡ true = left _ (national n.nature || leb 1 n.count) p in
    let h : ltb n.value (ten_to 0) ≡ true = rw z at g in
    let v : n.value < 1 = ltb-true n.value 1 h in
    number_equal
    (nature_is n.nature
    (either (national n.nature) (leb 1 n.count) (right (ltb n.value (ten_to n.count)) _ p) (λ e. e)
    (λ e. let l : 1 ≤ n.count = leb-true 1 n.count e in absurd (omega arith))))
    z (omega arith)
