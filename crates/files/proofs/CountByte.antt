-- The count byte of a telephone number, both ways: what is written reads back, and what is read is what would be written.
-- Assumes nothing.
use Rattle.std.proofs.Common.{◌≡◌, ℕ, ◌+◌, ◌%◌, ◌^◌, ◌<◌, ◌≤◌, Bool, true, false, ◌||◌, T, eqb, ltb, leb, sym, refl, ◌∙◌, arith, ltb-true, eqb-true, leb-true}
use Rattle.text.proofs.Cases.{yes_lt, no_lt, both_lt}
use Rattle.rows.specs.Telephone.{national}
use Rattle.rows.specs.Valid.{pickℕ, in_range, number_there, number_absent}
use Rattle.rows.specs.Valid.{number_if as number_ok}
use Rattle.rows.specs.declared.Nature.{Nature}
use Rattle.rows.specs.declared.Nature.TheVariants.{National, International}
use Rattle.rows.specs.declared.Number.{Number}
use Rattle.rows.proofs.Below.{below}
use Rattle.rows.proofs.SameNumbers.{number_equal}
use Rattle.rows.proofs.Truth.{differ, left, or_none_lem, right}
use Rattle.files.specs.Bodies.{nature_of, count_of, count_byte, number_by}
use Rattle.files.specs.Typed.{TypedNumber}

-- ---- from the byte to its halves and back

at_home : (byte : ℕ) → byte < 128 → nature_of byte ≡ National
unfolding nature_of
at_home byte h = sym (yes_lt _ _ _ _ _ h refl)

from_abroad : (byte : ℕ) → 128 ≤ byte → nature_of byte ≡ International
unfolding nature_of
from_abroad byte h = sym (no_lt _ _ _ _ _ h refl)

home_count : (count : ℕ) → count < 128 → count_of count ≡ count
unfolding count_of
home_count count h = omega arith

abroad_count : (count : ℕ) → count < 128 → count_of (128 + count) ≡ count
unfolding count_of
abroad_count count h = omega arith

pub count_typed : (byte : ℕ) → count_of byte < 256
unfolding count_of
count_typed byte = omega arith

-- a byte of a file is the byte of its halves
pub byte_again : (byte : ℕ) → byte < 256 → count_byte (nature_of byte) (count_of byte) ≡ byte
unfolding nature_of count_of
byte_again byte h =
    both_lt byte 128 (λ (x : Nature). count_byte x (byte % 128) ≡ byte) National International (λ l. omega arith) (λ l. omega arith)

-- a number with fewer than 128 digits is the number of its byte
pub number_again : (n : Number) → n.count < 128 → number_by (count_byte n.nature n.count) n.value ≡ n
number_again n h = by-nature n.nature n.count n.value h
  where
    by-nature : (x : Nature) (count value : ℕ) → count < 128
        → number_by (count_byte x count) value ≡ record { nature = x; count = count; value = value }
    by-nature National count value g = number_equal (at_home count g) (home_count count g) refl
    by-nature International count value g = number_equal (from_abroad (128 + count) (omega arith)) (abroad_count count g) refl

-- ---- of a number in range

byte_small : (x : Nature) (count : ℕ) → count < 128 → count_byte x count < 256
byte_small National count h = omega arith
byte_small International count h = omega arith

-- a value below ten to the count, of at most 15 digits: past 15 none is in range
few_digits : (t : Bool) (value top : ℕ) → ltb value (pickℕ t top 0) ≡ true → (t ≡ true) × (value < top)
few_digits true value top h = (refl, ltb-true value top h)
few_digits false value top h = let l : value < 0 = ltb-true value 0 h in absurd (omega arith)

pub in_range_value : (n : Number) → in_range n ≡ true → (leb n.count 15 ≡ true) × (n.value < 10 ^ n.count)
in_range_value n h = few_digits (leb n.count 15) n.value (10 ^ n.count) (left _ (national n.nature || leb 1 n.count) h)

pub there_small : (n : Number) → number_there n ≡ true → n.count < 128
there_small n h =
    let l : n.count ≤ 15 = leb-true n.count 15 (in_range_value n (left (in_range n) _ h)).0 in omega arith

-- a number that is there fits its types
digits_fit : (count : ℕ) → count ≤ 15 → 10 ^ count ≤ 10 ^ 15
digits_fit count h = leb-true (10 ^ count) (10 ^ 15) (told _ (below (λ (k : ℕ). leb (10 ^ k) (10 ^ 15)) 16 tt count (omega arith)))
  where
    told : (b : Bool) → T b → b ≡ true
    told true t = refl
    told false t = absurd t

pub there_typed : (n : Number) → number_there n ≡ true → TypedNumber n
there_typed n h =
    let (l, v) = in_range_value n (left (in_range n) _ h) in
    let c : n.count ≤ 15 = leb-true n.count 15 l in
    let d : 10 ^ n.count ≤ 10 ^ 15 = digits_fit n.count c in
    (omega arith, omega arith)

-- one that is there where a part names it, and absent where none does
pub named_small : (b : Bool) (n : Number) → number_ok b n ≡ true → n.count < 128
named_small true n h = there_small n (or_none_lem _ h)
named_small false n h = let c : n.count ≡ 0 = eqb-true n.count 0 (left (eqb n.count 0) _ h) in omega arith

pub there_byte : (n : Number) → number_there n ≡ true → count_byte n.nature n.count < 256
there_byte n h = byte_small n.nature n.count (there_small n h)

pub named_byte : (b : Bool) (n : Number) → number_ok b n ≡ true → count_byte n.nature n.count < 256
named_byte b n h = byte_small n.nature n.count (named_small b n h)

no_sign : (x : Nature) (count : ℕ) → national x ≡ true → count_byte x count ≡ count
no_sign National count h = refl
no_sign International count h = differ h

pub absent_byte : (n : Number) → number_absent n ≡ true → (count_byte n.nature n.count ≡ 0) × (n.value ≡ 0)
absent_byte n h =
    let t = right (eqb n.count 0) _ h in
    (no_sign n.nature n.count (right (eqb n.value 0) _ t) ∙ eqb-true n.count 0 (left (eqb n.count 0) _ h), eqb-true n.value 0 (left (eqb n.value 0) _ t))
