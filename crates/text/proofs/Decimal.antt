-- The text of a number is digits, one at least, and says that number.
-- Assumes nothing.
use mathlib.Core.Path.{◌≡◌, refl, ◌∙◌}
use mathlib.Core.List.{List, [], ◌∷◌, ◌++◌}
use Prim.Native.Nat.{ℕ, zero, suc, ◌+◌, ◌*◌, ◌-◌, ◌/◌, ◌^◌, ◌≤◌, ◌<◌}
use native.Mathlib.Nat.{pow-suc}
use native.Mathlib.Omega.{arith}
use lib.ListN.{length, length-append}
use Rattle.text.specs.Choose.{if_lt}
use Rattle.text.specs.Text.{digit_of, last_digits, decimal_by, decimal}
use Rattle.text.specs.Value.{AllDigits, value_from, value_of}
use Rattle.text.proofs.Cases.{both_lt}

-- ---- What it says

-- one digit more
value_on : (m : ℕ) (t : List ℕ) (d : ℕ) → value_from m (t ++ (d ∷ [])) ≡ 10 * value_from m t + (d - 48)
value_on m [] d = refl
value_on m (x ∷ t) d = value_on (10 * m + (x - 48)) t d

-- A number of at most k digits is what its decimal of at most k digits says.
pub by_value : (k n : ℕ) → n < 10 ^ k → value_of (decimal_by k n) ≡ n
unfolding decimal_by
by_value zero n h = omega arith
by_value (suc k) n h =
    let t = decimal_by k (n / 10) in
    let g : n / 10 < 10 ^ k = omega (arith, pow-suc 10 k) in
    value_on 0 (if_lt n 10 [] t) (digit_of n)
    ∙ both_lt n 10 (λ (l : List ℕ). 10 * value_of l + (digit_of n - 48) ≡ n) [] t
    (λ p. omega arith) (λ _. omega (arith, by_value k (n / 10) g))

-- A number of at most ten digits, as every number of 32 bits is, is what its text says.
pub decimal_value : (n : ℕ) → n < 10 ^ 10 → value_of (decimal n) ≡ n
unfolding decimal
decimal_value n h = by_value 10 n h

-- A number of at most k digits is what its last k digits say, the zeros in front among them.
pub digits_value : (k n : ℕ) → n < 10 ^ k → value_of (last_digits k n) ≡ n
unfolding last_digits
digits_value zero n h = omega arith
digits_value (suc k) n h =
    let g : n / 10 < 10 ^ k = omega (arith, pow-suc 10 k) in
    value_on 0 (last_digits k (n / 10)) (digit_of n) ∙ omega (arith, digits_value k (n / 10) g)

-- ---- Digits, and one at least

digits_more : (t : List ℕ) (n : ℕ) → AllDigits t → AllDigits (t ++ (digit_of n ∷ []))
digits_more [] n h = (omega arith, omega arith, tt)
digits_more (x ∷ t) n h = (h.0, h.1, digits_more t n h.2)

-- .. and that is digits and nothing else.
pub by_digits : (k n : ℕ) → AllDigits (decimal_by k n)
unfolding decimal_by
by_digits zero n = tt
by_digits (suc k) n =
    let t = decimal_by k (n / 10) in
    digits_more (if_lt n 10 [] t) n (both_lt n 10 AllDigits [] t (λ _. tt) (λ _. by_digits k (n / 10)))

-- The text of a number is digits and nothing else.
pub decimal_digits : (n : ℕ) → AllDigits (decimal n)
unfolding decimal
decimal_digits n = by_digits 10 n

-- So are its last k digits.
pub last_digits_lem : (k n : ℕ) → AllDigits (last_digits k n)
unfolding last_digits
last_digits_lem zero n = tt
last_digits_lem (suc k) n = digits_more (last_digits k (n / 10)) n (last_digits_lem k (n / 10))

-- A number's text has a digit at least.
pub decimal_some : (n : ℕ) → 1 ≤ length (decimal n)
unfolding decimal decimal_by
decimal_some n = omega (arith, length-append (if_lt n 10 [] (decimal_by 9 (n / 10))) (digit_of n ∷ []))
