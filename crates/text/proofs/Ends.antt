-- Where a text of digits ends: at the first byte that is no digit. So it can be told from the text that stands after it.
-- Assumes nothing.
use mathlib.Core.Path.{◌≡◌, refl, sym, ap, ◌∙◌}
use mathlib.Core.List.{List, [], ◌∷◌, ◌++◌, head-eq_of_cons-eq, tail-eq_of_cons-eq}
use mathlib.Core.Logic.{◌⊎◌, inl, inr}
use Prim.Native.Nat.{ℕ, zero, suc, ◌/◌, ◌^◌, ◌≤◌, ◌<◌}
use native.Mathlib.Omega.{arith}
use lib.ListN.{length, length-append}
use Rattle.text.specs.Text.{digit_of, last_digits}
use Rattle.text.specs.Value.{AllDigits, NoDigit, value_of}
use Rattle.text.proofs.Decimal.{digits_value}

-- a digit is not what no digit begins with
digit_or_not : {A : Type 0} (c : ℕ) → 48 ≤ c → c ≤ 57 → (c < 48) ⊎ (57 < c) → A
digit_or_not c p q (inl h) = absurd (omega arith)
digit_or_not c p q (inr h) = absurd (omega arith)

-- a text that no digit begins has no digit in front
never_first : {A : Type 0} (s : List ℕ) (x : ℕ) (t : List ℕ) → NoDigit s → 48 ≤ x → x ≤ 57 → s ≡ x ∷ t → A
never_first [] x t m p q h = let z : ◌≡◌ {A = ℕ} 0 1 = cc in absurd (omega arith)
never_first (c ∷ s) x t m p q h =
    let e : c ≡ x = head-eq_of_cons-eq h in
    digit_or_not c (omega arith) (omega arith) m

-- Digits, and then a text that no digit begins: which digits they are, and which text stands after them, can be read off the whole.
pub digits_end : (d e s t : List ℕ) → AllDigits d → AllDigits e → NoDigit s → NoDigit t → d ++ s ≡ e ++ t → (d ≡ e) × (s ≡ t)
digits_end [] [] s t p q m n h = (refl, h)
digits_end [] (y ∷ e) s t p q m n h = never_first s y (e ++ t) m q.0 q.1 h
digits_end (x ∷ d) [] s t p q m n h = never_first t x (d ++ s) n p.0 p.1 (sym h)
digits_end (x ∷ d) (y ∷ e) s t p q m n h =
    let r = digits_end d e s t p.2 q.2 m n (tail-eq_of_cons-eq h) in
    ((λ i. head-eq_of_cons-eq h i ∷ r.0 i), r.1)

pub digits_length : (k n : ℕ) → length (last_digits k n) ≡ k
unfolding last_digits
digits_length zero n = refl
digits_length (suc k) n =
    omega (arith, length-append (last_digits k (n / 10)) (digit_of n ∷ []), digits_length k (n / 10))

-- The last digits of a number, as many as it needs or more: how many they are and of which number they are can be read off them.
pub digits_apart : (j k m n : ℕ) → m < 10 ^ j → n < 10 ^ k → last_digits j m ≡ last_digits k n → (j ≡ k) × (m ≡ n)
digits_apart j k m n f g h =
    (sym (digits_length j m) ∙ ap length h ∙ digits_length k n, sym (digits_value j m f) ∙ ap value_of h ∙ digits_value k n g)
