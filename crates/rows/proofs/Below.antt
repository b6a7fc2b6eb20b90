-- A rule of all numbers below a bound, by one test that antt computes.
-- Assumes nothing.
use mathlib.Core.Path.{◌≡◌, refl, sym, subst}
use mathlib.Core.Bool.{Bool, true, false}
use Prim.Native.Nat.{ℕ, zero, suc, ◌<◌}
use native.Mathlib.Nat.{not-suc-le-zero}
use native.Mathlib.Omega.{arith}
use lib.Dec.{T, eqb}
use borrow.Author.Tests.{eqb-true, eqb-false}

abbrev pub both : Bool → Bool → Bool
both true b = b
both false b = false

both_left : (a b : Bool) → T (both a b) → T a
both_left true b t = tt
both_left false b t = t

both_right : (a b : Bool) → T (both a b) → T b
both_right true b t = t
both_right false b t = absurd t

-- the test passes at each number below n
abbrev pub every : (ℕ → Bool) → ℕ → Bool
every f zero = true
every f (suc n) = both (f n) (every f n)

split : (f : ℕ → Bool) (n k : ℕ) (b : Bool) → eqb k n ≡ b → T (f n) → (k < n → T (f k)) → k < suc n → T (f k)
split f n k true e t r h = subst (λ (m : ℕ). T (f m)) (sym (eqb-true k n e)) t
split f n k false e t r h = r (omega (arith, eqb-false k n e))

pub below : (f : ℕ → Bool) (n : ℕ) → T (every f n) → (k : ℕ) → k < n → T (f k)
below f zero t k h = absurd (not-suc-le-zero h)
below f (suc n) t k h = split f n k (eqb k n) refl (both_left (f n) (every f n) t) (below f n (both_right (f n) (every f n) t) k) h
