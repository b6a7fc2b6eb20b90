-- Whatever is read is the module's: its kind, and its operation or error.
-- Assumes nothing.
use mathlib.Core.Path.{◌≡◌}
use mathlib.Core.List.{List}
use Prim.Native.Nat.{ℕ, ◌≤◌}
use Rattle.wire.specs.Grammar.{component_of}
use Rattle.wire.specs.declared.Component.{Component}
use Rattle.wire.proofs.Fits.{Shaped, read_fits}
use Rattle.std.specs.Prelude.{Ok}

-- an invoke or a result of an operation 1 to 3; an error 4 to 12; a reject
pub data Listed (k n : ℕ) : Type 0 where
  calls : k ≡ 1 → 1 ≤ n → n ≤ 3 → Listed k n
  answers : k ≡ 2 → 1 ≤ n → n ≤ 3 → Listed k n
  fails : k ≡ 3 → 4 ≤ n → n ≤ 12 → Listed k n
  rejects : k ≡ 4 → n ≡ 0 → Listed k n

shaped_listed : (k n p : ℕ) → Shaped k n p → Listed k n
shaped_listed k n p (Shaped.calls e l h _) = calls e l h
shaped_listed k n p (Shaped.answers e l h _) = answers e l h
shaped_listed k n p (Shaped.fails e l h _) = fails e l h
shaped_listed k n p (Shaped.rejects e l _) = rejects e l

-- No operation and no error is read that the module does not list, whatever the bytes.
pub read_listed : (s : List ℕ) (at next : ℕ) (c : Component) → component_of s at ≡ Ok (c, next) → Listed c.kind c.item
read_listed s at next c e = shaped_listed _ _ _ (read_fits s at next c e).shaped
