-- Any two results that a contract of `wire` allows are the same: a law for each form that is not already in the Same.antt of `text`
-- (`same`: the readers, by their definitions; `wrote_same` there: the functions that put a piece on a page).
-- Assumes nothing.
use mathlib.Core.List.{List}
use mathlib.Core.Path.{◌≡◌}
use Prim.Native.Nat.{ℕ}
use Rattle.std.proofs.Common.{Result}
use Rattle.text.proofs.Same.{same}
use Rattle.wire.specs.Texts.{written_of, leaves_of}
use Rattle.wire.specs.Writable.{bad_of}
use Rattle.wire.specs.declared.Component.{Component}
use Rattle.wire.specs.declared.Unwritten.{Unwritten}

-- What the writers say of a text t that a component is written as: the answer, and the bytes that the buffer then holds.
abbrev pub Wrote : Component → List ℕ → List ℕ → Result ℕ Unwritten → List ℕ → Type 0
Wrote c t old w new = (w ≡ written_of (bad_of c) t old) × (new ≡ leaves_of (bad_of c) t old)

-- For one component and buffer there is one answer, and one content of the buffer after it.
pub wrote_same : (c : Component) (t old : List ℕ) {w w' : Result ℕ Unwritten} {new new' : List ℕ} → Wrote c t old w new → Wrote c t old w' new' → (w ≡ w') × (new ≡ new')
wrote_same c t old p q = (same p.0 q.0, same p.1 q.1)
