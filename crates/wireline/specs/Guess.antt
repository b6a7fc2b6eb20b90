-- The component that a line says, and what comes of writing it.
-- Assumes nothing.
use Rattle.std.specs.Prelude.{◌≡◌, ℕ, List, Option, None, Some, Result}
use Rattle.wire.specs.Texts.{component_text, written_of, leaves_of}
use Rattle.wire.specs.Writable.{bad_of}
use Rattle.wire.specs.declared.Component.{Component}
use Rattle.wire.specs.declared.Unwritten.{Unwritten}
use Rattle.wireline.specs.Lines.{line_in}

-- a line that is understood is the line of the component, word for word
abbrev pub Right : List ℕ → Option (ℕ × Component) → Type 0
Right line None = Unit {0}
Right line (Some (forms, c)) = line ≡ line_in forms c

-- the line's component was written: 3, then 8, then its length; and its bytes
pub record WrittenAs (line old new : List ℕ) (w : Result ℕ Unwritten) : Type 0 where
  pub forms : ℕ
  pub component : Component
  pub said : line ≡ line_in forms component
  pub answer : w ≡ written_of (bad_of component) (component_text component) old
  pub left : new ≡ leaves_of (bad_of component) (component_text component) old

abbrev pub Wrote : List ℕ → List ℕ → List ℕ → Option (Result ℕ Unwritten) → Type 0
Wrote line old new None = new ≡ old
Wrote line old new (Some w) = WrittenAs line old new w
