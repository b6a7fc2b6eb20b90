-- The event that a line's words say, and its slot.
-- Assumes nothing.
use Rattle.std.specs.Prelude.{◌≡◌, ℕ, List, ◌++◌, Option, None, Some}
use Rattle.text.specs.Text.{ascii}
use Rattle.files.specs.Words.{entry_words}
use Rattle.files.specs.declared.Where.{Where}
use Rattle.rows.specs.declared.Event.{Event}

-- what is known of a line is said by it, word for word: the line is the words of slot and event without the blank that they begin with
abbrev pub Right : List ℕ → Option (Where × Event) → Type 0
Right line None = Unit {0}
Right line (Some (w, e)) = ascii " " ++ line ≡ entry_words w e
