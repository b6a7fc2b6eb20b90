-- A dump of a file: each record's ordinal, its place, and what it says.
-- Assumes nothing.
use Rattle.std.specs.Prelude.{ℕ, ◌+◌, List, [], ◌∷◌, ◌++◌, length, None, Some, Ok, Err}
use Rattle.text.specs.Text.{ascii, decimal, numbered}
use Rattle.files.specs.Bodies.{Reading, read_at}
use Rattle.files.specs.Lines.{numbered_line}
use Rattle.files.specs.Places.{places_of}
use Rattle.files.specs.Words.{entry_words}
use Rattle.files.specs.declared.Unreadable.{Unreadable}
use Rattle.files.specs.declared.Unreadable.TheVariants.{CutShort, BadLength, UnknownKind}

-- why a record cannot be read
abbrev pub stop_text : Unreadable → List ℕ
stop_text CutShort = ascii " CUT-SHORT"
stop_text BadLength = ascii " BAD-LENGTH"
stop_text UnknownKind = ascii " UNKNOWN-KIND"

-- what a record says
abbrev pub found_text : Reading → List ℕ
found_text None = []
found_text (Some (Err e)) = stop_text e
found_text (Some (Ok r)) = entry_words r.acts r.event

-- a record's line: ordinal, place, what it says
unfoldable pub place_text : ℕ → Reading → ℕ → List ℕ
place_text ordinal found at = decimal ordinal ++ numbered (ascii " ") at ++ found_text found ++ ascii "\n"

-- the records at these places, n before them
unfoldable pub places_text : List ℕ → ℕ → List ℕ → List ℕ
places_text s n [] = []
places_text s n (at ∷ places) = place_text (n + 1) (read_at s at) at ++ places_text s (n + 1) places

-- the count, then a line for each record
unfoldable pub dump_of : List ℕ → List ℕ
dump_of s = numbered_line (ascii "RECORDS ") (length (places_of s)) ++ places_text s 0 (places_of s)

-- no record's line is longer
abbrev pub longest_place : ℕ
longest_place = 696
