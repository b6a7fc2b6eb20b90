-- The listing of a file: a list of bytes computed from the file's bytes.
-- Assumes nothing.
use Rattle.std.specs.Prelude.{ℕ, ◌+◌, Bool, true, false, ◌||◌, List, [], ◌∷◌, ◌++◌, slice_index_or, None, Some, Ok, Err}
use Rattle.text.specs.Choose.{if_lt}
use Rattle.text.specs.Text.{ascii}
use Rattle.board.specs.Numbers.{no_such_slot, slots}
use Rattle.board.specs.Row.{answer_at, row_after, empty_row}
use Rattle.rows.specs.Perform.{refused_of}
use Rattle.rows.specs.Step.{step_of, unopened_call}
use Rattle.rows.specs.declared.Call.{Call}
use Rattle.rows.specs.declared.Outcome.{Outcome}
use Rattle.files.specs.Bodies.{Reading, read_at}
use Rattle.files.specs.Frames.{stop_number, Framing}
use Rattle.files.specs.Lines.{numbered_line, record_text}
use Rattle.files.specs.Places.{places_of}
use Rattle.files.specs.declared.Where.{Where}
use Rattle.files.specs.declared.Where.TheVariants.{Plain, Slot}

-- ---- The slot of a record. 02 #107: "A plain record of kind 1 to 6 acts on slot 0"; "after 5, 6 or 7, slot 0 and its call"

abbrev pub slot_of : Where → ℕ
slot_of Plain = 0
slot_of (Slot i) = i

abbrev pub slot_found : Reading → ℕ
slot_found None = 0
slot_found (Some (Err e)) = 0
slot_found (Some (Ok r)) = slot_of r.acts

-- whether it is a record of kind 7
abbrev pub is_slot : Where → Bool
is_slot Plain = false
is_slot (Slot i) = true

abbrev pub names_slot : Reading → Bool
names_slot None = false
names_slot (Some (Err e)) = false
names_slot (Some (Ok r)) = is_slot r.acts

-- the same of a frame, and the place after it: what a listing goes by, so that an event is read where it is answered
abbrev pub slot_framed : Framing → ℕ
slot_framed (Err e) = 0
slot_framed (Ok f) = slot_of f.acts

abbrev pub names_framed : Framing → Bool
names_framed (Err e) = false
names_framed (Ok f) = is_slot f.acts

abbrev pub after_frame : Framing → ℕ → ℕ
after_frame (Err e) stay = stay
after_frame (Ok f) stay = f.next

-- ---- The answer to what stands at a place of a file

-- by a slot that is there, or is not, and its call; where nothing stands there is nothing to answer, and no listing asks for it
abbrev pub answer_of : Reading → Bool → Call → Outcome
answer_of None there c = refused_of 0 c
answer_of (Some (Err e)) there c = refused_of (stop_number e) c
answer_of (Some (Ok r)) true c = step_of c r.event
answer_of (Some (Ok r)) false c = refused_of no_such_slot c

-- by the row (crates/board/specs/Row.antt), and the row after it
abbrev pub answer_by : Reading → List Call → Outcome
answer_by None row = refused_of 0 (slice_index_or row 0 unopened_call)
answer_by (Some (Err e)) row = refused_of (stop_number e) (slice_index_or row 0 unopened_call)
answer_by (Some (Ok r)) row = answer_at row (slot_of r.acts) r.event

abbrev pub row_by : Reading → List Call → List Call
row_by None row = row
row_by (Some (Err e)) row = row
row_by (Some (Ok r)) row = row_after row (slot_of r.acts) r.event

-- a slot's place in the row of a listing, where a call that is never opened stands past the last slot
unfoldable pub index_of : ℕ → ℕ
index_of i = if_lt i slots i slots

-- ---- The listing

-- The records at these places, n of them shown before and the row as those left it, with their slots or without: record by record, and
-- "last `END` and the count of records shown".
unfoldable pub rest_of : List ℕ → Bool → ℕ → List Call → List ℕ → List ℕ
rest_of s shown n row [] = numbered_line (ascii "END ") n
rest_of s shown n row (at ∷ places) =
    record_text (n + 1) shown (slot_found (read_at s at)) (answer_by (read_at s at) row)
    ++ rest_of s shown (n + 1) (row_by (read_at s at) row) places

-- every record; "The program's row has 64 slots"
unfoldable pub records_of : List ℕ → Bool → List ℕ
records_of s shown = rest_of s shown 0 empty_row (places_of s)

-- "a first line `REV 1`"
unfoldable pub listing_by : Bool → List ℕ → List ℕ
listing_by shown s = ascii "REV 1\n" ++ records_of s shown

-- "Where no record of kind 7 passes the framing, lines have no slot": slots stand on all lines or on none, and a record counts that is
-- read before the reading stops, whatever it is then answered
unfoldable pub names_in : List ℕ → List ℕ → Bool
names_in s [] = false
names_in s (at ∷ places) = names_slot (read_at s at) || names_in s places

unfoldable pub names_slots : List ℕ → Bool
names_slots s = names_in s (places_of s)

unfoldable pub listing_of : List ℕ → List ℕ
listing_of s = listing_by (names_slots s) s
