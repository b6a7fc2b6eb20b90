-- The writer of events: what it answers, and what the lent buffer then holds. 02 #102: "A field out of range is refused with the lent
-- buffer unchanged, and so is a record longer than the room in it. Refusals: 3, then 8." 02 #106: "Where 3 is told, give the field's ordinal
-- in the body as well, first bad field first".
-- Assumes nothing.
use Rattle.std.specs.Prelude.{ℕ, ◌+◌, ◌*◌, Bool, true, false, List, ◌++◌, length, drop, None, Some, Result, Ok, Err}
use Rattle.text.specs.Choose.{if_lt, if_so}
use Rattle.rows.specs.Valid.{event_ok, bad_field_of}
use Rattle.rows.specs.declared.Event.{Event}
use Rattle.rows.specs.declared.Event.TheVariants.{Received}
use Rattle.rows.specs.declared.Nature.{Nature}
use Rattle.rows.specs.declared.Nature.TheVariants.{National, International}
use Rattle.rows.specs.declared.Number.{Number}
use Rattle.files.specs.Bodies.{component_of, Reading, record_of, slotted_of}
use Rattle.files.specs.Frames.{cut_short, stop_number}
use Rattle.files.specs.declared.Unwritten.{Unwritten}
use Rattle.files.specs.declared.Unwritten.TheVariants.{BadField, NoRoom}

-- the whole record with its length, or why it was not written: the fields are judged first
unfoldable pub written_of : Event → List ℕ → Result ℕ Unwritten
written_of e out = if_so (event_ok e) (if_lt (length out) (length (record_of e)) (Err NoRoom) (Ok (length (record_of e)))) (Err (BadField (bad_field_of e)))

-- the record, then the bytes that stood there; on a refusal every byte as it was
unfoldable pub left_of : Event → List ℕ → List ℕ
left_of e out = if_so (event_ok e) (if_lt (length out) (length (record_of e)) out (record_of e ++ drop (length (record_of e)) out)) out

-- The same of a record of kind 7 at the slot i. 02 #107: "two bytes of slot, then a whole inner record": the fields are those of the inner
-- body, and any slot of two bytes is written, since it is the board that says 19
unfoldable pub written_at : ℕ → Event → List ℕ → Result ℕ Unwritten
written_at i e out =
    if_so (event_ok e)
    (if_lt (length out) (length (slotted_of i (record_of e))) (Err NoRoom) (Ok (length (slotted_of i (record_of e)))))
    (Err (BadField (bad_field_of e)))

unfoldable pub left_at : ℕ → Event → List ℕ → List ℕ
left_at i e out =
    if_so (event_ok e)
    (if_lt (length out) (length (slotted_of i (record_of e))) out (slotted_of i (record_of e) ++ drop (length (slotted_of i (record_of e))) out))
    out

-- the number of each answer, the ordinal of the field that it tells, which is 0 beside every number but 3, and how many bytes it wrote
abbrev pub number_of : Result ℕ Unwritten → ℕ
number_of (Ok n) = 0
number_of (Err (BadField k)) = 3
number_of (Err NoRoom) = 8

abbrev pub field_of : Result ℕ Unwritten → ℕ
field_of (Ok n) = 0
field_of (Err (BadField k)) = k
field_of (Err NoRoom) = 0

abbrev pub bytes_written : Result ℕ Unwritten → ℕ
bytes_written (Ok n) = n
bytes_written (Err (BadField k)) = 0
bytes_written (Err NoRoom) = 0

-- what a host in C is given back: number and ordinal in one
abbrev pub gives_back : Result ℕ Unwritten → ℕ
gives_back answer = number_of answer + 256 * field_of answer

-- ---- a host in C hands over a plain record, to stand inside one of kind 7: why it cannot be read, or what is answered to its event; an
-- empty one lacks its length

abbrev pub slot_gives : Reading → ℕ → List ℕ → ℕ
slot_gives None i out = cut_short
slot_gives (Some (Err e)) i out = stop_number e
slot_gives (Some (Ok r)) i out = gives_back (written_at i r.event out)

abbrev pub slot_leaves : Reading → ℕ → List ℕ → List ℕ
slot_leaves None i out = out
slot_leaves (Some (Err e)) i out = out
slot_leaves (Some (Ok r)) i out = left_at i r.event out

-- ---- a host in C passes numbers

-- a telephone number by whether it is international, its count and its value
abbrev pub nature_with : Bool → Nature
nature_with false = National
nature_with true = International

abbrev pub number_with : Bool → ℕ → ℕ → Number
number_with international count value = record { nature = nature_with international; count = count; value = value }

-- a message by its fields, the component by its code and the byte after it
abbrev pub message_with : ℕ → ℕ → ℕ → ℕ → ℕ → Number → Number → ℕ → Event
message_with kind cause code item parts calling called duration =
    Received
    (record {
      kind = kind;
      cause = cause;
      component = component_of code item;
      parts = parts;
      calling = calling;
      called = called;
      duration = duration;
    })
