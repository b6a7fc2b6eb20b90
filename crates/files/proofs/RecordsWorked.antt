-- Worked records, one kind after another: the bytes that the writer has for an event, the event that the reader has for the bytes, and each
-- refusal with the buffer that it leaves. The definitions compute.
-- Assumes nothing.
use Rattle.std.proofs.Common.{◌≡◌, ℕ, Ok, Err, true, false, [], ◌∷◌, refl}
use Rattle.text.specs.Choose.{if_lt, if_le, if_eq, if_so}
use Rattle.rows.specs.Telephone.{absent}
use Rattle.rows.specs.declared.Component.{Component}
use Rattle.rows.specs.declared.Component.TheVariants.{Absent, Invoke, Result, Error, Reject, Unknown}
use Rattle.rows.specs.declared.Event.{Event}
use Rattle.rows.specs.declared.Event.TheVariants.{Opening, Ask, Received, FromAccess, Expiry, Time}
use Rattle.rows.specs.declared.Nature.TheVariants.{National, International}
use Rattle.rows.specs.declared.Number.{Number}
use Rattle.files.specs.Bodies.{nature_of, count_of, opening_at, ask_at, component_of, number_if, message_at, access_at, time_at, event_at, read_at, head_of}
use Rattle.files.specs.Bodies.{record_of, slot_head, slotted_of, entry_of, plain_at}
use Rattle.files.specs.Bytes.{le_at, le_of}
use Rattle.files.specs.Fields.{size_of, values_at, bytes_of}
use Rattle.files.specs.Frames.{length_of, plain_of, plain_frame, kindless_of, outer_of, slotted_frame, frame_at}
use Rattle.files.specs.Write.{written_of, left_of, written_at, left_at, gives_back, slot_gives, slot_leaves, number_with}
use Rattle.files.specs.Bodies.{got, stopped}
use Rattle.files.specs.declared.Where.TheVariants.{Plain, Slot}
use Rattle.files.specs.declared.Unwritten.TheVariants.{BadField, NoRoom}
use Rattle.files.specs.declared.Unreadable.TheVariants.{CutShort, BadLength, UnknownKind}

own : Number
own = record { nature = National; count = 7; value = 5550100 }

called : Number
called = record { nature = National; count = 7; value = 5550123 }

-- of fifteen digits, abroad: its count byte is 128 + 15
long : Number
long = record { nature = International; count = 15; value = 123456789012345 }

-- 02 #103: two rooms that share the digits 5550123
abroad : Number
abroad = record { nature = International; count = 7; value = 5550123 }

-- "A count of 0 has the bit clear"
digitless : Number
digitless = record { nature = International; count = 0; value = 0 }

message : ℕ → ℕ → Component → ℕ → Number → Number → ℕ → Event
message kind cause component parts calling dialled duration =
    Received (record { kind = kind; cause = cause; component = component; parts = parts; calling = calling; called = dialled; duration = duration })

-- ---- what is written

opening_bytes : record_of (Opening 0 8 own) ≡ 13 ∷ 0 ∷ 1 ∷ 0 ∷ 0 ∷ 8 ∷ 7 ∷ 20 ∷ 176 ∷ 84 ∷ 0 ∷ 0 ∷ 0 ∷ 0 ∷ 0 ∷ []
unfolding own record_of head_of bytes_of size_of le_of
opening_bytes = refl

request_bytes : record_of (Ask 1 called) ≡ 12 ∷ 0 ∷ 2 ∷ 0 ∷ 1 ∷ 7 ∷ 43 ∷ 176 ∷ 84 ∷ 0 ∷ 0 ∷ 0 ∷ 0 ∷ 0 ∷ []
unfolding called record_of head_of bytes_of size_of le_of
request_bytes = refl

abroad_bytes : record_of (Ask 1 abroad) ≡ 12 ∷ 0 ∷ 2 ∷ 0 ∷ 1 ∷ 135 ∷ 43 ∷ 176 ∷ 84 ∷ 0 ∷ 0 ∷ 0 ∷ 0 ∷ 0 ∷ []
unfolding abroad record_of head_of bytes_of size_of le_of
abroad_bytes = refl

-- an ANM with the result of SETUP has no parts; a FAC with all of them has the longest record
answer_bytes : record_of (message 2 0 (Result 1) 0 absent absent 0) ≡ 7 ∷ 0 ∷ 3 ∷ 0 ∷ 2 ∷ 0 ∷ 2 ∷ 1 ∷ 0 ∷ []
unfolding message record_of head_of bytes_of size_of le_of
answer_bytes = refl

message_bytes : record_of (message 5 0 (Invoke 3) 127 long called 305419896)
    ≡ 29 ∷ 0 ∷ 3 ∷ 0 ∷ 5 ∷ 0 ∷ 1 ∷ 3 ∷ 127 ∷ 143 ∷ 121 ∷ 223 ∷ 13 ∷ 134 ∷ 72 ∷ 112 ∷ 0 ∷ 0 ∷ 7 ∷ 43 ∷ 176 ∷ 84 ∷ 0 ∷ 0 ∷ 0 ∷ 0 ∷ 0 ∷ 120 ∷ 86 ∷ 52 ∷ 18 ∷ []
unfolding message long called record_of head_of bytes_of size_of le_of
message_bytes = refl

-- the called number alone stands directly behind the parts
called_bytes : record_of (message 1 0 (Absent 0) 32 absent called 0)
    ≡ 16 ∷ 0 ∷ 3 ∷ 0 ∷ 1 ∷ 0 ∷ 0 ∷ 0 ∷ 32 ∷ 7 ∷ 43 ∷ 176 ∷ 84 ∷ 0 ∷ 0 ∷ 0 ∷ 0 ∷ 0 ∷ []
unfolding message called record_of head_of bytes_of size_of le_of
called_bytes = refl

-- a REL with cause 16 and error 9; a FAC with a reject
error_bytes : record_of (message 4 16 (Error 9) 0 absent absent 0) ≡ 7 ∷ 0 ∷ 3 ∷ 0 ∷ 4 ∷ 16 ∷ 3 ∷ 9 ∷ 0 ∷ []
unfolding message record_of head_of bytes_of size_of le_of
error_bytes = refl

reject_bytes : record_of (message 5 0 (Reject 0) 0 absent absent 0) ≡ 7 ∷ 0 ∷ 3 ∷ 0 ∷ 5 ∷ 0 ∷ 4 ∷ 0 ∷ 0 ∷ []
unfolding message record_of head_of bytes_of size_of le_of
reject_bytes = refl

access_bytes : record_of (FromAccess 2 12) ≡ 4 ∷ 0 ∷ 4 ∷ 0 ∷ 2 ∷ 12 ∷ []
unfolding record_of head_of bytes_of size_of le_of
access_bytes = refl

expiry_bytes : record_of Expiry ≡ 2 ∷ 0 ∷ 5 ∷ 0 ∷ []
unfolding record_of head_of bytes_of size_of le_of
expiry_bytes = refl

-- 01: "Sixty seconds are `06 00 06 00 3C 00 00 00`"
time_bytes : record_of (Time 60) ≡ 6 ∷ 0 ∷ 6 ∷ 0 ∷ 60 ∷ 0 ∷ 0 ∷ 0 ∷ []
unfolding record_of head_of bytes_of size_of le_of
time_bytes = refl

-- ---- what is read of it, at a place with bytes around it

opening_read : read_at (99 ∷ 13 ∷ 0 ∷ 1 ∷ 0 ∷ 0 ∷ 8 ∷ 7 ∷ 20 ∷ 176 ∷ 84 ∷ 0 ∷ 0 ∷ 0 ∷ 0 ∷ 0 ∷ 99 ∷ []) 1 ≡ got Plain (Opening 0 8 own) 16
unfolding own read_at frame_at plain_frame plain_of length_of event_at opening_at number_if nature_of count_of size_of values_at le_at if_lt if_le if_eq if_so
opening_read = refl

request_read : read_at (99 ∷ 12 ∷ 0 ∷ 2 ∷ 0 ∷ 1 ∷ 7 ∷ 43 ∷ 176 ∷ 84 ∷ 0 ∷ 0 ∷ 0 ∷ 0 ∷ 0 ∷ 99 ∷ []) 1 ≡ got Plain (Ask 1 called) 15
unfolding called read_at frame_at plain_frame plain_of length_of event_at ask_at number_if nature_of count_of size_of values_at le_at if_lt if_le if_eq if_so
request_read = refl

abroad_read : read_at (99 ∷ 12 ∷ 0 ∷ 2 ∷ 0 ∷ 1 ∷ 135 ∷ 43 ∷ 176 ∷ 84 ∷ 0 ∷ 0 ∷ 0 ∷ 0 ∷ 0 ∷ 99 ∷ []) 1 ≡ got Plain (Ask 1 abroad) 15
unfolding abroad read_at frame_at plain_frame plain_of length_of event_at ask_at number_if nature_of count_of size_of values_at le_at if_lt if_le if_eq if_so
abroad_read = refl

message_read : read_at
    (99 ∷ 29 ∷ 0 ∷ 3 ∷ 0 ∷ 5 ∷ 0 ∷ 1 ∷ 3 ∷ 127 ∷ 143 ∷ 121 ∷ 223 ∷ 13 ∷ 134 ∷ 72 ∷ 112 ∷ 0 ∷ 0 ∷ 7 ∷ 43 ∷ 176 ∷ 84 ∷ 0 ∷ 0 ∷ 0 ∷ 0 ∷ 0 ∷ 120 ∷ 86 ∷ 52 ∷ 18 ∷ 99 ∷ []) 1
    ≡ got Plain (message 5 0 (Invoke 3) 127 long called 305419896) 32
unfolding message long called read_at frame_at plain_frame plain_of length_of event_at message_at component_of number_if nature_of count_of size_of values_at le_at if_lt if_le if_eq if_so
message_read = refl

access_read : read_at (99 ∷ 4 ∷ 0 ∷ 4 ∷ 0 ∷ 2 ∷ 12 ∷ 99 ∷ []) 1 ≡ got Plain (FromAccess 2 12) 7
unfolding read_at frame_at plain_frame plain_of length_of event_at access_at size_of values_at le_at if_lt if_le if_eq if_so
access_read = refl

expiry_read : read_at (99 ∷ 2 ∷ 0 ∷ 5 ∷ 0 ∷ 99 ∷ []) 1 ≡ got Plain Expiry 5
unfolding read_at frame_at plain_frame plain_of length_of event_at size_of values_at le_at if_lt if_le if_eq if_so
expiry_read = refl

time_read : read_at (99 ∷ 6 ∷ 0 ∷ 6 ∷ 0 ∷ 60 ∷ 0 ∷ 0 ∷ 0 ∷ 99 ∷ []) 1 ≡ got Plain (Time 60) 9
unfolding read_at frame_at plain_frame plain_of length_of event_at time_at size_of values_at le_at if_lt if_le if_eq if_so
time_read = refl

-- ---- what a host in C passes

passed_nature : (number_with true 7 5550123 ≡ abroad) × (number_with false 7 5550123 ≡ called)
unfolding abroad called
passed_nature = (refl, refl)

-- ---- what is answered, and what the buffer then holds

-- just room enough; a byte more, which stays; a byte less: 8, and nothing is written
expiry_written : (written_of Expiry (9 ∷ 9 ∷ 9 ∷ 9 ∷ []) ≡ Ok 4)
    × (left_of Expiry (9 ∷ 9 ∷ 9 ∷ 9 ∷ []) ≡ 2 ∷ 0 ∷ 5 ∷ 0 ∷ [])
    × (left_of Expiry (9 ∷ 9 ∷ 9 ∷ 9 ∷ 9 ∷ []) ≡ 2 ∷ 0 ∷ 5 ∷ 0 ∷ 9 ∷ [])
    × (written_of Expiry (9 ∷ 9 ∷ 9 ∷ []) ≡ Err NoRoom)
    × (left_of Expiry (9 ∷ 9 ∷ 9 ∷ []) ≡ 9 ∷ 9 ∷ 9 ∷ [])
unfolding written_of left_of record_of head_of bytes_of size_of le_of if_lt if_so
expiry_written = (refl, refl, refl, refl, refl)

-- a day and a second is 3, in room enough and in none: 3 comes before 8
time_refused : (written_of (Time 86401) (9 ∷ 9 ∷ 9 ∷ 9 ∷ 9 ∷ 9 ∷ 9 ∷ 9 ∷ []) ≡ Err (BadField 1))
    × (left_of (Time 86401) (9 ∷ 9 ∷ 9 ∷ 9 ∷ 9 ∷ 9 ∷ 9 ∷ 9 ∷ []) ≡ 9 ∷ 9 ∷ 9 ∷ 9 ∷ 9 ∷ 9 ∷ 9 ∷ 9 ∷ [])
    × (written_of (Time 86401) [] ≡ Err (BadField 1))
    × (written_of (Time 86400) [] ≡ Err NoRoom)
unfolding written_of left_of record_of head_of bytes_of size_of le_of if_lt if_so
time_refused = (refl, refl, refl, refl)

-- out of range: a number or a Duration that the parts do not name; part 4 without part 2; an unknown component; an error with no place
-- for one; an own number of no digits
fields_refused : (written_of (message 5 0 (Absent 0) 0 own absent 0) [] ≡ Err (BadField 5))
    × (written_of (message 5 0 (Absent 0) 16 own absent 1) [] ≡ Err (BadField 5))
    × (written_of (message 5 0 (Absent 0) 4 absent absent 0) [] ≡ Err (BadField 5))
    × (written_of (message 5 0 (Unknown 5 0) 0 absent absent 0) [] ≡ Err (BadField 3))
    × (written_of (message 5 0 (Reject 1) 0 absent absent 0) [] ≡ Err (BadField 4))
    × (written_of (FromAccess 1 12) [] ≡ Err (BadField 2))
    × (written_of (Opening 0 0 absent) [] ≡ Err (BadField 3))
unfolding message own written_of if_so
fields_refused = (refl, refl, refl, refl, refl, refl, refl)

-- a number of no digits that says it is international, whether a number is wanted there or not; and a count that is no number of digits
digitless_refused : (written_of (Opening 0 0 digitless) [] ≡ Err (BadField 3))
    × (written_of (Ask 0 digitless) [] ≡ Err (BadField 2))
    × (written_of (Ask 2 digitless) [] ≡ Err (BadField 2))
    × (written_of (Ask 2 absent) [] ≡ Err NoRoom)
    × (written_of (message 5 0 (Absent 0) 0 digitless absent 0) [] ≡ Err (BadField 5))
    × (written_of (message 5 0 (Absent 0) 0 absent digitless 0) [] ≡ Err (BadField 5))
    × (written_of (message 5 0 (Absent 0) 16 digitless absent 0) [] ≡ Err (BadField 6))
    × (written_of (message 5 0 (Absent 0) 32 absent digitless 0) [] ≡ Err (BadField 6))
    × (written_of (Ask 0 (record { nature = National; count = 135; value = 5550123 })) [] ≡ Err (BadField 2))
unfolding message digitless written_of record_of head_of bytes_of size_of le_of if_lt if_so
digitless_refused = (refl, refl, refl, refl, refl, refl, refl, refl, refl)

-- the first of several is told: every field of an opening and of a message, then the called number behind a good calling one. What a host
-- in C is given has the ordinal above the number
first_refused : (written_of (Opening 2 32 digitless) [] ≡ Err (BadField 1))
    × (written_of (Opening 1 32 digitless) [] ≡ Err (BadField 2))
    × (written_of (message 6 128 (Unknown 5 0) 4 digitless digitless 1) [] ≡ Err (BadField 1))
    × (written_of (message 5 128 (Unknown 5 0) 4 digitless digitless 1) [] ≡ Err (BadField 2))
    × (written_of (message 5 0 (Absent 0) 48 own digitless 0) [] ≡ Err (BadField 7))
    × (gives_back (written_of (message 5 0 (Absent 0) 48 own digitless 0) []) ≡ 1795)
unfolding message own digitless written_of if_so
first_refused = (refl, refl, refl, refl, refl, refl)

-- in range, whatever a row would say: any Duration of 4 bytes, any error
fields_in_range : (written_of (message 5 0 (Error 255) 64 absent absent 4294967295) [] ≡ Err NoRoom) × (written_of (FromAccess 2 255) [] ≡ Err NoRoom)
unfolding message written_of record_of head_of bytes_of size_of le_of if_lt if_so
fields_in_range = (refl, refl)

-- ---- records of kind 7. 02 #107: "two bytes of slot, then a whole inner record of kind 1 to 6"

-- sixty seconds at slot 5; the shortest, at a slot of two bytes; the longest
slotted_bytes : (entry_of (Slot 5) (Time 60) ≡ 12 ∷ 0 ∷ 7 ∷ 0 ∷ 5 ∷ 0 ∷ 6 ∷ 0 ∷ 6 ∷ 0 ∷ 60 ∷ 0 ∷ 0 ∷ 0 ∷ [])
    × (entry_of (Slot 300) Expiry ≡ 8 ∷ 0 ∷ 7 ∷ 0 ∷ 44 ∷ 1 ∷ 2 ∷ 0 ∷ 5 ∷ 0 ∷ [])
unfolding slotted_of slot_head record_of head_of bytes_of size_of le_of
slotted_bytes = (refl, refl)

longest_slotted_bytes : entry_of (Slot 5) (message 5 0 (Invoke 3) 127 long called 305419896)
    ≡ 35 ∷ 0 ∷ 7 ∷ 0 ∷ 5 ∷ 0 ∷ 29 ∷ 0 ∷ 3 ∷ 0 ∷ 5 ∷ 0 ∷ 1 ∷ 3 ∷ 127 ∷ 143 ∷ 121 ∷ 223 ∷ 13 ∷ 134 ∷ 72 ∷ 112 ∷ 0 ∷ 0 ∷ 7 ∷ 43 ∷ 176 ∷ 84 ∷ 0 ∷ 0 ∷ 0 ∷ 0 ∷ 0 ∷ 120 ∷ 86 ∷ 52 ∷ 18 ∷ []
unfolding message long called slotted_of slot_head record_of head_of bytes_of size_of le_of
longest_slotted_bytes = refl

-- read at a place with bytes around them
slotted_read : (read_at (99 ∷ 12 ∷ 0 ∷ 7 ∷ 0 ∷ 5 ∷ 0 ∷ 6 ∷ 0 ∷ 6 ∷ 0 ∷ 60 ∷ 0 ∷ 0 ∷ 0 ∷ 99 ∷ []) 1 ≡ got (Slot 5) (Time 60) 15)
    × (read_at (99 ∷ 8 ∷ 0 ∷ 7 ∷ 0 ∷ 44 ∷ 1 ∷ 2 ∷ 0 ∷ 5 ∷ 0 ∷ 99 ∷ []) 1 ≡ got (Slot 300) Expiry 11)
unfolding read_at frame_at plain_frame plain_of slotted_frame outer_of kindless_of length_of event_at time_at size_of values_at le_at if_lt if_le if_eq if_so
slotted_read = (refl, refl)

longest_slotted_read : read_at
    (35 ∷ 0 ∷ 7 ∷ 0 ∷ 5 ∷ 0 ∷ 29 ∷ 0 ∷ 3 ∷ 0 ∷ 5 ∷ 0 ∷ 1 ∷ 3 ∷ 127 ∷ 143 ∷ 121 ∷ 223 ∷ 13 ∷ 134 ∷ 72 ∷ 112 ∷ 0 ∷ 0 ∷ 7 ∷ 43 ∷ 176 ∷ 84 ∷ 0 ∷ 0 ∷ 0 ∷ 0 ∷ 0 ∷ 120 ∷ 86 ∷ 52 ∷ 18 ∷ []) 0
    ≡ got (Slot 5) (message 5 0 (Invoke 3) 127 long called 305419896) 37
unfolding message long called read_at frame_at plain_frame plain_of slotted_frame outer_of length_of event_at message_at component_of number_if nature_of count_of size_of values_at le_at if_lt if_le if_eq if_so
longest_slotted_read = refl

-- "6 if the inner length doesn't fill it": too short; too long, which is not 5; and before 7
not_filled : (read_at (9 ∷ 0 ∷ 7 ∷ 0 ∷ 5 ∷ 0 ∷ 2 ∷ 0 ∷ 5 ∷ 0 ∷ 99 ∷ []) 0 ≡ stopped BadLength)
    × (read_at (8 ∷ 0 ∷ 7 ∷ 0 ∷ 5 ∷ 0 ∷ 3 ∷ 0 ∷ 5 ∷ 0 ∷ 99 ∷ []) 0 ≡ stopped BadLength)
    × (read_at (9 ∷ 0 ∷ 7 ∷ 0 ∷ 5 ∷ 0 ∷ 2 ∷ 0 ∷ 8 ∷ 0 ∷ 99 ∷ []) 0 ≡ stopped BadLength)
unfolding read_at frame_at plain_frame plain_of slotted_frame outer_of kindless_of length_of event_at time_at size_of values_at le_at if_lt if_le if_eq if_so
not_filled = (refl, refl, refl)

-- "then 7": none of 1 to 6, and 7 is none of them; "then 6 for the kind": an expiry of three bytes
inner_kind : (read_at (8 ∷ 0 ∷ 7 ∷ 0 ∷ 5 ∷ 0 ∷ 2 ∷ 0 ∷ 8 ∷ 0 ∷ []) 0 ≡ stopped UnknownKind)
    × (read_at (8 ∷ 0 ∷ 7 ∷ 0 ∷ 5 ∷ 0 ∷ 2 ∷ 0 ∷ 7 ∷ 0 ∷ []) 0 ≡ stopped UnknownKind)
    × (read_at (16 ∷ 0 ∷ 7 ∷ 0 ∷ 5 ∷ 0 ∷ 10 ∷ 0 ∷ 7 ∷ 0 ∷ 5 ∷ 0 ∷ 2 ∷ 0 ∷ 5 ∷ 0 ∷ 0 ∷ 0 ∷ []) 0 ≡ stopped UnknownKind)
    × (read_at (9 ∷ 0 ∷ 7 ∷ 0 ∷ 5 ∷ 0 ∷ 3 ∷ 0 ∷ 5 ∷ 0 ∷ 0 ∷ []) 0 ≡ stopped BadLength)
unfolding read_at frame_at plain_frame plain_of slotted_frame outer_of kindless_of length_of event_at time_at size_of values_at le_at if_lt if_le if_eq if_so
inner_kind = (refl, refl, refl, refl)

-- "its length is 8 to 35": 36 is 6 whatever follows, and so is 7, if its bytes are there
slotted_lengths : (read_at (36 ∷ 0 ∷ 7 ∷ 0 ∷ []) 0 ≡ stopped BadLength)
    × (read_at (36 ∷ 0 ∷ []) 0 ≡ stopped BadLength)
    × (read_at (7 ∷ 0 ∷ 7 ∷ 0 ∷ 5 ∷ 0 ∷ 1 ∷ 0 ∷ 5 ∷ []) 0 ≡ stopped BadLength)
    × (read_at (7 ∷ 0 ∷ 7 ∷ 0 ∷ 5 ∷ 0 ∷ []) 0 ≡ stopped CutShort)
unfolding read_at frame_at plain_frame plain_of slotted_frame outer_of kindless_of length_of event_at time_at size_of values_at le_at if_lt if_le if_eq if_so
slotted_lengths = (refl, refl, refl, refl)

-- "30 to 35 with another kind stays 6", an unknown one too, also where bytes lack; "with the kind cut off 5"; kind 7 with bytes lacking is 5
longer_kinds : (read_at (30 ∷ 0 ∷ 3 ∷ 0 ∷ []) 0 ≡ stopped BadLength)
    × (read_at (35 ∷ 0 ∷ 8 ∷ 0 ∷ []) 0 ≡ stopped BadLength)
    × (read_at (35 ∷ 0 ∷ 7 ∷ []) 0 ≡ stopped CutShort)
    × (read_at (30 ∷ 0 ∷ []) 0 ≡ stopped CutShort)
    × (read_at (35 ∷ 0 ∷ 7 ∷ 0 ∷ 5 ∷ 0 ∷ []) 0 ≡ stopped CutShort)
    × (read_at (8 ∷ 0 ∷ 7 ∷ 0 ∷ 5 ∷ 0 ∷ 2 ∷ 0 ∷ 5 ∷ []) 0 ≡ stopped CutShort)
unfolding read_at frame_at plain_frame plain_of slotted_frame outer_of kindless_of length_of event_at time_at size_of values_at le_at if_lt if_le if_eq if_so
longer_kinds = (refl, refl, refl, refl, refl, refl)

-- a plain record's refusals stay as they were: a byte of length alone; 1; 29 with bytes lacking; an unknown kind
plain_lengths : (read_at (6 ∷ []) 0 ≡ stopped CutShort)
    × (read_at (1 ∷ 0 ∷ []) 0 ≡ stopped BadLength)
    × (read_at (29 ∷ 0 ∷ 3 ∷ 0 ∷ []) 0 ≡ stopped CutShort)
    × (read_at (2 ∷ 0 ∷ 8 ∷ 0 ∷ []) 0 ≡ stopped UnknownKind)
unfolding read_at frame_at plain_frame plain_of slotted_frame outer_of kindless_of length_of event_at time_at size_of values_at le_at if_lt if_le if_eq if_so
plain_lengths = (refl, refl, refl, refl)

-- where plain records alone are read, 7 is an unknown kind
slotted_not_plain : plain_at (8 ∷ 0 ∷ 7 ∷ 0 ∷ 5 ∷ 0 ∷ 2 ∷ 0 ∷ 5 ∷ 0 ∷ []) 0 ≡ stopped UnknownKind
unfolding plain_at plain_frame plain_of length_of le_at if_lt if_le if_eq if_so
slotted_not_plain = refl

-- just room enough; a byte more, which stays; a byte less: 8, and nothing is written; no room for the six bytes before it
slotted_written : (written_at 5 Expiry (9 ∷ 9 ∷ 9 ∷ 9 ∷ 9 ∷ 9 ∷ 9 ∷ 9 ∷ 9 ∷ 9 ∷ []) ≡ Ok 10)
    × (left_at 5 Expiry (9 ∷ 9 ∷ 9 ∷ 9 ∷ 9 ∷ 9 ∷ 9 ∷ 9 ∷ 9 ∷ 9 ∷ []) ≡ 8 ∷ 0 ∷ 7 ∷ 0 ∷ 5 ∷ 0 ∷ 2 ∷ 0 ∷ 5 ∷ 0 ∷ [])
    × (left_at 5 Expiry (9 ∷ 9 ∷ 9 ∷ 9 ∷ 9 ∷ 9 ∷ 9 ∷ 9 ∷ 9 ∷ 9 ∷ 9 ∷ []) ≡ 8 ∷ 0 ∷ 7 ∷ 0 ∷ 5 ∷ 0 ∷ 2 ∷ 0 ∷ 5 ∷ 0 ∷ 9 ∷ [])
    × (written_at 5 Expiry (9 ∷ 9 ∷ 9 ∷ 9 ∷ 9 ∷ 9 ∷ 9 ∷ 9 ∷ 9 ∷ []) ≡ Err NoRoom)
    × (left_at 5 Expiry (9 ∷ 9 ∷ 9 ∷ 9 ∷ 9 ∷ 9 ∷ 9 ∷ 9 ∷ 9 ∷ []) ≡ 9 ∷ 9 ∷ 9 ∷ 9 ∷ 9 ∷ 9 ∷ 9 ∷ 9 ∷ 9 ∷ [])
    × (written_at 5 Expiry (9 ∷ 9 ∷ 9 ∷ 9 ∷ 9 ∷ []) ≡ Err NoRoom)
unfolding written_at left_at slotted_of slot_head record_of head_of bytes_of size_of le_of if_lt if_so
slotted_written = (refl, refl, refl, refl, refl, refl)

-- 3 comes before 8, with the ordinal in the inner body; no slot of two bytes is refused, since it is the board that says 19
slotted_refused : (written_at 5 (Time 86401) [] ≡ Err (BadField 1))
    × (written_at 5 (Opening 0 0 absent) [] ≡ Err (BadField 3))
    × (written_at 65535 Expiry (9 ∷ 9 ∷ 9 ∷ 9 ∷ 9 ∷ 9 ∷ 9 ∷ 9 ∷ 9 ∷ 9 ∷ []) ≡ Ok 10)
unfolding written_at slotted_of slot_head record_of head_of bytes_of size_of le_of if_lt if_so
slotted_refused = (refl, refl, refl)

-- what a host in C hands over: an expiry; nothing; a record that cannot be read, which leaves the buffer as it was
handed_over : (slot_gives (plain_at (2 ∷ 0 ∷ 5 ∷ 0 ∷ []) 0) 5 (9 ∷ 9 ∷ 9 ∷ 9 ∷ 9 ∷ 9 ∷ 9 ∷ 9 ∷ 9 ∷ 9 ∷ []) ≡ 0)
    × (slot_leaves (plain_at (2 ∷ 0 ∷ 5 ∷ 0 ∷ []) 0) 5 (9 ∷ 9 ∷ 9 ∷ 9 ∷ 9 ∷ 9 ∷ 9 ∷ 9 ∷ 9 ∷ 9 ∷ []) ≡ 8 ∷ 0 ∷ 7 ∷ 0 ∷ 5 ∷ 0 ∷ 2 ∷ 0 ∷ 5 ∷ 0 ∷ [])
    × (slot_gives (plain_at [] 0) 5 [] ≡ 5)
    × (slot_gives (plain_at (2 ∷ 0 ∷ 7 ∷ 0 ∷ []) 0) 5 [] ≡ 7)
    × (slot_gives (plain_at (3 ∷ 0 ∷ 5 ∷ 0 ∷ 0 ∷ []) 0) 5 [] ≡ 6)
    × (slot_leaves (plain_at (3 ∷ 0 ∷ 5 ∷ 0 ∷ 0 ∷ []) 0) 5 (9 ∷ 9 ∷ []) ≡ 9 ∷ 9 ∷ [])
    × (slot_gives (plain_at (2 ∷ 0 ∷ 5 ∷ 0 ∷ []) 0) 5 [] ≡ 8)
    × (slot_gives (plain_at (6 ∷ 0 ∷ 6 ∷ 0 ∷ 129 ∷ 81 ∷ 1 ∷ 0 ∷ []) 0) 5 [] ≡ 259)
unfolding plain_at plain_frame plain_of length_of event_at time_at values_at le_at if_le if_eq written_at left_at slotted_of slot_head record_of head_of bytes_of size_of le_of if_lt if_so
handed_over = (refl, refl, refl, refl, refl, refl, refl, refl)
