-- A record and its event, both ways: the event that its body says, and the bytes that an event is. Reader and writer use the same table of
-- fields (Fields.antt). No field is judged here: 3 is the call's answer, and the writer's (Write.antt).
-- Assumes nothing.
use Rattle.std.specs.Prelude.{ℕ, ◌+◌, ◌%◌, List, [], ◌∷◌, ◌++◌, length, slice_index, Option, None, Some, Result as OkOrErr, Ok, Err}
use Rattle.text.specs.Choose.{if_lt, if_le, if_eq}
use Rattle.rows.specs.declared.Component.{Component}
use Rattle.rows.specs.declared.Component.TheVariants.{Absent, Invoke, Result, Error, Reject, Unknown}
use Rattle.rows.specs.declared.Event.{Event}
use Rattle.rows.specs.declared.Event.TheVariants.{Opening, Ask, Received, FromAccess, Expiry, Time}
use Rattle.rows.specs.declared.Message.{Message}
use Rattle.rows.specs.declared.Nature.{Nature}
use Rattle.rows.specs.declared.Nature.TheVariants.{National, International}
use Rattle.rows.specs.declared.Number.{Number}
use Rattle.files.specs.Bytes.{byte_at, le_of}
use Rattle.files.specs.Fields.{number_fields, opening_fields, ask_fields, message_fields, access_fields, expiry_fields, time_fields}
use Rattle.files.specs.Fields.{values_at, bytes_of}
use Rattle.files.specs.Frames.{length_with, slotted_kind, Framing, plain_frame, frame_at}
use Rattle.files.specs.declared.Record.{Record}
use Rattle.files.specs.declared.Unreadable.{Unreadable}
use Rattle.files.specs.declared.Where.{Where}
use Rattle.files.specs.declared.Where.TheVariants.{Plain, Slot}

-- ---- the count byte of a telephone number, both ways. 02 #103: "its nature, national or international, in the top bit of the count byte
-- (set for international)"; the count is the low seven bits

unfoldable pub nature_of : ℕ → Nature
nature_of byte = if_lt byte 128 National International

unfoldable pub count_of : ℕ → ℕ
count_of byte = byte % 128

abbrev pub count_byte : Nature → ℕ → ℕ
count_byte National count = count
count_byte International count = 128 + count

-- ---- from bytes to events

-- the k-th value, k from 0, and the telephone number whose count byte is the k-th
abbrev pub value_at : List ℕ → ℕ → ℕ
value_at vs k = slice_index vs k

abbrev pub number_by : ℕ → ℕ → Number
number_by byte value = record { nature = nature_of byte; count = count_of byte; value = value }

abbrev pub number_from : List ℕ → ℕ → Number
number_from vs k = number_by (value_at vs k) (value_at vs (k + 1))

-- a telephone number; one of which no bytes stand there is absent
unfoldable pub number_if : List ℕ → ℕ → ℕ → Number
number_if s i present = number_from (values_at s i (number_fields present)) 0

-- 01, kind 1: "role; flags; own number"
abbrev pub opening_from : List ℕ → Event
opening_from vs = Opening (value_at vs 0) (value_at vs 1) (number_from vs 2)

unfoldable pub opening_at : List ℕ → ℕ → Event
opening_at s b = opening_from (values_at s b opening_fields)

-- kind 2: what the own user asks; called number
abbrev pub ask_from : List ℕ → Event
ask_from vs = Ask (value_at vs 0) (number_from vs 1)

unfoldable pub ask_at : List ℕ → ℕ → Event
ask_at s b = ask_from (values_at s b ask_fields)

-- 01: "component 0 none, 1 invoke, 2 result, 3 error, 4 reject; operation or error number, else 0"
unfoldable pub component_of : ℕ → ℕ → Component
component_of code n =
    if_eq code 0 (Absent n)
    (if_eq code 1 (Invoke n)
    (if_eq code 2 (Result n)
    (if_eq code 3 (Error n)
    (if_eq code 4 (Reject n) (Unknown code n)))))

-- kind 3: message; cause; component; parts; "then the numbers and the 4-byte duration present". Its parts stand in its fifth byte
abbrev pub message_from : List ℕ → Message
message_from vs =
    record {
      kind = value_at vs 0;
      cause = value_at vs 1;
      component = component_of (value_at vs 2) (value_at vs 3);
      parts = value_at vs 4;
      calling = number_from vs 5;
      called = number_from vs 7;
      duration = value_at vs 9;
    }

unfoldable pub message_at : List ℕ → ℕ → Message
message_at s b = message_from (values_at s b (message_fields (byte_at s (b + 4))))

-- kind 4: what the own access tells; error number
abbrev pub access_from : List ℕ → Event
access_from vs = FromAccess (value_at vs 0) (value_at vs 1)

unfoldable pub access_at : List ℕ → ℕ → Event
access_at s b = access_from (values_at s b access_fields)

-- kind 6: seconds
abbrev pub time_from : List ℕ → Event
time_from vs = Time (value_at vs 0)

unfoldable pub time_at : List ℕ → ℕ → Event
time_at s b = time_from (values_at s b time_fields)

-- the event of a body at b; a frame lets no kind through but 1 to 6
unfoldable pub event_at : List ℕ → ℕ → ℕ → Event
event_at s b kind =
    if_eq kind 1 (opening_at s b)
    (if_eq kind 2 (ask_at s b)
    (if_eq kind 3 (Received (message_at s b))
    (if_eq kind 4 (access_at s b)
    (if_eq kind 5 Expiry (time_at s b)))))

-- where the body of its event begins: after length and kind; inside a record of kind 7 after its own length and kind, the slot, and the
-- inner length and kind
abbrev pub body_at : Where → ℕ → ℕ
body_at Plain at = at + 4
body_at (Slot i) at = at + 10

-- what stands at a place: nothing; a record, that is where it acts, its event and the place after it; or why it cannot be read
abbrev pub Reading : Type 0
Reading = Option (OkOrErr Record Unreadable)

abbrev pub got : Where → Event → ℕ → Reading
got w e next = Some (Ok (record { acts = w; event = e; next = next }))

abbrev pub stopped : Unreadable → Reading
stopped e = Some (Err e)

-- a record by its frame; 01: "reading stops here"
abbrev pub read_by : List ℕ → ℕ → Framing → OkOrErr Record Unreadable
read_by s at (Err e) = Err e
read_by s at (Ok f) = Ok (record { acts = f.acts; event = event_at s (body_at f.acts at) f.kind; next = f.next })

-- what stands at a place of a file
unfoldable pub read_at : List ℕ → ℕ → Reading
read_at s at = if_le (length s) at None (Some (read_by s at (frame_at s at)))

-- the same where plain records alone may stand
unfoldable pub plain_at : List ℕ → ℕ → Reading
plain_at s at = if_le (length s) at None (Some (read_by s at (plain_frame s at)))

-- ---- from events to bytes

-- a component's two bytes: its code, and its operation or error number
abbrev pub code_of : Component → ℕ
code_of (Absent n) = 0
code_of (Invoke n) = 1
code_of (Result n) = 2
code_of (Error n) = 3
code_of (Reject n) = 4
code_of (Unknown code n) = code

abbrev pub item_of : Component → ℕ
item_of (Absent n) = n
item_of (Invoke n) = n
item_of (Result n) = n
item_of (Error n) = n
item_of (Reject n) = n
item_of (Unknown code n) = n

-- the values of a telephone number, of a message up to its parts, and of what it carries behind them
abbrev pub number_values : Number → List ℕ
number_values n = count_byte n.nature n.count ∷ n.value ∷ []

abbrev pub front_values : Message → List ℕ
front_values m = m.kind ∷ m.cause ∷ code_of m.component ∷ item_of m.component ∷ m.parts ∷ []

abbrev pub carried_values : Message → List ℕ
carried_values m = number_values m.calling ++ number_values m.called ++ (m.duration ∷ [])

-- the kind of an event's record; its fields; their values
abbrev pub kind_of : Event → ℕ
kind_of (Opening role flags own) = 1
kind_of (Ask item called) = 2
kind_of (Received m) = 3
kind_of (FromAccess item error) = 4
kind_of Expiry = 5
kind_of (Time seconds) = 6

abbrev pub fields_of : Event → List ℕ
fields_of (Opening role flags own) = opening_fields
fields_of (Ask item called) = ask_fields
fields_of (Received m) = message_fields m.parts
fields_of (FromAccess item error) = access_fields
fields_of Expiry = expiry_fields
fields_of (Time seconds) = time_fields

abbrev pub values_of : Event → List ℕ
values_of (Opening role flags own) = role ∷ flags ∷ number_values own
values_of (Ask item called) = item ∷ number_values called
values_of (Received m) = front_values m ++ carried_values m
values_of (FromAccess item error) = item ∷ error ∷ []
values_of Expiry = []
values_of (Time seconds) = seconds ∷ []

-- a record: its length ("bytes that follow") and its kind, 2 bytes each, and its body
unfoldable pub head_of : ℕ → ℕ → List ℕ
head_of len kind = le_of 2 len ++ le_of 2 kind

unfoldable pub record_of : Event → List ℕ
record_of e = head_of (length_with (fields_of e)) (kind_of e) ++ bytes_of (fields_of e) (values_of e)

-- a record of kind 7: its length, its kind, the slot, and a whole plain record
unfoldable pub slot_head : ℕ → ℕ → List ℕ
slot_head n i = head_of (n + 4) slotted_kind ++ le_of 2 i

unfoldable pub slotted_of : ℕ → List ℕ → List ℕ
slotted_of i inner = slot_head (length inner) i ++ inner

-- the record of an event, plain or at a slot
abbrev pub entry_of : Where → Event → List ℕ
entry_of Plain e = record_of e
entry_of (Slot i) e = slotted_of i (record_of e)
