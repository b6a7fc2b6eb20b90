-- What a record says, in words, for the dump. Each field has its word, or its number where it is out of its range, so that all of them
-- can be read off the line (docs/FORMAT.md has the grammar).
-- Assumes nothing.
use Rattle.std.specs.Prelude.{◌≡◌, ℕ, ◌%◌, Bool, true, List, [], ◌++◌}
use Rattle.text.specs.Choose.{if_lt, if_eq, if_so}
use Rattle.text.specs.Text.{ascii, decimal, value_text, numbered}
use Rattle.rows.specs.Valid.{in_range}
use Rattle.rows.specs.declared.Component.{Component}
use Rattle.rows.specs.declared.Component.TheVariants.{Absent, Invoke, Result, Error, Reject, Unknown}
use Rattle.rows.specs.declared.Event.{Event}
use Rattle.rows.specs.declared.Event.TheVariants.{Opening, Ask, Received, FromAccess, Expiry, Time}
use Rattle.rows.specs.declared.Message.{Message}
use Rattle.rows.specs.declared.Number.{Number}
use Rattle.files.specs.Bytes.{part}
use Rattle.files.specs.declared.Where.{Where}
use Rattle.files.specs.declared.Where.TheVariants.{Plain, Slot}
use Rattle.files.specs.Messages.{operation_text, text_if, sign_text, with_digits, parts_text}

-- a number that has no word
unfoldable pub code_word : ℕ → List ℕ
code_word n = numbered (ascii " ") n

-- ---- a telephone number

-- in range: its digits, or that there is none
unfoldable pub digits_word : Number → List ℕ
digits_word n = if_eq n.count 0 (ascii " -") (with_digits (ascii " ") n)

-- out of range: count and value, `+` before them where it is international
unfoldable pub counted_word : Number → List ℕ
counted_word n = ascii " " ++ sign_text n.nature ++ decimal n.count ++ ascii ":" ++ value_text n.value

unfoldable pub number_word : Number → List ℕ
number_word n = if_so (in_range n) (digits_word n) (counted_word n)

-- ---- kind 1: role, flags, own number

unfoldable pub role_word : ℕ → List ℕ
role_word role = if_eq role 0 (ascii " originating") (if_eq role 1 (ascii " destination") (code_word role))

-- before a flag: a comma where another came before it
unfoldable pub comma_text : ℕ → List ℕ
comma_text before = if_eq before 0 (ascii " ") (ascii ",")

unfoldable pub flag_text : ℕ → ℕ → List ℕ → List ℕ
flag_text present before word = text_if present (comma_text before ++ word)

unfoldable pub flags_text : ℕ → List ℕ
flags_text flags =
    flag_text (part flags 1) (flags % 1) (ascii "transfer")
    ++ flag_text (part flags 2) (flags % 2) (ascii "option")
    ++ flag_text (part flags 4) (flags % 4) (ascii "subscribed")
    ++ flag_text (part flags 8) (flags % 8) (ascii "interaction")
    ++ flag_text (part flags 16) (flags % 16) (ascii "case-d")

-- none; those that are set; from 32 on a bit that is no flag
unfoldable pub flags_word : ℕ → List ℕ
flags_word flags = if_eq flags 0 (ascii " -") (if_lt flags 32 (flags_text flags) (code_word flags))

unfoldable pub opening_words : ℕ → ℕ → Number → List ℕ
opening_words role flags own = ascii " OPENING" ++ role_word role ++ flags_word flags ++ number_word own

-- ---- kind 2: what the own user asks, called number

unfoldable pub asked_word : ℕ → List ℕ
asked_word item =
    if_eq item 0 (ascii " BASIC")
    (if_eq item 1 (ascii " A")
    (if_eq item 2 (ascii " B")
    (if_eq item 3 (ascii " C") (code_word item))))

unfoldable pub ask_words : ℕ → Number → List ℕ
ask_words item called = ascii " REQUEST" ++ asked_word item ++ number_word called

-- ---- kind 3: message, cause, component, parts

unfoldable pub name_word : ℕ → List ℕ
name_word kind =
    if_eq kind 1 (ascii " IAM")
    (if_eq kind 2 (ascii " ANM")
    (if_eq kind 3 (ascii " CON")
    (if_eq kind 4 (ascii " REL")
    (if_eq kind 5 (ascii " FAC") (numbered (ascii " MESSAGE ") kind)))))

-- 1 to 3 as in the listing
unfoldable pub operation_word : ℕ → List ℕ
operation_word operation = if_eq operation 0 (code_word operation) (if_lt operation 4 (operation_text operation) (code_word operation))

unfoldable pub with_operation_word : List ℕ → ℕ → List ℕ
with_operation_word word operation = word ++ operation_word operation

-- a field that is 0 unless it is out of its range
unfoldable pub unless_zero : List ℕ → ℕ → List ℕ
unless_zero word n = if_eq n 0 [] (numbered word n)

unfoldable pub reject_words : ℕ → List ℕ
reject_words n = ascii " REJECT" ++ unless_zero (ascii " ") n

unfoldable pub unknown_words : ℕ → ℕ → List ℕ
unknown_words code n = numbered (ascii " COMPONENT ") code ++ code_word n

abbrev pub component_words : Component → List ℕ
component_words (Absent n) = unless_zero (ascii " NONE ") n
component_words (Invoke operation) = with_operation_word (ascii " INVOKE") operation
component_words (Result operation) = with_operation_word (ascii " RESULT") operation
component_words (Error n) = numbered (ascii " ERROR ") n
component_words (Reject n) = reject_words n
component_words (Unknown code n) = unknown_words code n

unfoldable pub with_number : List ℕ → Number → List ℕ
with_number word n = word ++ number_word n

-- the parts that have a value, and the bit that is no part
unfoldable pub values_words : Message → List ℕ
values_words m =
    text_if (part m.parts 16) (with_number (ascii " CALLING") m.calling)
    ++ text_if (part m.parts 32) (with_number (ascii " CALLED") m.called)
    ++ text_if (part m.parts 64) (numbered (ascii " DURATION ") m.duration)
    ++ text_if (part m.parts 128) (ascii " PART 128")

unfoldable pub message_words : Message → List ℕ
message_words m = name_word m.kind ++ code_word m.cause ++ component_words m.component ++ parts_text m.parts ++ values_words m

-- ---- kind 4: what the own access tells, error number

unfoldable pub told_word : ℕ → List ℕ
told_word item =
    if_eq item 1 (ascii " ACCEPT")
    (if_eq item 2 (ascii " ERROR")
    (if_eq item 3 (ascii " REJECT")
    (if_eq item 4 (ascii " CLEAR")
    (if_eq item 5 (ascii " ANSWER") (code_word item)))))

unfoldable pub access_words : ℕ → ℕ → List ℕ
access_words item error = ascii " ACCESS" ++ told_word item ++ code_word error

-- ---- kinds 1 to 6

abbrev pub event_words : Event → List ℕ
event_words (Opening role flags own) = opening_words role flags own
event_words (Ask item called) = ask_words item called
event_words (Received m) = message_words m
event_words (FromAccess item error) = access_words item error
event_words Expiry = ascii " EXPIRY"
event_words (Time seconds) = numbered (ascii " TIME ") seconds

-- a record of kind 7 says its slot first
abbrev pub where_words : Where → List ℕ
where_words Plain = []
where_words (Slot i) = numbered (ascii " SLOT ") i

unfoldable pub entry_words : Where → Event → List ℕ
entry_words w e = where_words w ++ event_words e

-- ---- a line that says an event

-- r: whether a line is the words of an event, plain or at a slot, without the blank that they begin with
pub record Says (line : List ℕ) (w : Where) (e : Event) (r : Bool) : Type 0 where
  pub right : r ≡ true → ascii " " ++ line ≡ entry_words w e
  pub whole : ascii " " ++ line ≡ entry_words w e → r ≡ true
