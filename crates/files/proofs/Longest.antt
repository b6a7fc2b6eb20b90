-- How long texts can be: the words of a record are no longer than 226 bytes, so that they fit in an array of as many; a record's text in a
-- listing is no longer than `longest_record`, and its line in a dump than `longest_place`.
-- Assumes nothing.
use Rattle.std.proofs.Common.{ℕ, ◌+◌, ◌%◌, ◌<◌, ◌≤◌, Bool, true, false, List, [], ◌++◌, length, None, Some, Ok, Err, arith, length-append, leb-true}
use Rattle.meters.specs.declared.Meters.{Meters}
use Rattle.text.specs.Choose.{if_lt, if_eq, if_so}
use Rattle.text.specs.Page.{Wrote}
use Rattle.text.specs.Text.{ascii, last_digits, decimal, value_text, numbered}
use Rattle.text.specs.declared.page.Page.{Page}
use Rattle.text.proofs.Cases.{both_so, both_lt, both_eq}
use Rattle.text.proofs.Ends.{digits_length}
use Rattle.text.proofs.Numbers.{by_most, count_most}
use Rattle.rows.specs.Numbers.{applied}
use Rattle.rows.specs.Valid.{in_range}
use Rattle.rows.specs.declared.Act.{Act}
use Rattle.rows.specs.declared.Call.{Call}
use Rattle.rows.specs.declared.Component.{Component}
use Rattle.rows.specs.declared.Component.TheVariants.{Absent, Invoke, Result, Error, Reject, Unknown}
use Rattle.rows.specs.declared.Event.{Event}
use Rattle.rows.specs.declared.Event.TheVariants.{Opening, Ask, Received, FromAccess, Expiry, Time}
use Rattle.rows.specs.declared.Message.{Message}
use Rattle.rows.specs.declared.Nature.{Nature}
use Rattle.rows.specs.declared.Nature.TheVariants.{National, International}
use Rattle.rows.specs.declared.Note.{Note}
use Rattle.rows.specs.declared.Number.{Number}
use Rattle.rows.specs.declared.Outcome.{Outcome}
use Rattle.rows.specs.declared.Phase.{Phase}
use Rattle.rows.specs.declared.RevState.{RevState}
use Rattle.rows.specs.declared.Stand.{Stand}
use Rattle.files.specs.Bodies.{Reading}
use Rattle.files.specs.Bytes.{part}
use Rattle.files.specs.declared.Unreadable.{Unreadable}
use Rattle.files.specs.declared.Unreadable.TheVariants.{CutShort, BadLength, UnknownKind}
use Rattle.files.specs.declared.Where.{Where}
use Rattle.files.specs.declared.Where.TheVariants.{Plain, Slot}
use Rattle.files.specs.Dump.{stop_text, found_text, place_text, longest_place}
use Rattle.files.specs.Lines.{phase_text, rev_text, stand_text, meters_text, slot_text, line_text, numbered_line, action_text, actions_text}
use Rattle.files.specs.Lines.{record_text, longest_record}
use Rattle.files.specs.Messages.{operation_text, with_operation, component_text, text_if, sign_text, number_text, with_digits, parts_text}
use Rattle.files.specs.Messages.{values_text, carried_text, sent_text, released_text}
use Rattle.files.specs.Words.{code_word, digits_word, counted_word, number_word, role_word, comma_text, flag_text, flags_text}
use Rattle.files.specs.Words.{flags_word, opening_words, asked_word, ask_words, name_word, operation_word, with_operation_word, unless_zero}
use Rattle.files.specs.Words.{reject_words, unknown_words, component_words, with_number, values_words, message_words, told_word, access_words}
use Rattle.files.specs.Words.{event_words, where_words, entry_words}
use Rattle.files.proofs.CountByte.{in_range_value}

-- ---- by the form of a text

join : {j k : ℕ} (n : ℕ) (s t : List ℕ) → length s ≤ j → length t ≤ k → j + k ≤ n → length (s ++ t) ≤ n
join n s t f g h = omega (arith, length-append s t)

module _ (n : ℕ) (s t : List ℕ) (f : length s ≤ n) (g : length t ≤ n) where
  so_most : (x : Bool) → length (if_so x s t) ≤ n
  so_most x = both_so x (λ (u : List ℕ). length u ≤ n) s t (λ _. f) (λ _. g)

  lt_most : (a b : ℕ) → length (if_lt a b s t) ≤ n
  lt_most a b = both_lt a b (λ (u : List ℕ). length u ≤ n) s t (λ _. f) (λ _. g)

  eq_most : (a b : ℕ) → length (if_eq a b s t) ≤ n
  eq_most a b = both_eq a b (λ (u : List ℕ). length u ≤ n) s t (λ _. f) (λ _. g)

numbered_most : (n : ℕ) (word : List ℕ) (x : ℕ) → length word + 10 ≤ n → length (numbered word x) ≤ n
unfolding numbered
numbered_most n word x h = omega (arith, length-append word (decimal x), count_most x)

code_most : (k n : ℕ) → 11 ≤ k → length (code_word n) ≤ k
unfolding code_word
code_most k n h = numbered_most k (ascii " ") n (omega (arith, h))

-- ---- a telephone number

sign_most : (n : Nature) → length (sign_text n) ≤ 1
sign_most National = omega arith
sign_most International = omega arith

with_digits_most : (k : ℕ) (word : List ℕ) (n : Number) → length word + n.count + 1 ≤ k → length (with_digits word n) ≤ k
unfolding with_digits number_text
with_digits_most k word n h =
    let d : length (number_text n) ≤ n.count + 1 =
    omega (arith, sign_most n.nature, digits_length n.count n.value, length-append (sign_text n.nature) (last_digits n.count n.value)) in
    omega (arith, length-append word (number_text n))

digits_most : (n : Number) → n.count ≤ 15 → length (digits_word n) ≤ 33
unfolding digits_word
digits_most n h = eq_most 33 (ascii " -") (with_digits (ascii " ") n) (omega arith) (with_digits_most 33 (ascii " ") n (omega (arith, h))) n.count 0

value_most : (n : ℕ) → length (value_text n) ≤ 20
unfolding value_text
value_most n = by_most 20 n

counted_most : (n : Number) → length (counted_word n) ≤ 33
unfolding counted_word
counted_most n =
    join {j = 13} {k = 20} 33 (ascii " " ++ sign_text n.nature ++ decimal n.count ++ ascii ":") (value_text n.value)
    (join {j = 12} {k = 1} 13 (ascii " " ++ sign_text n.nature ++ decimal n.count) (ascii ":")
    (join {j = 2} {k = 10} 12 (ascii " " ++ sign_text n.nature) (decimal n.count)
    (join {j = 1} {k = 1} 2 (ascii " ") (sign_text n.nature)
    (omega arith)
    (sign_most n.nature) (omega arith))
    (count_most n.count) (omega arith))
    (omega arith) (omega arith))
    (value_most n.value) (omega arith)

number_most : (n : Number) → length (number_word n) ≤ 33
unfolding number_word
number_most n =
    both_so (in_range n) (λ (u : List ℕ). length u ≤ 33) (digits_word n) (counted_word n)
    (λ h. digits_most n (leb-true n.count 15 (in_range_value n h).0)) (λ _. counted_most n)

-- ---- kind 1

role_most : (role : ℕ) → length (role_word role) ≤ 12
unfolding role_word
role_most role =
    eq_most 12 (ascii " originating") _ (omega arith)
    (eq_most 12 (ascii " destination") (code_word role) (omega arith) (code_most 12 role (omega arith)) role 1) role 0

comma_most : (before : ℕ) → length (comma_text before) ≤ 1
unfolding comma_text
comma_most before = eq_most 1 (ascii " ") (ascii ",") (omega arith) (omega arith) before 0

if_most : (n present : ℕ) (t : List ℕ) → length t ≤ n → length (text_if present t) ≤ n
unfolding text_if
if_most n present t h = eq_most n t [] h (omega arith) present 1

flag_most : (n present before : ℕ) (word : List ℕ) → length word + 1 ≤ n → length (flag_text present before word) ≤ n
unfolding flag_text
flag_most n present before word h =
    if_most n present (comma_text before ++ word) (omega (arith, h, comma_most before, length-append (comma_text before) word))

flags_text_most : (flags : ℕ) → length (flags_text flags) ≤ 46
unfolding flags_text
flags_text_most flags =
    join {j = 39} {k = 7} 46 _ _
    (join {j = 27} {k = 12} 39 _ _
    (join {j = 16} {k = 11} 27 _ _
    (join {j = 9} {k = 7} 16 _ _
    (flag_most 9 (part flags 1) (flags % 1) (ascii "transfer") (omega arith))
    (flag_most 7 (part flags 2) (flags % 2) (ascii "option") (omega arith)) (omega arith))
    (flag_most 11 (part flags 4) (flags % 4) (ascii "subscribed") (omega arith)) (omega arith))
    (flag_most 12 (part flags 8) (flags % 8) (ascii "interaction") (omega arith)) (omega arith))
    (flag_most 7 (part flags 16) (flags % 16) (ascii "case-d") (omega arith)) (omega arith)

flags_most : (flags : ℕ) → length (flags_word flags) ≤ 46
unfolding flags_word
flags_most flags =
    eq_most 46 (ascii " -") _ (omega arith) (lt_most 46 (flags_text flags) (code_word flags) (flags_text_most flags) (code_most 46 flags (omega arith)) flags 32) flags 0

opening_most : (role flags : ℕ) (own : Number) → length (opening_words role flags own) ≤ 99
unfolding opening_words
opening_most role flags own =
    join {j = 66} {k = 33} 99 (ascii " OPENING" ++ role_word role ++ flags_word flags) (number_word own)
    (join {j = 20} {k = 46} 66 (ascii " OPENING" ++ role_word role) (flags_word flags)
    (join {j = 8} {k = 12} 20 (ascii " OPENING") (role_word role)
    (omega arith)
    (role_most role) (omega arith))
    (flags_most flags) (omega arith))
    (number_most own) (omega arith)

-- ---- kind 2

asked_most : (item : ℕ) → length (asked_word item) ≤ 11
unfolding asked_word
asked_most item =
    eq_most 11 (ascii " BASIC") _ (omega arith)
    (eq_most 11 (ascii " A") _ (omega arith)
    (eq_most 11 (ascii " B") _ (omega arith)
    (eq_most 11 (ascii " C") (code_word item) (omega arith) (code_most 11 item (omega arith)) item 3) item 2) item 1) item 0

ask_most : (item : ℕ) (called : Number) → length (ask_words item called) ≤ 52
unfolding ask_words
ask_most item called =
    join {j = 19} {k = 33} 52 (ascii " REQUEST" ++ asked_word item) (number_word called)
    (join {j = 8} {k = 11} 19 (ascii " REQUEST") (asked_word item)
    (omega arith)
    (asked_most item) (omega arith))
    (number_most called) (omega arith)

-- ---- kind 3

name_most : (kind : ℕ) → length (name_word kind) ≤ 19
unfolding name_word
name_most kind =
    eq_most 19 (ascii " IAM") _ (omega arith)
    (eq_most 19 (ascii " ANM") _ (omega arith)
    (eq_most 19 (ascii " CON") _ (omega arith)
    (eq_most 19 (ascii " REL") _ (omega arith)
    (eq_most 19 (ascii " FAC") _ (omega arith) (numbered_most 19 (ascii " MESSAGE ") kind (omega arith)) kind 5) kind 4) kind 3) kind 2) kind 1

operation_text_most : (operation : ℕ) → length (operation_text operation) ≤ 7
unfolding operation_text
operation_text_most operation =
    eq_most 7 (ascii " SETUP") _ (omega arith) (eq_most 7 (ascii " ACTIVE") (ascii " CALLED") (omega arith) (omega arith) operation 2) operation 1

operation_most : (word : List ℕ) (operation : ℕ) → length word ≤ 7 → length (with_operation_word word operation) ≤ 18
unfolding with_operation_word operation_word
operation_most word operation h =
    let g : length (code_word operation) ≤ 11 = code_most 11 operation (omega arith) in
    join {j = 7} {k = 11} 18 word _ h
    (eq_most 11 (code_word operation) _ g
    (lt_most 11 (operation_text operation) (code_word operation) (omega (arith, operation_text_most operation)) g operation 4) operation 0) (omega arith)

unless_zero_most : (k : ℕ) (word : List ℕ) (n : ℕ) → length word + 10 ≤ k → length (unless_zero word n) ≤ k
unfolding unless_zero
unless_zero_most k word n h = eq_most k [] (numbered word n) (omega arith) (numbered_most k word n h) n 0

reject_most : (n : ℕ) → length (reject_words n) ≤ 18
unfolding reject_words
reject_most n = join {j = 7} {k = 11} 18 (ascii " REJECT") _ (omega arith) (unless_zero_most 11 (ascii " ") n (omega arith)) (omega arith)

unknown_most : (code n : ℕ) → length (unknown_words code n) ≤ 32
unfolding unknown_words
unknown_most code n =
    join {j = 21} {k = 11} 32 (numbered (ascii " COMPONENT ") code) (code_word n) (numbered_most 21 (ascii " COMPONENT ") code (omega arith)) (code_most 11 n (omega arith)) (omega arith)

component_most : (component : Component) → length (component_words component) ≤ 32
component_most (Absent n) = unless_zero_most 32 (ascii " NONE ") n (omega arith)
component_most (Invoke operation) = omega (arith, operation_most (ascii " INVOKE") operation (omega arith))
component_most (Result operation) = omega (arith, operation_most (ascii " RESULT") operation (omega arith))
component_most (Error n) = numbered_most 32 (ascii " ERROR ") n (omega arith)
component_most (Reject n) = omega (arith, reject_most n)
component_most (Unknown code n) = unknown_most code n

parts_most : (parts : ℕ) → length (parts_text parts) ≤ 38
unfolding parts_text
parts_most parts =
    join {j = 30} {k = 8} 38 _ _
    (join {j = 18} {k = 12} 30 _ _
    (join {j = 9} {k = 9} 18 _ _
    (if_most 9 (part parts 1) (ascii " TRANSFER") (omega arith))
    (if_most 9 (part parts 2) (ascii " ACCEPTED") (omega arith)) (omega arith))
    (if_most 12 (part parts 4) (ascii " AS-TRANSFER") (omega arith)) (omega arith))
    (if_most 8 (part parts 8) (ascii " PARTIAL") (omega arith)) (omega arith)

with_number_most : (k : ℕ) (word : List ℕ) (n : Number) → length word + 33 ≤ k → length (with_number word n) ≤ k
unfolding with_number
with_number_most k word n h = omega (arith, h, number_most n, length-append word (number_word n))

values_most : (m : Message) → length (values_words m) ≤ 110
unfolding values_words
values_most m =
    join {j = 101} {k = 9} 110 _ _
    (join {j = 81} {k = 20} 101 _ _
    (join {j = 41} {k = 40} 81 _ _
    (if_most 41 (part m.parts 16) _ (with_number_most 41 (ascii " CALLING") m.calling (omega arith)))
    (if_most 40 (part m.parts 32) _ (with_number_most 40 (ascii " CALLED") m.called (omega arith))) (omega arith))
    (if_most 20 (part m.parts 64) _ (numbered_most 20 (ascii " DURATION ") m.duration (omega arith))) (omega arith))
    (if_most 9 (part m.parts 128) (ascii " PART 128") (omega arith)) (omega arith)

message_most : (m : Message) → length (message_words m) ≤ 210
unfolding message_words
message_most m =
    join {j = 100} {k = 110} 210 _ (values_words m)
    (join {j = 62} {k = 38} 100 _ (parts_text m.parts)
    (join {j = 30} {k = 32} 62 _ (component_words m.component)
    (join {j = 19} {k = 11} 30 _ (code_word m.cause)
    (name_most m.kind)
    (code_most 11 m.cause (omega arith)) (omega arith))
    (component_most m.component) (omega arith))
    (parts_most m.parts) (omega arith))
    (values_most m) (omega arith)

-- ---- kind 4

told_most : (item : ℕ) → length (told_word item) ≤ 11
unfolding told_word
told_most item =
    eq_most 11 (ascii " ACCEPT") _ (omega arith)
    (eq_most 11 (ascii " ERROR") _ (omega arith)
    (eq_most 11 (ascii " REJECT") _ (omega arith)
    (eq_most 11 (ascii " CLEAR") _ (omega arith)
    (eq_most 11 (ascii " ANSWER") (code_word item) (omega arith) (code_most 11 item (omega arith)) item 5) item 4) item 3) item 2) item 1

access_most : (item error : ℕ) → length (access_words item error) ≤ 29
unfolding access_words
access_most item error =
    join {j = 18} {k = 11} 29 (ascii " ACCESS" ++ told_word item) (code_word error)
    (join {j = 7} {k = 11} 18 (ascii " ACCESS") (told_word item)
    (omega arith)
    (told_most item) (omega arith))
    (code_most 11 error (omega arith)) (omega arith)

-- ---- kinds 1 to 7

event_most : (e : Event) → length (event_words e) ≤ 210
event_most (Opening role flags own) = omega (arith, opening_most role flags own)
event_most (Ask item called) = omega (arith, ask_most item called)
event_most (Received m) = message_most m
event_most (FromAccess item error) = omega (arith, access_most item error)
event_most Expiry = omega arith
event_most (Time seconds) = numbered_most 210 (ascii " TIME ") seconds (omega arith)

where_most : (w : Where) → length (where_words w) ≤ 16
where_most Plain = omega arith
where_most (Slot i) = numbered_most 16 (ascii " SLOT ") i (omega arith)

pub words_most : (w : Where) (e : Event) → length (entry_words w e) ≤ 226
unfolding entry_words
words_most w e = join {j = 16} {k = 210} 226 (where_words w) (event_words e) (where_most w) (event_most e) (omega arith)

-- ---- a record's line in a dump

stop_most : (e : Unreadable) → length (stop_text e) ≤ 13
stop_most CutShort = omega arith
stop_most BadLength = omega arith
stop_most UnknownKind = omega arith

found_most : (found : Reading) → length (found_text found) ≤ 226
found_most None = omega arith
found_most (Some (Err e)) = omega (arith, stop_most e)
found_most (Some (Ok r)) = words_most r.acts r.event

pub place_most : (ordinal : ℕ) (found : Reading) (at : ℕ) → length (place_text ordinal found at) ≤ longest_place
unfolding place_text
place_most ordinal found at =
    join {j = 247} {k = 1} longest_place _ (ascii "\n")
    (join {j = 21} {k = 226} 247 _ (found_text found)
    (join {j = 10} {k = 11} 21 (decimal ordinal) (numbered (ascii " ") at)
    (count_most ordinal)
    (numbered_most 11 (ascii " ") at (omega arith)) (omega arith))
    (found_most found) (omega arith))
    (omega arith) (omega arith)

-- ---- a record's text in a listing: its line

phase_most : (phase : Phase) → length (phase_text phase) ≤ 9
phase_most Phase.Unopened = omega arith
phase_most Phase.Null = omega arith
phase_most Phase.Setup = omega arith
phase_most Phase.Answered = omega arith
phase_most Phase.Cleared = omega arith

rev_most : (rev : RevState) → length (rev_text rev) ≤ 17
rev_most RevState.Idle = omega arith
rev_most RevState.WaitSetup = omega arith
rev_most RevState.WaitActive = omega arith
rev_most RevState.WaitAnswer = omega arith
rev_most RevState.Active = omega arith
rev_most RevState.WaitSetupConf = omega arith
rev_most RevState.WaitActiveConf = omega arith
rev_most RevState.WaitCalled = omega arith

stand_most : (stand : Stand) → length (stand_text stand) ≤ 26
unfolding stand_text
stand_most stand = join {j = 9} {k = 17} 26 (phase_text stand.phase) (rev_text stand.rev) (phase_most stand.phase) (rev_most stand.rev) (omega arith)

meters_most : (m : Meters) → length (meters_text m) ≤ 33
unfolding meters_text
meters_most m =
    join {j = 22} {k = 11} 33 _ (numbered (ascii " ") m.far)
    (join {j = 11} {k = 11} 22 (numbered (ascii " ") m.caller) (numbered (ascii " ") m.called)
    (numbered_most 11 (ascii " ") m.caller (omega arith))
    (numbered_most 11 (ascii " ") m.called (omega arith)) (omega arith))
    (numbered_most 11 (ascii " ") m.far (omega arith)) (omega arith)

slot_most : (shown : Bool) (slot : ℕ) → length (slot_text shown slot) ≤ 11
slot_most true slot = numbered_most 11 (ascii " ") slot (omega arith)
slot_most false slot = omega arith

line_most : (ordinal : ℕ) (shown : Bool) (slot number : ℕ) (call : Call) → length (line_text ordinal shown slot number call) ≤ 92
unfolding line_text
line_most ordinal shown slot number call =
    join {j = 91} {k = 1} 92 _ (ascii "\n")
    (join {j = 58} {k = 33} 91 _ (meters_text call.meters)
    (join {j = 32} {k = 26} 58 _ (stand_text call.stand)
    (join {j = 21} {k = 11} 32 _ (numbered (ascii " ") number)
    (join {j = 10} {k = 11} 21 (decimal ordinal) (slot_text shown slot)
    (count_most ordinal)
    (slot_most shown slot) (omega arith))
    (numbered_most 11 (ascii " ") number (omega arith)) (omega arith))
    (stand_most call.stand) (omega arith))
    (meters_most call.meters) (omega arith))
    (omega arith) (omega arith)

-- ---- its actions

with_operation_most : (word : List ℕ) (operation : ℕ) → length word ≤ 7 → length (with_operation word operation) ≤ 14
unfolding with_operation
with_operation_most word operation h = join {j = 7} {k = 7} 14 word (operation_text operation) h (operation_text_most operation) (omega arith)

component_text_most : (component : Component) → length (component_text component) ≤ 17
component_text_most (Absent n) = omega arith
component_text_most (Invoke operation) = omega (arith, with_operation_most (ascii " INVOKE") operation (omega arith))
component_text_most (Result operation) = omega (arith, with_operation_most (ascii " RESULT") operation (omega arith))
component_text_most (Error n) = numbered_most 17 (ascii " ERROR ") n (omega arith)
component_text_most (Reject n) = omega arith
component_text_most (Unknown code n) = omega arith

numbered_line_most : (k : ℕ) (word : List ℕ) (n : ℕ) → length word + 11 ≤ k → length (numbered_line word n) ≤ k
unfolding numbered_line
numbered_line_most k word n h = omega (arith, numbered_most (length word + 10) word n (omega arith), length-append (numbered word n) (ascii "\n"))

-- the counts of its numbers are bytes
module _ (m : Note) (calling : m.calling.count < 256) (called : m.called.count < 256) where
  values_text_most : length (values_text m) ≤ 549
  unfolding values_text
  values_text_most =
      join {j = 529} {k = 20} 549 _ _
      (join {j = 265} {k = 264} 529 _ _
      (if_most 265 (part m.parts 16) _ (with_digits_most 265 (ascii " CALLING ") m.calling (omega arith)))
      (if_most 264 (part m.parts 32) _ (with_digits_most 264 (ascii " CALLED ") m.called (omega arith))) (omega arith))
      (if_most 20 (part m.parts 64) _ (numbered_most 20 (ascii " DURATION ") m.duration (omega arith))) (omega arith)

  carried_most : length (carried_text m) ≤ 605
  unfolding carried_text
  carried_most =
      join {j = 604} {k = 1} 605 _ (ascii "\n")
      (join {j = 55} {k = 549} 604 _ (values_text m)
      (join {j = 17} {k = 38} 55 (component_text m.component) (parts_text m.parts)
      (component_text_most m.component)
      (parts_most m.parts) (omega arith))
      values_text_most (omega arith))
      (omega arith) (omega arith)

  sent_most : (name : List ℕ) → length name ≤ 16 → length (sent_text name m) ≤ 621
  unfolding sent_text
  sent_most name h = join {j = 16} {k = 605} 621 name (carried_text m) h carried_most (omega arith)

  released_most : length (released_text m) ≤ 621
  unfolding released_text
  released_most =
      join {j = 16} {k = 605} 621 (numbered (ascii "> REL ") m.cause) (carried_text m) (numbered_most 16 (ascii "> REL ") m.cause (omega arith)) carried_most (omega arith)

  action_most : (a : Act) → length (action_text m a) ≤ 621
  action_most Act.Nothing = omega arith
  action_most Act.NotifyAccepted = omega arith
  action_most Act.AccessSetup = omega arith
  action_most Act.AccessAsk = omega arith
  action_most Act.AccessError = numbered_line_most 621 (ascii "> ACCESS ERROR ") m.error (omega arith)
  action_most Act.AccessRel = numbered_line_most 621 (ascii "> ACCESS REL ") m.cause (omega arith)
  action_most Act.ChargeCalling = omega arith
  action_most Act.ChargeCalled = omega arith
  action_most Act.Stop = omega arith
  action_most Act.SendIam = sent_most (ascii "> IAM") (omega arith)
  action_most Act.SendAnm = sent_most (ascii "> ANM") (omega arith)
  action_most Act.SendRel = released_most
  action_most Act.SendFac = sent_most (ascii "> FAC") (omega arith)

actions_most : (o : Outcome) → o.note.calling.count < 256 → o.note.called.count < 256 → length (actions_text o) ≤ 2484
unfolding actions_text
actions_most o calling called =
    let a = action_most o.note calling called in
    join {j = 1863} {k = 621} 2484 _ (action_text o.note o.fourth)
    (join {j = 1242} {k = 621} 1863 _ (action_text o.note o.third)
    (join {j = 621} {k = 621} 1242 (action_text o.note o.first) (action_text o.note o.second)
    (a o.first)
    (a o.second) (omega arith))
    (a o.third) (omega arith))
    (a o.fourth) (omega arith)

pub record_most : (ordinal : ℕ) (shown : Bool) (slot : ℕ) (o : Outcome) → o.note.calling.count < 256 → o.note.called.count < 256
    → length (record_text ordinal shown slot o) ≤ longest_record
unfolding record_text
record_most ordinal shown slot o calling called =
    join {j = 92} {k = 2484} longest_record (line_text ordinal shown slot o.number o.call) _
    (line_most ordinal shown slot o.number o.call)
    (eq_most 2484 (actions_text o) [] (actions_most o calling called) (omega arith) o.number applied) (omega arith)

-- ---- what puts a text on a page goes no further than the text is long

pub wrote_most : {a b : Page} {t : List ℕ} (n : ℕ) → Wrote t a b → length t ≤ n → b.at ≤ a.at + n
wrote_most n p h = omega (arith, p.place)
