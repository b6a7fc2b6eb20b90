-- Worked files, as 01 gives them: the definitions compute.
-- Assumes nothing.
use Rattle.std.proofs.Common.{◌≡◌, ℕ, List, [], ◌∷◌, ◌++◌, refl}
use Rattle.rows.specs.Telephone.{absent}
use Rattle.rows.specs.declared.Component.TheVariants.{Absent}
use Rattle.rows.specs.declared.Nature.TheVariants.{National, International}
use Rattle.rows.specs.declared.Event.TheVariants.{Received, Time}
use Rattle.text.specs.Choose.{if_lt, if_le, if_eq, if_so}
use Rattle.text.specs.Text.{ascii, last_digits, decimal, decimal_by, value_text, numbered}
use Rattle.board.specs.Row.{empty_row}
use Rattle.files.specs.Bodies.{nature_of, count_of, opening_at, ask_at, component_of, number_if, message_at, access_at, time_at, event_at}
use Rattle.files.specs.Bodies.{read_at}
use Rattle.files.specs.Bytes.{le_at}
use Rattle.files.specs.Fields.{size_of, values_at}
use Rattle.files.specs.Dump.{stop_text, place_text, places_text, dump_of}
use Rattle.files.specs.Frames.{length_of, plain_of, plain_frame, kindless_of, outer_of, slotted_frame, frame_at}
use Rattle.files.specs.Lines.{stand_text, meters_text, line_text, numbered_line, actions_text, record_text}
use Rattle.files.specs.Listing.{rest_of, records_of, listing_by, names_in, names_slots, listing_of}
use Rattle.files.specs.Messages.{operation_text, with_operation, text_if, with_digits, parts_text, values_text, carried_text, sent_text}
use Rattle.files.specs.Messages.{number_text, released_text}
use Rattle.files.specs.Places.{place_after, places_from, places_of}
use Rattle.files.specs.Words.{code_word, digits_word, counted_word, number_word, role_word, comma_text, flag_text, flags_text}
use Rattle.files.specs.Words.{flags_word, opening_words, asked_word, ask_words, name_word, operation_word, with_operation_word, unless_zero}
use Rattle.files.specs.Words.{reject_words, unknown_words, with_number, values_words, message_words, told_word, access_words, entry_words}
use Rattle.files.specs.Bodies.{got, stopped}
use Rattle.files.specs.declared.Where.TheVariants.{Plain}
use Rattle.files.specs.declared.Unreadable.TheVariants.{CutShort, BadLength, UnknownKind}

-- 01, case L
case_l : List ℕ
case_l =
    -- opening, originating, flags 8
    13 ∷ 0 ∷ 1 ∷ 0 ∷ 0 ∷ 8 ∷ 7 ∷ 20 ∷ 176 ∷ 84 ∷ 0 ∷ 0 ∷ 0 ∷ 0 ∷ 0 ∷
    -- A
    12 ∷ 0 ∷ 2 ∷ 0 ∷ 1 ∷ 7 ∷ 43 ∷ 176 ∷ 84 ∷ 0 ∷ 0 ∷ 0 ∷ 0 ∷ 0 ∷
    -- 8 seconds
    6 ∷ 0 ∷ 6 ∷ 0 ∷ 8 ∷ 0 ∷ 0 ∷ 0 ∷
    -- ANM with result
    7 ∷ 0 ∷ 3 ∷ 0 ∷ 2 ∷ 0 ∷ 2 ∷ 1 ∷ 0 ∷
    -- 60 seconds
    6 ∷ 0 ∷ 6 ∷ 0 ∷ 60 ∷ 0 ∷ 0 ∷ 0 ∷
    -- B
    12 ∷ 0 ∷ 2 ∷ 0 ∷ 2 ∷ 0 ∷ 0 ∷ 0 ∷ 0 ∷ 0 ∷ 0 ∷ 0 ∷ 0 ∷ 0 ∷
    -- clear
    4 ∷ 0 ∷ 4 ∷ 0 ∷ 4 ∷ 0 ∷ []

-- a room abroad that shares the digits of one at home, which it calls: opening with transfer; A
case_abroad : List ℕ
case_abroad =
    13 ∷ 0 ∷ 1 ∷ 0 ∷ 0 ∷ 9 ∷ 135 ∷ 43 ∷ 176 ∷ 84 ∷ 0 ∷ 0 ∷ 0 ∷ 0 ∷ 0 ∷
    12 ∷ 0 ∷ 2 ∷ 0 ∷ 1 ∷ 7 ∷ 43 ∷ 176 ∷ 84 ∷ 0 ∷ 0 ∷ 0 ∷ 0 ∷ 0 ∷ []

-- a board: an opening at slot 5; a plain one, at slot 0; a minute at slot 64, which is not there; slot 5 is in use; a lone byte
case_board : List ℕ
case_board =
    19 ∷ 0 ∷ 7 ∷ 0 ∷ 5 ∷ 0 ∷ 13 ∷ 0 ∷ 1 ∷ 0 ∷ 0 ∷ 8 ∷ 7 ∷ 20 ∷ 176 ∷ 84 ∷ 0 ∷ 0 ∷ 0 ∷ 0 ∷ 0 ∷
    13 ∷ 0 ∷ 1 ∷ 0 ∷ 0 ∷ 8 ∷ 7 ∷ 20 ∷ 176 ∷ 84 ∷ 0 ∷ 0 ∷ 0 ∷ 0 ∷ 0 ∷
    12 ∷ 0 ∷ 7 ∷ 0 ∷ 64 ∷ 0 ∷ 6 ∷ 0 ∷ 6 ∷ 0 ∷ 60 ∷ 0 ∷ 0 ∷ 0 ∷
    19 ∷ 0 ∷ 7 ∷ 0 ∷ 5 ∷ 0 ∷ 13 ∷ 0 ∷ 1 ∷ 0 ∷ 0 ∷ 8 ∷ 7 ∷ 20 ∷ 176 ∷ 84 ∷ 0 ∷ 0 ∷ 0 ∷ 0 ∷ 0 ∷
    6 ∷ []

-- "Sixty seconds are `06 00 06 00 3C 00 00 00`"; "a kind 3 length follows parts 16, 32 and 64 alone": one below 7 is 6, and
-- part 128 does not change it; an unknown kind gives 7, "5 if bytes lack" before that, "6 for the kind" after; "digits (as many as the
-- count)"; "a lone byte gives 5"; "Empty input gives `REV 1` and `END 0`"; case L
worked :
    (read_at (6 ∷ 0 ∷ 6 ∷ 0 ∷ 60 ∷ 0 ∷ 0 ∷ 0 ∷ []) 0 ≡ got Plain (Time 60) 8)
    × (read_at (6 ∷ 0 ∷ 3 ∷ 0 ∷ 5 ∷ 0 ∷ 0 ∷ 0 ∷ []) 0 ≡ stopped BadLength)
    × (read_at (7 ∷ 0 ∷ 3 ∷ 0 ∷ 5 ∷ 0 ∷ 0 ∷ 0 ∷ 128 ∷ []) 0
    ≡ got Plain (Received (record { kind = 5; cause = 0; component = Absent 0; parts = 128; calling = absent; called = absent; duration = 0 })) 9)
    × (read_at (2 ∷ 0 ∷ 8 ∷ 0 ∷ []) 0 ≡ stopped UnknownKind)
    × (read_at (3 ∷ 0 ∷ 8 ∷ 0 ∷ []) 0 ≡ stopped CutShort)
    × (read_at (3 ∷ 0 ∷ 5 ∷ 0 ∷ 0 ∷ []) 0 ≡ stopped BadLength)
    × (with_digits (ascii " CALLED ") (record { nature = National; count = 8; value = 5550123 }) ≡ ascii " CALLED 05550123")
    × (with_digits (ascii " CALLED ") (record { nature = International; count = 8; value = 5550123 }) ≡ ascii " CALLED +05550123")
    × (listing_of case_abroad
    ≡ ascii "REV 1\n"
    ++ ascii "1 0 NULL IDLE 0 0 0\n"
    ++ ascii "2 0 SETUP WAIT-SETUP 0 0 0\n"
    ++ ascii "> IAM INVOKE SETUP TRANSFER CALLING +5550123\n"
    ++ ascii "END 2\n")
    × (listing_of case_board
    ≡ ascii "REV 1\n"
    ++ ascii "1 5 0 NULL IDLE 0 0 0\n"
    ++ ascii "2 0 0 NULL IDLE 0 0 0\n"
    ++ ascii "3 64 19 NONE IDLE 0 0 0\n"
    ++ ascii "4 5 20 NULL IDLE 0 0 0\n"
    ++ ascii "5 0 5 NULL IDLE 0 0 0\n"
    ++ ascii "END 5\n")
    × (listing_of (6 ∷ []) ≡ ascii "REV 1\n1 5 NONE IDLE 0 0 0\nEND 1\n")
    × (listing_of (1 ∷ 0 ∷ []) ≡ ascii "REV 1\n1 6 NONE IDLE 0 0 0\nEND 1\n")
    × (listing_of (2 ∷ 0 ∷ 8 ∷ 0 ∷ []) ≡ ascii "REV 1\n1 7 NONE IDLE 0 0 0\nEND 1\n")
    × (listing_of (8 ∷ 0 ∷ 7 ∷ 0 ∷ 0 ∷ 0 ∷ 2 ∷ 0 ∷ 5 ∷ 0 ∷ []) ≡ ascii "REV 1\n1 0 17 NONE IDLE 0 0 0\nEND 1\n")
    × (listing_of [] ≡ ascii "REV 1\nEND 0\n")
    × (listing_of case_l
    ≡ ascii "REV 1\n"
    ++ ascii "1 0 NULL IDLE 0 0 0\n"
    ++ ascii "2 0 SETUP WAIT-SETUP 0 0 0\n"
    ++ ascii "> IAM INVOKE SETUP\n"
    ++ ascii "3 0 SETUP WAIT-SETUP 0 0 0\n"
    ++ ascii "4 0 ANSWERED ACTIVE 0 0 0\n"
    ++ ascii "> NOTIFY ACCEPTED\n"
    ++ ascii "> CHARGE CALLED\n"
    ++ ascii "5 0 ANSWERED ACTIVE 0 60 0\n"
    ++ ascii "6 0 ANSWERED ACTIVE 0 60 0\n"
    ++ ascii "> ACCESS ERROR 12\n"
    ++ ascii "7 0 CLEARED IDLE 0 60 0\n"
    ++ ascii "> STOP\n"
    ++ ascii "> REL 16\n"
    ++ ascii "END 7\n")
unfolding case_l case_abroad case_board listing_of listing_by names_slots names_in records_of rest_of empty_row places_of places_from place_after record_text actions_text released_text sent_text carried_text numbered_line line_text meters_text stand_text values_text parts_text with_digits number_text text_if with_operation operation_text read_at event_at access_at message_at time_at number_if nature_of count_of component_of ask_at opening_at frame_at slotted_frame plain_frame plain_of kindless_of outer_of length_of size_of values_at le_at numbered decimal decimal_by last_digits if_lt if_le if_eq if_so
worked = (refl, refl, refl, refl, refl, refl, refl, refl, refl, refl, refl, refl, refl, refl, refl, refl)

-- a message with every field out of its range, and a byte more
case_odd : List ℕ
case_odd =
    29 ∷ 0 ∷ 3 ∷ 0 ∷ 9 ∷ 200 ∷ 254 ∷ 253 ∷ 255 ∷
    -- count 0, value 1
    0 ∷ 1 ∷ 0 ∷ 0 ∷ 0 ∷ 0 ∷ 0 ∷ 0 ∷ 0 ∷
    -- international, count 20, value 5
    148 ∷ 5 ∷ 0 ∷ 0 ∷ 0 ∷ 0 ∷ 0 ∷ 0 ∷ 0 ∷
    255 ∷ 255 ∷ 255 ∷ 255 ∷ 7 ∷ []

dumped :
    (dump_of case_l
    ≡ ascii "RECORDS 7\n"
    ++ ascii "1 0 OPENING originating interaction 5550100\n"
    ++ ascii "2 15 REQUEST A 5550123\n"
    ++ ascii "3 29 TIME 8\n"
    ++ ascii "4 37 ANM 0 RESULT SETUP\n"
    ++ ascii "5 46 TIME 60\n"
    ++ ascii "6 54 REQUEST B -\n"
    ++ ascii "7 68 ACCESS CLEAR 0\n")
    × (dump_of case_abroad
    ≡ ascii "RECORDS 2\n"
    ++ ascii "1 0 OPENING originating transfer,interaction +5550123\n"
    ++ ascii "2 15 REQUEST A 5550123\n")
    × (dump_of case_board
    ≡ ascii "RECORDS 5\n"
    ++ ascii "1 0 SLOT 5 OPENING originating interaction 5550100\n"
    ++ ascii "2 21 OPENING originating interaction 5550100\n"
    ++ ascii "3 36 SLOT 64 TIME 60\n"
    ++ ascii "4 50 SLOT 5 OPENING originating interaction 5550100\n"
    ++ ascii "5 71 CUT-SHORT\n")
    × (dump_of case_odd
    ≡ ascii "RECORDS 2\n"
    ++ ascii "1 0 MESSAGE 9 200 COMPONENT 254 253 TRANSFER ACCEPTED AS-TRANSFER PARTIAL CALLING 0:1 CALLED +20:5 DURATION 4294967295 PART 128\n"
    ++ ascii "2 31 CUT-SHORT\n")
unfolding case_l case_abroad case_board case_odd dump_of places_text place_text stop_text places_of places_from place_after numbered_line code_word digits_word value_text counted_word number_word role_word comma_text flag_text flags_text flags_word opening_words asked_word ask_words name_word operation_word with_operation_word unless_zero reject_words unknown_words with_number values_words message_words told_word access_words entry_words parts_text with_digits number_text text_if operation_text read_at event_at access_at message_at time_at number_if nature_of count_of component_of ask_at opening_at frame_at slotted_frame plain_frame plain_of kindless_of outer_of length_of size_of values_at le_at numbered decimal decimal_by last_digits if_lt if_le if_eq if_so
dumped = (refl, refl, refl, refl)
