-- Worked components and parameters, to the byte: what is read of them, where each is refused, and what is written. The definitions
-- compute. Reader and writer wrong alike keep what Theorems.antt says; these they do not keep.
-- Assumes nothing.
use mathlib.Core.List.{List, [], ◌∷◌}
use mathlib.Core.Path.{◌≡◌, refl}
use Prim.Native.Nat.{ℕ, ◌+◌}
use Rattle.text.specs.Choose.{if_lt, if_le, if_eq, if_so}
use Rattle.wire.specs.Bytes.{big_at}
use Rattle.wire.specs.Heads.{tag_by, tag_after, length_place, filled_of, length_of, head_from, head_of}
use Rattle.wire.specs.Elements.{own_of, enter, follow, element_by, sequence_of}
use Rattle.wire.specs.Cursors.{stopped_of, absent_of, opened_of, inside_of, sized_of, look_of, need_of, may_of, extra_of, closed_of, checked_of, seen_of, rest_of}
use Rattle.wire.specs.Values.{module_by, module_at, listed_of, listed_at, paired_of, pair_on, pairs_at, absent_number, counted_of, natured_of, digited_of, party_by, party_of, there_of, clock_of, clock_at, seconds_at, problem_tag}
use Rattle.wire.specs.Grammar.{code_of, flag_part, first_part, party_at, party_part, partial_of, duration_of, last_of, depth_of, known_of, parts_of, number_if, made_of, bare_of, answer_of, invoke_of, result_of, error_of, named_of, name_of, reject_of, kind_of, whole_of, component_of}
use Rattle.wire.specs.Parameters.{refused, holds, before, onward, walk_by, walk_of, framed_of, held_in, parameter_of}
use Rattle.wire.specs.Texts.{element_text, text_if, octets_of, padded_of, number_text, flag_text, party_text, duration_text, first_text, parties_text, last_text, parts_text, seq_text, id_text, rejected_text, code_text, invoke_text, held_text, result_text, error_text, reject_text, component_text, written_of, leaves_of}
use Rattle.wire.specs.Writable.{range_ok, both_ok, item_ok, argument_ok, result_ok, places_ok, unnamed_ok, untimed_ok, parts_ok, number_ok, duration_ok, id_ok, field_if, fields_of, bad_from, bad_of}
use Rattle.wire.specs.declared.Component.{Component}
use Rattle.wire.specs.declared.Number.{Number}
use Rattle.wire.specs.declared.Unwritten.TheVariants.{BadField, NoRoom}
use Rattle.wire.specs.Answers.{refusal}
use Rattle.std.specs.Prelude.{Ok, Err}

abbrev number : ℕ → ℕ → Number
number n v = record { count = n; value = v }

abbrev component : ℕ → ℕ → ℕ → Number → Number → ℕ → ℕ → Component
component k x p n m t i = record { kind = k; item = x; parts = p; calling = n; called = m; duration = t; id = i }

-- an invoke and a result of the operation x, whose SEQUENCE has the n bytes t; the error n

abbrev invoke : ℕ → ℕ → List ℕ → List ℕ
invoke x n t = 161 ∷ (14 + n) ∷ 2 ∷ 1 ∷ 1 ∷ 6 ∷ 7 ∷ 0 ∷ 17 ∷ 133 ∷ 96 ∷ 3 ∷ 1 ∷ x ∷ 48 ∷ n ∷ t

abbrev result : ℕ → ℕ → List ℕ → List ℕ
result x n t = 162 ∷ (16 + n) ∷ 2 ∷ 1 ∷ 1 ∷ 48 ∷ (11 + n) ∷ 6 ∷ 7 ∷ 0 ∷ 17 ∷ 133 ∷ 96 ∷ 3 ∷ 1 ∷ x ∷ 48 ∷ n ∷ t

abbrev fails : ℕ → List ℕ
fails n = 163 ∷ 12 ∷ 2 ∷ 1 ∷ 1 ∷ 6 ∷ 7 ∷ 0 ∷ 17 ∷ 133 ∷ 96 ∷ 3 ∷ 1 ∷ n ∷ []

-- operations 1 to 3 and errors 4 to 12 are the module's, and no other identifier is
codes : (component_of (fails 4) 0 ≡ Ok (component 3 4 0 absent_number absent_number 0 1, 14))
    × (component_of (fails 12) 0 ≡ Ok (component 3 12 0 absent_number absent_number 0 1, 14))
    × (component_of (fails 3) 0 ≡ Err (refusal 14 5))
    × (component_of (fails 13) 0 ≡ Err (refusal 14 5))
    × (component_of (invoke 0 0 []) 0 ≡ Err (refusal 14 5))
    × (component_of (invoke 3 0 []) 0 ≡ Ok (component 1 3 0 absent_number absent_number 0 1, 16))
    × (component_of (invoke 4 0 []) 0 ≡ Err (refusal 14 5))
    × (component_of (163 ∷ 12 ∷ 2 ∷ 1 ∷ 1 ∷ 6 ∷ 7 ∷ 0 ∷ 17 ∷ 133 ∷ 96 ∷ 3 ∷ 2 ∷ 5 ∷ []) 0 ≡ Err (refusal 14 5))
unfolding component_of whole_of kind_of answer_of invoke_of result_of error_of reject_of named_of name_of problem_tag bare_of need_of may_of look_of sized_of checked_of closed_of extra_of inside_of stopped_of absent_of opened_of code_of listed_at listed_of module_at module_by rest_of seen_of sequence_of element_by enter follow own_of party_at party_of party_by digited_of natured_of counted_of pairs_at pair_on paired_of there_of parts_of first_part flag_part party_part last_of partial_of duration_of clock_at clock_of seconds_at depth_of known_of made_of number_if head_of head_from length_place tag_after tag_by length_of filled_of big_at if_lt if_le if_eq if_so
codes = (refl, refl, refl, refl, refl, refl, refl, refl)

-- 80 is no length, nor is FF, at any depth; a longer one than need be is read, to 126 bytes; what is cut short is 11 outside, and 12 inside
lengths : (component_of (161 ∷ 128 ∷ []) 0 ≡ Err (refusal 12 0))
    × (component_of (161 ∷ 255 ∷ []) 0 ≡ Err (refusal 12 0))
    × (component_of (invoke 1 2 (133 ∷ 128 ∷ [])) 0 ≡ Err (refusal 12 16))
    × (component_of (invoke 1 2 (133 ∷ 255 ∷ [])) 0 ≡ Err (refusal 12 16))
    × (component_of (163 ∷ 130 ∷ 0 ∷ 12 ∷ 2 ∷ 1 ∷ 1 ∷ 6 ∷ 7 ∷ 0 ∷ 17 ∷ 133 ∷ 96 ∷ 3 ∷ 1 ∷ 5 ∷ []) 0 ≡ Ok (component 3 5 0 absent_number absent_number 0 1, 16))
    × (component_of (163 ∷ 137 ∷ 0 ∷ 0 ∷ 0 ∷ 0 ∷ 0 ∷ 0 ∷ 0 ∷ 0 ∷ 12 ∷ 2 ∷ 1 ∷ 1 ∷ 6 ∷ 7 ∷ 0 ∷ 17 ∷ 133 ∷ 96 ∷ 3 ∷ 1 ∷ 5 ∷ []) 0 ≡ Ok (component 3 5 0 absent_number absent_number 0 1, 23))
    × (component_of (161 ∷ 130 ∷ 0 ∷ []) 0 ≡ Err (refusal 11 0))
    × (component_of (161 ∷ 1 ∷ 2 ∷ []) 0 ≡ Err (refusal 12 2))
    × (component_of (invoke 1 3 (133 ∷ 2 ∷ 133 ∷ [])) 0 ≡ Err (refusal 12 16))
    × (component_of (161 ∷ 2 ∷ 10 ∷ 128 ∷ []) 0 ≡ Err (refusal 12 2))
    × (component_of (163 ∷ 14 ∷ 2 ∷ 1 ∷ 1 ∷ 6 ∷ 7 ∷ 0 ∷ 17 ∷ 133 ∷ 96 ∷ 3 ∷ 1 ∷ 5 ∷ 48 ∷ 1 ∷ []) 0 ≡ Err (refusal 12 14))
unfolding component_of whole_of kind_of answer_of invoke_of result_of error_of reject_of named_of name_of problem_tag bare_of need_of may_of look_of sized_of checked_of closed_of extra_of inside_of stopped_of absent_of opened_of code_of listed_at listed_of module_at module_by rest_of seen_of sequence_of element_by enter follow own_of party_at party_of party_by digited_of natured_of counted_of pairs_at pair_on paired_of there_of parts_of first_part flag_part party_part last_of partial_of duration_of clock_at clock_of seconds_at depth_of known_of made_of number_if head_of head_from length_place tag_after tag_by length_of filled_of big_at if_lt if_le if_eq if_so
lengths = (refl, refl, refl, refl, refl, refl, refl, refl, refl, refl, refl)

-- every part; FALSE sets part 2, and no other; any byte but 0 is TRUE
said : (component_of (invoke 3 14 (128 ∷ 1 ∷ 255 ∷ 129 ∷ 6 ∷ 131 ∷ 19 ∷ 85 ∷ 5 ∷ 33 ∷ 3 ∷ 130 ∷ 1 ∷ 255 ∷ [])) 0 ≡ Ok (component 1 3 41 absent_number (number 7 5550123) 0 1, 30))
    × (component_of (invoke 3 6 (128 ∷ 1 ∷ 0 ∷ 130 ∷ 1 ∷ 0 ∷ [])) 0 ≡ Ok (component 1 3 0 absent_number absent_number 0 1, 22))
    × (component_of (result 1 3 (128 ∷ 1 ∷ 0 ∷ [])) 0 ≡ Ok (component 2 1 2 absent_number absent_number 0 1, 21))
    × (component_of (result 3 16 (128 ∷ 1 ∷ 1 ∷ 129 ∷ 6 ∷ 132 ∷ 19 ∷ 85 ∷ 5 ∷ 33 ∷ 3 ∷ 130 ∷ 3 ∷ 0 ∷ 0 ∷ 40 ∷ [])) 0 ≡ Ok (component 2 3 86 (number 135 5550123) absent_number 40 1, 34))
unfolding component_of whole_of kind_of answer_of invoke_of result_of error_of reject_of named_of name_of problem_tag bare_of need_of may_of look_of sized_of checked_of closed_of extra_of inside_of stopped_of absent_of opened_of code_of listed_at listed_of module_at module_by rest_of seen_of sequence_of element_by enter follow own_of party_at party_of party_by digited_of natured_of counted_of pairs_at pair_on paired_of there_of parts_of first_part flag_part party_part last_of partial_of duration_of clock_at clock_of seconds_at depth_of known_of made_of number_if head_of head_from length_place tag_after tag_by length_of filled_of big_at if_lt if_le if_eq if_so
said = (refl, refl, refl, refl)

-- nature 3 and 4 alone; complete and E.164, and what the low half says is free; the filler is 0; 1 to 15 digits, none above 9
numbers : (component_of (invoke 1 5 (129 ∷ 3 ∷ 3 ∷ 29 ∷ 33 ∷ [])) 0 ≡ Ok (component 1 1 16 (number 2 12) absent_number 0 1, 21))
    × (component_of (invoke 1 5 (129 ∷ 3 ∷ 131 ∷ 19 ∷ 1 ∷ [])) 0 ≡ Ok (component 1 1 16 (number 1 1) absent_number 0 1, 21))
    × (component_of (invoke 1 5 (129 ∷ 3 ∷ 5 ∷ 19 ∷ 33 ∷ [])) 0 ≡ Err (refusal 14 16))
    × (component_of (invoke 1 5 (129 ∷ 3 ∷ 67 ∷ 19 ∷ 33 ∷ [])) 0 ≡ Err (refusal 14 16))
    × (component_of (invoke 1 5 (129 ∷ 3 ∷ 2 ∷ 19 ∷ 33 ∷ [])) 0 ≡ Err (refusal 14 16))
    × (component_of (invoke 1 5 (129 ∷ 3 ∷ 3 ∷ 147 ∷ 33 ∷ [])) 0 ≡ Err (refusal 14 16))
    × (component_of (invoke 1 5 (129 ∷ 3 ∷ 131 ∷ 19 ∷ 33 ∷ [])) 0 ≡ Err (refusal 14 16))
    × (component_of (invoke 1 4 (129 ∷ 2 ∷ 3 ∷ 19 ∷ [])) 0 ≡ Err (refusal 14 16))
    × (component_of (invoke 1 12 (129 ∷ 10 ∷ 3 ∷ 19 ∷ 17 ∷ 17 ∷ 17 ∷ 17 ∷ 17 ∷ 17 ∷ 17 ∷ 17 ∷ [])) 0 ≡ Err (refusal 14 16))
    × (component_of (invoke 1 5 (129 ∷ 3 ∷ 3 ∷ 19 ∷ 161 ∷ [])) 0 ≡ Err (refusal 14 16))
unfolding component_of whole_of kind_of answer_of invoke_of result_of error_of reject_of named_of name_of problem_tag bare_of need_of may_of look_of sized_of checked_of closed_of extra_of inside_of stopped_of absent_of opened_of code_of listed_at listed_of module_at module_by rest_of seen_of sequence_of element_by enter follow own_of party_at party_of party_by digited_of natured_of counted_of pairs_at pair_on paired_of there_of parts_of first_part flag_part party_part last_of partial_of duration_of clock_at clock_of seconds_at depth_of known_of made_of number_if head_of head_from length_place tag_after tag_by length_of filled_of big_at if_lt if_le if_eq if_so
numbers = (refl, refl, refl, refl, refl, refl, refl, refl, refl, refl)

-- minutes and seconds below 60, hours up to 255
durations : (component_of (result 3 5 (130 ∷ 3 ∷ 255 ∷ 59 ∷ 59 ∷ [])) 0 ≡ Ok (component 2 3 64 absent_number absent_number 921599 1, 23))
    × (component_of (result 3 5 (130 ∷ 3 ∷ 0 ∷ 60 ∷ 0 ∷ [])) 0 ≡ Err (refusal 14 18))
    × (component_of (result 3 5 (130 ∷ 3 ∷ 0 ∷ 0 ∷ 60 ∷ [])) 0 ≡ Err (refusal 14 18))
unfolding component_of whole_of kind_of answer_of invoke_of result_of error_of reject_of named_of name_of problem_tag bare_of need_of may_of look_of sized_of checked_of closed_of extra_of inside_of stopped_of absent_of opened_of code_of listed_at listed_of module_at module_by rest_of seen_of sequence_of element_by enter follow own_of party_at party_of party_by digited_of natured_of counted_of pairs_at pair_on paired_of there_of parts_of first_part flag_part party_part last_of partial_of duration_of clock_at clock_of seconds_at depth_of known_of made_of number_if head_of head_from length_place tag_after tag_by length_of filled_of big_at if_lt if_le if_eq if_so
durations = (refl, refl, refl)

-- in order, each once, none after an element that is not known, none in pieces; [2] is known to CALLED alone
order : (component_of (invoke 3 8 (129 ∷ 3 ∷ 3 ∷ 19 ∷ 33 ∷ 128 ∷ 1 ∷ 255 ∷ [])) 0 ≡ Err (refusal 14 21))
    × (component_of (invoke 1 6 (128 ∷ 1 ∷ 0 ∷ 128 ∷ 1 ∷ 0 ∷ [])) 0 ≡ Err (refusal 14 19))
    × (component_of (invoke 1 5 (133 ∷ 0 ∷ 128 ∷ 1 ∷ 255 ∷ [])) 0 ≡ Err (refusal 14 18))
    × (component_of (invoke 1 3 (130 ∷ 1 ∷ 255 ∷ [])) 0 ≡ Ok (component 1 1 0 absent_number absent_number 0 1, 19))
    × (component_of (invoke 3 5 (133 ∷ 0 ∷ 130 ∷ 1 ∷ 255 ∷ [])) 0 ≡ Err (refusal 14 18))
    × (component_of (invoke 1 2 (161 ∷ 0 ∷ [])) 0 ≡ Err (refusal 14 16))
    × (component_of (invoke 1 4 (128 ∷ 2 ∷ 0 ∷ 255 ∷ [])) 0 ≡ Err (refusal 14 16))
unfolding component_of whole_of kind_of answer_of invoke_of result_of error_of reject_of named_of name_of problem_tag bare_of need_of may_of look_of sized_of checked_of closed_of extra_of inside_of stopped_of absent_of opened_of code_of listed_at listed_of module_at module_by rest_of seen_of sequence_of element_by enter follow own_of party_at party_of party_by digited_of natured_of counted_of pairs_at pair_on paired_of there_of parts_of first_part flag_part party_part last_of partial_of duration_of clock_at clock_of seconds_at depth_of known_of made_of number_if head_of head_from length_place tag_after tag_by length_of filled_of big_at if_lt if_le if_eq if_so
order = (refl, refl, refl, refl, refl, refl, refl)

-- a tag of several bytes is read over; what an element that is not known holds is read as elements
unknown : (component_of (invoke 1 9 (128 ∷ 1 ∷ 255 ∷ 191 ∷ 33 ∷ 3 ∷ 133 ∷ 1 ∷ 5 ∷ [])) 0 ≡ Ok (component 1 1 1 absent_number absent_number 0 1, 25))
    × (component_of (invoke 1 9 (128 ∷ 1 ∷ 255 ∷ 191 ∷ 33 ∷ 3 ∷ 48 ∷ 1 ∷ 5 ∷ [])) 0 ≡ Err (refusal 12 24))
    × (component_of (invoke 1 3 (191 ∷ 33 ∷ 0 ∷ [])) 0 ≡ Ok (component 1 1 0 absent_number absent_number 0 1, 19))
unfolding component_of whole_of kind_of answer_of invoke_of result_of error_of reject_of named_of name_of problem_tag bare_of need_of may_of look_of sized_of checked_of closed_of extra_of inside_of stopped_of absent_of opened_of code_of listed_at listed_of module_at module_by rest_of seen_of sequence_of element_by enter follow own_of party_at party_of party_by digited_of natured_of counted_of pairs_at pair_on paired_of there_of parts_of first_part flag_part party_part last_of partial_of duration_of clock_at clock_of seconds_at depth_of known_of made_of number_if head_of head_from length_place tag_after tag_by length_of filled_of big_at if_lt if_le if_eq if_so
unknown = (refl, refl, refl)

-- the component is 1: at 8 an element is read, at 9 it is 13, but 12 comes first
deep : (component_of (invoke 1 12 (48 ∷ 10 ∷ 48 ∷ 8 ∷ 48 ∷ 6 ∷ 48 ∷ 4 ∷ 48 ∷ 2 ∷ 48 ∷ 0 ∷ [])) 0 ≡ Ok (component 1 1 0 absent_number absent_number 0 1, 28))
    × (component_of (invoke 1 14 (48 ∷ 12 ∷ 48 ∷ 10 ∷ 48 ∷ 8 ∷ 48 ∷ 6 ∷ 48 ∷ 4 ∷ 48 ∷ 2 ∷ 5 ∷ 0 ∷ [])) 0 ≡ Err (refusal 13 28))
    × (component_of (invoke 1 14 (48 ∷ 12 ∷ 48 ∷ 10 ∷ 48 ∷ 8 ∷ 48 ∷ 6 ∷ 48 ∷ 4 ∷ 48 ∷ 2 ∷ 5 ∷ 1 ∷ [])) 0 ≡ Err (refusal 12 28))
    × (component_of (result 1 10 (48 ∷ 8 ∷ 48 ∷ 6 ∷ 48 ∷ 4 ∷ 48 ∷ 2 ∷ 48 ∷ 0 ∷ [])) 0 ≡ Ok (component 2 1 0 absent_number absent_number 0 1, 28))
    × (component_of (result 1 12 (48 ∷ 10 ∷ 48 ∷ 8 ∷ 48 ∷ 6 ∷ 48 ∷ 4 ∷ 48 ∷ 2 ∷ 5 ∷ 0 ∷ [])) 0 ≡ Err (refusal 13 28))
unfolding component_of whole_of kind_of answer_of invoke_of result_of error_of reject_of named_of name_of problem_tag bare_of need_of may_of look_of sized_of checked_of closed_of extra_of inside_of stopped_of absent_of opened_of code_of listed_at listed_of module_at module_by rest_of seen_of sequence_of element_by enter follow own_of party_at party_of party_by digited_of natured_of counted_of pairs_at pair_on paired_of there_of parts_of first_part flag_part party_part last_of partial_of duration_of clock_at clock_of seconds_at depth_of known_of made_of number_if head_of head_from length_place tag_after tag_by length_of filled_of big_at if_lt if_le if_eq if_so
deep = (refl, refl, refl, refl, refl)

-- an invoke may have a linked identifier and has a SEQUENCE; an error has nothing more, and no NULL
whole : (component_of (161 ∷ 17 ∷ 2 ∷ 1 ∷ 1 ∷ 128 ∷ 1 ∷ 7 ∷ 6 ∷ 7 ∷ 0 ∷ 17 ∷ 133 ∷ 96 ∷ 3 ∷ 1 ∷ 1 ∷ 48 ∷ 0 ∷ []) 0 ≡ Ok (component 1 1 0 absent_number absent_number 0 1, 19))
    × (component_of (161 ∷ 12 ∷ 2 ∷ 1 ∷ 1 ∷ 6 ∷ 7 ∷ 0 ∷ 17 ∷ 133 ∷ 96 ∷ 3 ∷ 1 ∷ 1 ∷ []) 0 ≡ Err (refusal 14 14))
    × (component_of (163 ∷ 14 ∷ 2 ∷ 1 ∷ 1 ∷ 6 ∷ 7 ∷ 0 ∷ 17 ∷ 133 ∷ 96 ∷ 3 ∷ 1 ∷ 5 ∷ 48 ∷ 0 ∷ []) 0 ≡ Err (refusal 14 14))
    × (component_of (163 ∷ 11 ∷ 5 ∷ 0 ∷ 6 ∷ 7 ∷ 0 ∷ 17 ∷ 133 ∷ 96 ∷ 3 ∷ 1 ∷ 5 ∷ []) 0 ≡ Err (refusal 14 2))
    × (component_of (163 ∷ 13 ∷ 2 ∷ 2 ∷ 0 ∷ 1 ∷ 6 ∷ 7 ∷ 0 ∷ 17 ∷ 133 ∷ 96 ∷ 3 ∷ 1 ∷ 5 ∷ []) 0 ≡ Err (refusal 14 2))
unfolding component_of whole_of kind_of answer_of invoke_of result_of error_of reject_of named_of name_of problem_tag bare_of need_of may_of look_of sized_of checked_of closed_of extra_of inside_of stopped_of absent_of opened_of code_of listed_at listed_of module_at module_by rest_of seen_of sequence_of element_by enter follow own_of party_at party_of party_by digited_of natured_of counted_of pairs_at pair_on paired_of there_of parts_of first_part flag_part party_part last_of partial_of duration_of clock_at clock_of seconds_at depth_of known_of made_of number_if head_of head_from length_place tag_after tag_by length_of filled_of big_at if_lt if_le if_eq if_so
whole = (refl, refl, refl, refl, refl)

-- a reject has a name or a NULL, and a problem of the tags 80 to 83 in one byte
rejects : (component_of (164 ∷ 6 ∷ 2 ∷ 1 ∷ 1 ∷ 131 ∷ 1 ∷ 7 ∷ []) 0 ≡ Ok (component 4 0 0 absent_number absent_number 0 1, 8))
    × (component_of (164 ∷ 5 ∷ 5 ∷ 0 ∷ 128 ∷ 1 ∷ 0 ∷ []) 0 ≡ Ok (component 4 0 0 absent_number absent_number 0 256, 7))
    × (component_of (164 ∷ 6 ∷ 2 ∷ 1 ∷ 1 ∷ 132 ∷ 1 ∷ 0 ∷ []) 0 ≡ Err (refusal 14 5))
    × (component_of (164 ∷ 5 ∷ 2 ∷ 1 ∷ 1 ∷ 128 ∷ 0 ∷ []) 0 ≡ Err (refusal 14 5))
unfolding component_of whole_of kind_of answer_of invoke_of result_of error_of reject_of named_of name_of problem_tag bare_of need_of may_of look_of sized_of checked_of closed_of extra_of inside_of stopped_of absent_of opened_of code_of listed_at listed_of module_at module_by rest_of seen_of sequence_of element_by enter follow own_of party_at party_of party_by digited_of natured_of counted_of pairs_at pair_on paired_of there_of parts_of first_part flag_part party_part last_of partial_of duration_of clock_at clock_of seconds_at depth_of known_of made_of number_if head_of head_from length_place tag_after tag_by length_of filled_of big_at if_lt if_le if_eq if_so
rejects = (refl, refl, refl, refl)

-- no component, one, two; 11, 12 and 14 of the parameter itself, in this order; a component cut short in it
parameters : (parameter_of (50 ∷ 1 ∷ 145 ∷ []) ≡ holds [])
    × (parameter_of (50 ∷ 9 ∷ 145 ∷ 164 ∷ 6 ∷ 2 ∷ 1 ∷ 1 ∷ 128 ∷ 1 ∷ 0 ∷ []) ≡ holds ((component 4 0 0 absent_number absent_number 0 1) ∷ []))
    × (parameter_of (50 ∷ 17 ∷ 145 ∷ 164 ∷ 6 ∷ 2 ∷ 1 ∷ 1 ∷ 128 ∷ 1 ∷ 0 ∷ 164 ∷ 6 ∷ 2 ∷ 1 ∷ 2 ∷ 128 ∷ 1 ∷ 0 ∷ []) ≡ holds ((component 4 0 0 absent_number absent_number 0 1) ∷ (component 4 0 0 absent_number absent_number 0 2) ∷ []))
    × (parameter_of (50 ∷ []) ≡ refused 11 0)
    × (parameter_of (50 ∷ 2 ∷ 145 ∷ []) ≡ refused 11 0)
    × (parameter_of (51 ∷ 5 ∷ 145 ∷ []) ≡ refused 11 0)
    × (parameter_of (50 ∷ 1 ∷ 145 ∷ 145 ∷ []) ≡ refused 12 0)
    × (parameter_of (50 ∷ 0 ∷ []) ≡ refused 12 0)
    × (parameter_of (51 ∷ 1 ∷ 145 ∷ []) ≡ refused 14 0)
    × (parameter_of (50 ∷ 1 ∷ 177 ∷ []) ≡ refused 14 2)
    × (parameter_of (50 ∷ 4 ∷ 145 ∷ 164 ∷ 6 ∷ 2 ∷ []) ≡ refused 11 3)
unfolding framed_of held_in parameter_of walk_of walk_by onward before component_of whole_of kind_of answer_of invoke_of result_of error_of reject_of named_of name_of problem_tag bare_of need_of may_of look_of sized_of checked_of closed_of extra_of inside_of stopped_of absent_of opened_of code_of listed_at listed_of module_at module_by rest_of seen_of sequence_of element_by enter follow own_of party_at party_of party_by digited_of natured_of counted_of pairs_at pair_on paired_of there_of parts_of first_part flag_part party_part last_of partial_of duration_of clock_at clock_of seconds_at depth_of known_of made_of number_if head_of head_from length_place tag_after tag_by length_of filled_of big_at if_lt if_le if_eq if_so
parameters = (refl, refl, refl, refl, refl, refl, refl, refl, refl, refl, refl)

-- as they are written
texts : (component_text (component 1 3 41 absent_number (number 7 5550123) 0 3) ≡ 161 ∷ 28 ∷ 2 ∷ 1 ∷ 3 ∷ 6 ∷ 7 ∷ 0 ∷ 17 ∷ 133 ∷ 96 ∷ 3 ∷ 1 ∷ 3 ∷ 48 ∷ 14 ∷ 128 ∷ 1 ∷ 255 ∷ 129 ∷ 6 ∷ 131 ∷ 19 ∷ 85 ∷ 5 ∷ 33 ∷ 3 ∷ 130 ∷ 1 ∷ 255 ∷ [])
    × (component_text (component 2 3 86 (number 143 999999999999999) absent_number 921599 3) ≡ 162 ∷ 36 ∷ 2 ∷ 1 ∷ 3 ∷ 48 ∷ 31 ∷ 6 ∷ 7 ∷ 0 ∷ 17 ∷ 133 ∷ 96 ∷ 3 ∷ 1 ∷ 3 ∷ 48 ∷ 20 ∷ 128 ∷ 1 ∷ 255 ∷ 129 ∷ 10 ∷ 132 ∷ 19 ∷ 153 ∷ 153 ∷ 153 ∷ 153 ∷ 153 ∷ 153 ∷ 153 ∷ 9 ∷ 130 ∷ 3 ∷ 255 ∷ 59 ∷ 59 ∷ [])
    × (component_text (component 3 5 0 absent_number absent_number 0 128) ≡ 163 ∷ 12 ∷ 2 ∷ 1 ∷ 128 ∷ 6 ∷ 7 ∷ 0 ∷ 17 ∷ 133 ∷ 96 ∷ 3 ∷ 1 ∷ 5 ∷ [])
    × (component_text (component 4 0 0 absent_number absent_number 0 256) ≡ 164 ∷ 5 ∷ 5 ∷ 0 ∷ 128 ∷ 1 ∷ 0 ∷ [])
unfolding component_text invoke_text result_text held_text error_text reject_text rejected_text id_text code_text seq_text parts_text first_text parties_text last_text flag_text party_text duration_text number_text padded_of octets_of element_text text_if if_lt if_le if_eq if_so
texts = (refl, refl, refl, refl)

-- just room enough, a byte more, which stays, a byte less: 8, and nothing is written. 3 before 8, with the first bad field: error 13, a Duration
-- too long, part 4 alone, an error with no identifier
written : (written_of (bad_of (component 4 0 0 absent_number absent_number 0 256)) (component_text (component 4 0 0 absent_number absent_number 0 256)) (9 ∷ 9 ∷ 9 ∷ 9 ∷ 9 ∷ 9 ∷ 9 ∷ []) ≡ Ok 7)
    × (leaves_of (bad_of (component 4 0 0 absent_number absent_number 0 256)) (component_text (component 4 0 0 absent_number absent_number 0 256)) (9 ∷ 9 ∷ 9 ∷ 9 ∷ 9 ∷ 9 ∷ 9 ∷ 9 ∷ []) ≡ 164 ∷ 5 ∷ 5 ∷ 0 ∷ 128 ∷ 1 ∷ 0 ∷ 9 ∷ [])
    × (written_of (bad_of (component 4 0 0 absent_number absent_number 0 256)) (component_text (component 4 0 0 absent_number absent_number 0 256)) (9 ∷ 9 ∷ 9 ∷ 9 ∷ 9 ∷ 9 ∷ []) ≡ Err NoRoom)
    × (leaves_of (bad_of (component 4 0 0 absent_number absent_number 0 256)) (component_text (component 4 0 0 absent_number absent_number 0 256)) (9 ∷ 9 ∷ 9 ∷ 9 ∷ 9 ∷ 9 ∷ []) ≡ 9 ∷ 9 ∷ 9 ∷ 9 ∷ 9 ∷ 9 ∷ [])
    × (written_of (bad_of (component 2 3 86 (number 143 999999999999999) absent_number 921599 3)) (component_text (component 2 3 86 (number 143 999999999999999) absent_number 921599 3)) (9 ∷ 9 ∷ 9 ∷ 9 ∷ 9 ∷ 9 ∷ 9 ∷ 9 ∷ 9 ∷ 9 ∷ 9 ∷ 9 ∷ 9 ∷ 9 ∷ 9 ∷ 9 ∷ 9 ∷ 9 ∷ 9 ∷ 9 ∷ 9 ∷ 9 ∷ 9 ∷ 9 ∷ 9 ∷ 9 ∷ 9 ∷ 9 ∷ 9 ∷ 9 ∷ 9 ∷ 9 ∷ 9 ∷ 9 ∷ 9 ∷ 9 ∷ 9 ∷ 9 ∷ []) ≡ Ok 38)
    × (written_of (bad_of (component 3 13 0 absent_number absent_number 0 1)) (component_text (component 3 13 0 absent_number absent_number 0 1)) [] ≡ Err (BadField 2))
    × (written_of (bad_of (component 2 3 64 absent_number absent_number 921600 1)) (component_text (component 2 3 64 absent_number absent_number 921600 1)) [] ≡ Err (BadField 4))
    × (written_of (bad_of (component 2 1 4 absent_number absent_number 0 1)) (component_text (component 2 1 4 absent_number absent_number 0 1)) [] ≡ Err (BadField 3))
    × (written_of (bad_of (component 3 5 0 absent_number absent_number 0 256)) (component_text (component 3 5 0 absent_number absent_number 0 256)) [] ≡ Err (BadField 4))
unfolding written_of leaves_of bad_of bad_from fields_of field_if range_ok both_ok item_ok argument_ok result_ok places_ok unnamed_ok untimed_ok parts_ok number_ok duration_ok id_ok component_text invoke_text result_text held_text error_text reject_text rejected_text id_text code_text seq_text parts_text first_text parties_text last_text flag_text party_text duration_text number_text padded_of octets_of element_text text_if if_lt if_le if_eq if_so
written = (refl, refl, refl, refl, refl, refl, refl, refl, refl)

-- the first field out of range, by its ordinal: each of the six of a result with a number and a Duration; the identifier where there are
-- fewer before it; a value that the parts do not name is field 3, before the others; of two the first is told
fields : (bad_of (component 2 3 80 (number 2 12) absent_number 5 255) ≡ 0)
    × (bad_of (component 5 3 80 (number 2 12) absent_number 5 255) ≡ 1)
    × (bad_of (component 2 4 80 (number 2 12) absent_number 5 255) ≡ 2)
    × (bad_of (component 2 3 112 (number 2 12) (number 2 12) 5 255) ≡ 3)
    × (bad_of (component 2 3 80 (number 2 100) absent_number 5 255) ≡ 4)
    × (bad_of (component 2 3 80 (number 2 12) absent_number 921600 255) ≡ 5)
    × (bad_of (component 2 3 80 (number 2 12) absent_number 5 256) ≡ 6)
    × (bad_of (component 2 3 0 absent_number absent_number 0 256) ≡ 4)
    × (bad_of (component 2 3 64 absent_number absent_number 921600 256) ≡ 4)
    × (bad_of (component 2 3 64 absent_number absent_number 5 256) ≡ 5)
    × (bad_of (component 2 1 32 absent_number (number 16 1) 0 255) ≡ 4)
    × (bad_of (component 2 3 80 (number 2 12) (number 2 12) 5 255) ≡ 3)
    × (bad_of (component 2 3 16 (number 16 12) absent_number 5 256) ≡ 3)
    × (bad_of (component 3 13 1 absent_number absent_number 5 256) ≡ 2)
    × (bad_of (component 4 0 0 absent_number absent_number 0 257) ≡ 4)
    × (bad_of (component 0 0 255 absent_number absent_number 5 300) ≡ 1)
unfolding bad_of bad_from fields_of field_if range_ok both_ok item_ok argument_ok result_ok places_ok unnamed_ok untimed_ok parts_ok number_ok duration_ok id_ok if_lt if_eq if_so
fields = (refl, refl, refl, refl, refl, refl, refl, refl, refl, refl, refl, refl, refl, refl, refl, refl)
