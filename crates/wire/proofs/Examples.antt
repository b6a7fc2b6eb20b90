-- Components and parameters to the octet: the examples of docs/WIRE.md, a looser form, and each refusal at its place.
-- Assumes nothing.
use mathlib.Core.Path.{◌≡◌, refl}
use mathlib.Core.List.{List, [], ◌∷◌, ◌++◌}
use Prim.Native.Nat.{ℕ}
use Rattle.text.specs.Choose.{if_lt, if_le, if_eq, if_so}
use Rattle.wire.specs.Bytes.{big_at}
use Rattle.wire.specs.Heads.{tag_by, tag_after, length_place, filled_of, length_of, head_from, head_of}
use Rattle.wire.specs.Elements.{own_of, enter, follow, element_by, element_of, sequence_of}
use Rattle.wire.specs.Cursors.{stopped_of, absent_of, opened_of, inside_of, sized_of, look_of, need_of, may_of, extra_of, closed_of, checked_of, seen_of, rest_of}
use Rattle.wire.specs.Values.{module_by, module_at, listed_of, listed_at, paired_of, pair_on, pairs_at, counted_of, natured_of, digited_of, party_by, party_of, there_of, clock_of, clock_at, seconds_at, problem_tag}
use Rattle.wire.specs.Grammar.{code_of, flag_part, first_part, party_at, party_part, partial_of, duration_of, last_of, depth_of, known_of, parts_of, number_if, made_of, bare_of, answer_of, invoke_of, result_of, error_of, named_of, name_of, reject_of, kind_of, whole_of, component_of}
use Rattle.wire.specs.Parameters.{refused, holds, before, onward, walk_by, walk_of, framed_of, held_in, parameter_of}
use Rattle.wire.specs.Texts.{element_text, text_if, octets_of, padded_of, number_text, flag_text, party_text, duration_text, first_text, parties_text, last_text, parts_text, seq_text, id_text, rejected_text, code_text, invoke_text, held_text, result_text, error_text, reject_text, component_text}
use Rattle.wire.specs.Writable.{range_ok, both_ok, item_ok, argument_ok, result_ok, places_ok, unnamed_ok, untimed_ok, parts_ok, number_ok, duration_ok, id_ok, field_if, fields_of, bad_from, bad_of, writable_of}
use Rattle.wire.specs.declared.Component.{Component}
use Rattle.wire.specs.Answers.{refusal}
use Rattle.std.specs.Prelude.{Ok, Err}

abbrev invoke_bytes : List ℕ
invoke_bytes = 161 ∷ 28 ∷ 2 ∷ 1 ∷ 3 ∷ 6 ∷ 7 ∷ 0 ∷ 17 ∷ 133 ∷ 96 ∷ 3 ∷ 1 ∷ 3 ∷ 48 ∷ 14 ∷ 128 ∷ 1 ∷ 255 ∷ 129 ∷ 6 ∷ 131 ∷ 19 ∷ 85 ∷ 5 ∷ 33 ∷ 3 ∷ 130 ∷ 1 ∷ 255 ∷ []

abbrev invoke : Component
invoke = record { kind = 1; item = 3; parts = 41; calling = record { count = 0; value = 0 }; called = record { count = 7; value = 5550123 }; duration = 0; id = 3 }

abbrev result_bytes : List ℕ
result_bytes = 162 ∷ 32 ∷ 2 ∷ 1 ∷ 3 ∷ 48 ∷ 27 ∷ 6 ∷ 7 ∷ 0 ∷ 17 ∷ 133 ∷ 96 ∷ 3 ∷ 1 ∷ 3 ∷ 48 ∷ 16 ∷ 128 ∷ 1 ∷ 255 ∷ 129 ∷ 6 ∷ 131 ∷ 19 ∷ 85 ∷ 5 ∷ 33 ∷ 3 ∷ 130 ∷ 3 ∷ 0 ∷ 0 ∷ 40 ∷ []

abbrev result : Component
result = record { kind = 2; item = 3; parts = 86; calling = record { count = 7; value = 5550123 }; called = record { count = 0; value = 0 }; duration = 40; id = 3 }

abbrev failure_bytes : List ℕ
failure_bytes = 163 ∷ 12 ∷ 2 ∷ 1 ∷ 2 ∷ 6 ∷ 7 ∷ 0 ∷ 17 ∷ 133 ∷ 96 ∷ 3 ∷ 1 ∷ 5 ∷ []

abbrev failure : Component
failure = record { kind = 3; item = 5; parts = 0; calling = record { count = 0; value = 0 }; called = record { count = 0; value = 0 }; duration = 0; id = 2 }

abbrev rejection_bytes : List ℕ
rejection_bytes = 164 ∷ 5 ∷ 5 ∷ 0 ∷ 128 ∷ 1 ∷ 0 ∷ []

abbrev rejection : Component
rejection = record { kind = 4; item = 0; parts = 0; calling = record { count = 0; value = 0 }; called = record { count = 0; value = 0 }; duration = 0; id = 256 }

-- each kind as it is read, looser forms, and each refusal at its place
read_worked :
    (component_of invoke_bytes 0 ≡ Ok (invoke, 30))
    × (component_of result_bytes 0 ≡ Ok (result, 34))
    × (component_of failure_bytes 0 ≡ Ok (failure, 14))
    × (component_of rejection_bytes 0 ≡ Ok (rejection, 7))
    -- longer lengths, an empty SEQUENCE too
    × (component_of (161 ∷ 130 ∷ 0 ∷ 20 ∷ 2 ∷ 129 ∷ 1 ∷ 1 ∷ 6 ∷ 131 ∷ 0 ∷ 0 ∷ 7 ∷ 0 ∷ 17 ∷ 133 ∷ 96 ∷ 3 ∷ 1 ∷ 1 ∷ 48 ∷ 130 ∷ 0 ∷ 0 ∷ []) 0 ≡ Ok (record { kind = 1; item = 1; parts = 0; calling = record { count = 0; value = 0 }; called = record { count = 0; value = 0 }; duration = 0; id = 1 }, 24))
    -- an unknown element with a tag of two bytes is left out
    × (component_of (161 ∷ 23 ∷ 2 ∷ 1 ∷ 1 ∷ 6 ∷ 7 ∷ 0 ∷ 17 ∷ 133 ∷ 96 ∷ 3 ∷ 1 ∷ 1 ∷ 48 ∷ 9 ∷ 128 ∷ 1 ∷ 255 ∷ 191 ∷ 33 ∷ 3 ∷ 133 ∷ 1 ∷ 5 ∷ []) 0 ≡ Ok (record { kind = 1; item = 1; parts = 1; calling = record { count = 0; value = 0 }; called = record { count = 0; value = 0 }; duration = 0; id = 1 }, 25))
    -- a byte lacks
    × (component_of (163 ∷ 12 ∷ 2 ∷ 1 ∷ 1 ∷ 6 ∷ 7 ∷ 0 ∷ 17 ∷ 133 ∷ 96 ∷ 3 ∷ 1 ∷ []) 0 ≡ Err (refusal 11 0))
    -- an inner element passes its holder, and the bytes end there too
    × (component_of (161 ∷ 14 ∷ 2 ∷ 1 ∷ 1 ∷ 6 ∷ 7 ∷ 0 ∷ 17 ∷ 133 ∷ 96 ∷ 3 ∷ 1 ∷ 1 ∷ 48 ∷ 1 ∷ []) 0 ≡ Err (refusal 12 14))
    -- an element at depth 8
    × (component_of (161 ∷ 26 ∷ 2 ∷ 1 ∷ 1 ∷ 6 ∷ 7 ∷ 0 ∷ 17 ∷ 133 ∷ 96 ∷ 3 ∷ 1 ∷ 1 ∷ 48 ∷ 12 ∷ 48 ∷ 10 ∷ 48 ∷ 8 ∷ 48 ∷ 6 ∷ 48 ∷ 4 ∷ 48 ∷ 2 ∷ 48 ∷ 0 ∷ []) 0 ≡ Ok (record { kind = 1; item = 1; parts = 0; calling = record { count = 0; value = 0 }; called = record { count = 0; value = 0 }; duration = 0; id = 1 }, 28))
    -- at depth 9
    × (component_of (161 ∷ 28 ∷ 2 ∷ 1 ∷ 1 ∷ 6 ∷ 7 ∷ 0 ∷ 17 ∷ 133 ∷ 96 ∷ 3 ∷ 1 ∷ 1 ∷ 48 ∷ 14 ∷ 48 ∷ 12 ∷ 48 ∷ 10 ∷ 48 ∷ 8 ∷ 48 ∷ 6 ∷ 48 ∷ 4 ∷ 48 ∷ 2 ∷ 5 ∷ 0 ∷ []) 0 ≡ Err (refusal 13 28))
    -- an error that the module has not
    × (component_of (163 ∷ 12 ∷ 2 ∷ 1 ∷ 1 ∷ 6 ∷ 7 ∷ 0 ∷ 17 ∷ 133 ∷ 96 ∷ 3 ∷ 1 ∷ 13 ∷ []) 0 ≡ Err (refusal 14 5))
    -- no definite length
    × (component_of (161 ∷ 128 ∷ 2 ∷ 1 ∷ 1 ∷ []) 0 ≡ Err (refusal 12 0))
unfolding if_lt if_le if_eq if_so big_at tag_by tag_after length_place filled_of length_of head_from head_of own_of enter follow element_by element_of sequence_of stopped_of absent_of opened_of inside_of sized_of look_of need_of may_of extra_of closed_of checked_of seen_of rest_of module_by module_at listed_of listed_at paired_of pair_on pairs_at counted_of natured_of digited_of party_by party_of there_of clock_of clock_at seconds_at problem_tag code_of flag_part first_part party_at party_part partial_of duration_of last_of depth_of known_of parts_of number_if made_of bare_of answer_of invoke_of result_of error_of named_of name_of reject_of kind_of whole_of component_of
read_worked = (refl, refl, refl, refl, refl, refl, refl, refl, refl, refl, refl, refl)

-- and as it is written
written_worked :
    (component_text invoke ≡ invoke_bytes)
    × (writable_of invoke ≡ 1)
    × (component_text result ≡ result_bytes)
    × (writable_of result ≡ 1)
    × (component_text failure ≡ failure_bytes)
    × (writable_of failure ≡ 1)
    × (component_text rejection ≡ rejection_bytes)
    × (writable_of rejection ≡ 1)
unfolding if_lt if_eq if_so element_text text_if octets_of padded_of number_text flag_text party_text duration_text first_text parties_text last_text parts_text seq_text id_text rejected_text code_text invoke_text held_text result_text error_text reject_text component_text range_ok both_ok item_ok argument_ok result_ok places_ok unnamed_ok untimed_ok parts_ok number_ok duration_ok id_ok field_if fields_of bad_from bad_of writable_of
written_worked = (refl, refl, refl, refl, refl, refl, refl, refl)

-- a parameter of two, of none, and others
parameter_worked :
    (parameter_of (50 ∷ 22 ∷ 145 ∷ (failure_bytes ++ rejection_bytes)) ≡ holds (failure ∷ rejection ∷ []))
    × (parameter_of (50 ∷ 1 ∷ 145 ∷ []) ≡ holds [])
    × (parameter_of (50 ∷ 15 ∷ 145 ∷ rejection_bytes) ≡ refused 11 0)
    × (parameter_of (50 ∷ 2 ∷ 145 ∷ rejection_bytes) ≡ refused 12 0)
    × (parameter_of (51 ∷ 1 ∷ 145 ∷ []) ≡ refused 14 0)
    × (parameter_of (50 ∷ 1 ∷ 146 ∷ []) ≡ refused 14 2)
    × (parameter_of (50 ∷ 16 ∷ 145 ∷ (failure_bytes ++ (0 ∷ []))) ≡ refused 11 17)
unfolding if_lt if_le if_eq if_so big_at tag_by tag_after length_place filled_of length_of head_from head_of own_of enter follow element_by element_of sequence_of stopped_of absent_of opened_of inside_of sized_of look_of need_of may_of extra_of closed_of checked_of seen_of rest_of module_by module_at listed_of listed_at paired_of pair_on pairs_at counted_of natured_of digited_of party_by party_of there_of clock_of clock_at seconds_at problem_tag code_of flag_part first_part party_at party_part partial_of duration_of last_of depth_of known_of parts_of number_if made_of bare_of answer_of invoke_of result_of error_of named_of name_of reject_of kind_of whole_of component_of before onward walk_by walk_of framed_of held_in parameter_of
parameter_worked = (refl, refl, refl, refl, refl, refl, refl)
