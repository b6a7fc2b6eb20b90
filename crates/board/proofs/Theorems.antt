-- THE THEOREMS about a row of calls, each with its sentence of 02 #107 or #108, to be read alone. What they speak of is defined in specs/:
-- Row.antt (`answer_at` and `row_after`, the answer to an event at a slot and the row that it leaves; `lowest_free`, the answer to the
-- question for a free slot; `run_row`, `own_of` and `steps_at`, any list of events, each at the slot that it names) and Promises.antt (the
-- rest). A row has any length, and a slot is a place of it below 64; `get_elem? cs i` is the call in the slot i of the row cs, or none. The
-- files cited prove them.
-- Assumes nothing.
use mathlib.Core.Path.{◌≡◌, refl}
use mathlib.Core.Bool.{true}
use mathlib.Core.List.{List, []}
use mathlib.Core.Logic.{◌↔◌}
use mathlib.Core.Option.{some}
use Prim.Native.Nat.{ℕ, ◌≤◌, ◌<◌, zero-le}
use lib.ListN.{length, get_elem?, set}
use Rattle.std.specs.Prelude.{Some, None}
use Rattle.meters.specs.declared.Payer.TheVariants.{Nobody}
use Rattle.rows.specs.History.{run, history}
use Rattle.rows.specs.Step.{unopened_call, free_of, step_of}
use Rattle.rows.specs.Valid.{valid_of, event_ok}
use Rattle.rows.specs.declared.Call.{Call}
use Rattle.rows.specs.declared.Event.{Event}
use Rattle.rows.specs.declared.Event.TheVariants.{Opening}
use Rattle.rows.specs.declared.Number.{Number}
use Rattle.rows.specs.declared.Phase.TheVariants.{Answered}
use Rattle.board.specs.Promises.{LowestAt, NoneFree, Matters, all_in_use, freed_at}
use Rattle.board.specs.Row.{no_slot, answer_at, row_after, free_number, lowest_free, Named, run_row, own_of, steps_at, empty_row}
use Rattle.board.proofs.Laws
use Rattle.board.proofs.Lowest
use Rattle.board.proofs.Nineteen
use Rattle.board.proofs.Runs

-- ---- An event at a slot

-- At a slot that is there the answer is that of its call ..
pub answer_is : (cs : List Call) (i : ℕ) (e : Event) (c : Call) → i < 64 → get_elem? cs i ≡ some c → answer_at cs i e ≡ step_of c e
answer_is = Laws.answer_is

-- .. and the row is the one lent, with the call that follows in that slot and every other as it was: the final row in full.
pub row_is : (cs : List Call) (i : ℕ) (e : Event) (c : Call) → i < 64 → get_elem? cs i ≡ some c → row_after cs i e ≡ set cs i (step_of c e).call
row_is = Laws.row_is

-- A row keeps its length.
pub row_length : (cs : List Call) (i : ℕ) (e : Event) → length (row_after cs i e) ≡ length cs
row_length = Laws.row_length

-- "An event at one slot changes nothing at another" ..
pub other_slots : (cs : List Call) (i j : ℕ) (e : Event) → (i ≡ j → ⊥) → get_elem? (row_after cs i e) j ≡ get_elem? cs j
other_slots = Laws.other_slots

-- .. "and its answer depends on that slot's call and the event alone": two rows that agree there answer alike ..
pub answer_alone : (cs ds : List Call) (i : ℕ) (e : Event) → get_elem? cs i ≡ get_elem? ds i → answer_at cs i e ≡ answer_at ds i e
answer_alone = Laws.answer_alone

-- .. so no event at another slot changes it.
pub answer_stays : (cs : List Call) (i j : ℕ) (e f : Event) → (i ≡ j → ⊥) → answer_at (row_after cs i e) j f ≡ answer_at cs j f
answer_stays = Laws.answer_stays

-- On a refusal, whatever its number, the whole row is as it was.
pub refused_row_stays : (cs : List Call) (i : ℕ) (e : Event) → ((answer_at cs i e).number ≡ 0 → ⊥) → row_after cs i e ≡ cs
refused_row_stays = Laws.refused_row_stays

-- "Two events at different slots give the same row of calls in either order, openings included", and each its own answer.
pub either_order : (cs : List Call) (i j : ℕ) (e f : Event) → (i ≡ j → ⊥) →
    (row_after (row_after cs i e) j f ≡ row_after (row_after cs j f) i e)
    × (answer_at (row_after cs j f) i e ≡ answer_at cs i e)
    × (answer_at (row_after cs i e) j f ≡ answer_at cs j f)
either_order = Laws.either_order

-- ---- "19 no such slot (past the row's end or past 63)"

-- Past 63 there is no slot, however long the row is, and past its end there is none: 19 with an unopened call, and the row as it was ..
pub past_63 : (cs : List Call) (i : ℕ) (e : Event) → 64 ≤ i → (answer_at cs i e ≡ no_slot) × (row_after cs i e ≡ cs)
past_63 = Laws.past_63

pub past_the_end : (cs : List Call) (i : ℕ) (e : Event) → length cs ≤ i → (answer_at cs i e ≡ no_slot) × (row_after cs i e ≡ cs)
past_the_end = Laws.past_the_end

-- .. and nowhere else is 19 given, whatever the call and the event.
pub nineteen_exactly : (cs : List Call) (i : ℕ) (e : Event) → ((answer_at cs i e).number ≡ 19) ↔ ((i < 64) × (i < length cs) → ⊥)
nineteen_exactly = Nineteen.nineteen_exactly

-- A row with no call has no slot, and none that is free.
pub no_calls : (i : ℕ) (e : Event) → (answer_at [] i e ≡ no_slot) × (lowest_free [] ≡ None)
no_calls i e = ((Laws.past_the_end [] i e zero-le).0, refl)

-- ---- "The host may ask for the lowest free slot; it is refused exactly if none is free"

-- A slot is the answer exactly if it is there, below 64 and free, and no lower one is ..
pub lowest_exactly : (cs : List Call) (i : ℕ) → (lowest_free cs ≡ Some i) ↔ LowestAt cs i
lowest_exactly = Lowest.lowest_exactly

-- .. and the answer is 21 exactly if no slot is free.
pub nowhere_exactly : (cs : List Call) → (free_number (lowest_free cs) ≡ 21) ↔ NoneFree cs
nowhere_exactly = Lowest.nowhere_exactly

-- The slot found takes an opening: one with its fields in range is accepted there.
pub lowest_takes_opening : (cs : List Call) (i r f : ℕ) (n : Number) → lowest_free cs ≡ Some i → event_ok (Opening r f n) ≡ true →
    (answer_at cs i (Opening r f n)).number ≡ 0
lowest_takes_opening = Lowest.lowest_takes_opening

-- Where none is free, whichever slot gets a free call is the answer ..
pub freed_found : (cs : List Call) (i : ℕ) (c : Call) → lowest_free cs ≡ None → i < 64 → i < length cs → free_of c ≡ true →
    lowest_free (set cs i c) ≡ Some i
freed_found = Lowest.freed_found

-- .. so "The question for a free slot depends on every slot": 64 calls in use get 21, and the same with the slot i not opened get i; these two
-- rows differ there alone.
pub every_slot_asked : (i : ℕ) → i < 64 → (lowest_free all_in_use ≡ None) × (lowest_free (freed_at i) ≡ Some i) × Matters i (freed_at i) all_in_use
every_slot_asked = Lowest.every_slot_asked

-- ---- Many events, each at its slot: every slot is a call of its own

-- After any list of events a slot holds the call that its own events lead to, so what the rows show of `run` holds for each slot ..
pub slot_runs : (cs : List Call) (xs : List Named) (i : ℕ) (c : Call) → i < 64 → get_elem? cs i ≡ some c →
    get_elem? (run_row cs xs) i ≡ some (run c (own_of i xs))
slot_runs = Runs.slot_runs

-- .. its history is that of this call, so what they show of `history` holds for each slot, the bill among it ..
pub slot_history : (cs : List Call) (xs : List Named) (i : ℕ) (c : Call) → i < 64 → get_elem? cs i ≡ some c →
    steps_at i cs xs ≡ history c (own_of i xs)
slot_history = Runs.slot_history

-- .. and the next event there is answered as that call answers it.
pub slot_answers : (cs : List Call) (xs : List Named) (i : ℕ) (e : Event) (c : Call) → i < 64 → get_elem? cs i ≡ some c →
    answer_at (run_row cs xs) i e ≡ step_of (run c (own_of i xs)) e
slot_answers = Runs.slot_answers

-- A row keeps its length, whatever the events, and what lies past 63 stays as it was.
pub run_length : (cs : List Call) (xs : List Named) → length (run_row cs xs) ≡ length cs
run_length = Runs.run_length

pub past_stays : (cs : List Call) (xs : List Named) (j : ℕ) → 64 ≤ j → get_elem? (run_row cs xs) j ≡ get_elem? cs j
past_stays = Runs.past_stays

-- In the program's row each slot is a call from before its opening on.
pub program_slots : (xs : List Named) (i : ℕ) → i < 64 →
    (get_elem? (run_row empty_row xs) i ≡ some (run unopened_call (own_of i xs))) × (steps_at i empty_row xs ≡ history unopened_call (own_of i xs))
program_slots = Runs.program_slots

-- Somebody pays (02 #108), for every slot: whatever the events, and whatever the other slots hold, a slot that held a call holds none that is
-- ANSWERED with nobody as payer ..
pub slot_pays : (cs : List Call) (xs : List Named) (i : ℕ) (c d : Call) → i < 64 → get_elem? cs i ≡ some c → valid_of c ≡ true →
    get_elem? (run_row cs xs) i ≡ some d → d.stand.phase ≡ Answered → d.meters.payer ≡ Nobody → ⊥
slot_pays = Runs.slot_pays

-- .. so no slot of the program's row ever holds such a call.
pub program_pays : (xs : List Named) (i : ℕ) (d : Call) → i < 64 → get_elem? (run_row empty_row xs) i ≡ some d →
    d.stand.phase ≡ Answered → d.meters.payer ≡ Nobody → ⊥
program_pays = Runs.program_pays
