-- Rows worked through, by the definitions alone.
-- Assumes nothing.
use Rattle.std.specs.Prelude.{Some, None, false, ◌≡◌, refl, List, [], ◌∷◌, ℕ, replicate}
use Rattle.rows.specs.History.{run}
use Rattle.rows.specs.Perform.{at, refused_of}
use Rattle.rows.specs.Step.{unopened_call}
use Rattle.rows.specs.declared.Call.{Call}
use Rattle.rows.specs.declared.Event.{Event}
use Rattle.rows.specs.declared.Event.TheVariants.{Opening, Ask, FromAccess, Expiry, Time}
use Rattle.rows.specs.declared.Nature.TheVariants.{National}
use Rattle.rows.specs.declared.Number.{Number}
use Rattle.rows.specs.declared.Phase.{Phase}
use Rattle.rows.specs.declared.Phase.TheVariants.{Unopened, Null, Setup, Cleared}
use Rattle.rows.specs.declared.RevState.TheVariants.{Active}
use Rattle.board.specs.Promises.{call_in_use}
use Rattle.board.specs.Row.{no_slot, answer_at, row_after, free_number, lowest_free, Named, run_row, own_of, empty_row}

abbrev seven : Number
seven = record { nature = National; count = 1; value = 7 }

abbrev opens : Event
opens = Opening 0 0 seven

abbrev named : ℕ → Event → Named
named i e = record { slot = i; event = e }

abbrev phases : List Call → List Phase
phases [] = []
phases (c ∷ cs) = c.stand.phase ∷ phases cs

-- a row of three with one free: it is found, and an opening takes it; then none is
abbrev three : List Call
three = call_in_use ∷ unopened_call ∷ call_in_use ∷ []

pub three_has_one : lowest_free three ≡ Some 1
three_has_one = refl

pub three_opened : ((answer_at three 1 opens).number ≡ 0) × (phases (row_after three 1 opens) ≡ Null ∷ Null ∷ Null ∷ [])
three_opened = (refl, refl)

pub three_full : lowest_free (row_after three 1 opens) ≡ None
three_full = refl

pub three_refused : free_number (lowest_free (row_after three 1 opens)) ≡ 21
three_refused = refl

-- a call that has cleared is free, and one that gives 9 is not: an unopened call with a REV state of another phase
abbrev cleared_call : Call
cleared_call = run unopened_call (opens ∷ Ask 0 seven ∷ FromAccess 4 0 ∷ [])

pub cleared_is_free : (cleared_call.stand.phase ≡ Cleared) × (lowest_free (call_in_use ∷ cleared_call ∷ []) ≡ Some 1)
cleared_is_free = (refl, refl)

abbrev no_call : Call
no_call = record { side = unopened_call.side; stand = at Unopened Active false false; meters = unopened_call.meters }

pub nine_is_not_free : ((answer_at (no_call ∷ []) 0 opens).number ≡ 9) × (lowest_free (no_call ∷ unopened_call ∷ []) ≡ Some 1)
nine_is_not_free = (refl, refl)

-- two are free: the lower one is the answer
pub lower_of_two : lowest_free (call_in_use ∷ unopened_call ∷ unopened_call ∷ []) ≡ Some 1
lower_of_two = refl

-- past the end of a row of three; and past 63, where the row goes on
pub three_past : (answer_at three 3 opens ≡ refused_of 19 unopened_call) × (row_after three 3 opens ≡ three)
three_past = (refl, refl)

abbrev longer : List Call
longer = replicate 65 unopened_call

pub last_slot : ((answer_at longer 63 opens).number ≡ 0) × (answer_at longer 64 opens ≡ no_slot)
last_slot = (refl, refl)

-- an empty row has no slot
pub empty_nineteen : (answer_at [] 0 opens).number ≡ 19
empty_nineteen = refl

pub empty_nowhere : lowest_free [] ≡ None
empty_nowhere = refl

-- the program's row, before any event: slot 0 is free
pub first_is_free : lowest_free empty_row ≡ Some 0
unfolding empty_row
first_is_free = refl

-- events at two slots in turn: each slot has the events that name it
abbrev mixed : List Named
mixed = named 2 opens ∷ named 0 opens ∷ named 2 (Ask 0 seven) ∷ named 3 opens ∷ named 0 (Time 5) ∷ named 2 Expiry ∷ []

pub mixed_own : own_of 2 mixed ≡ opens ∷ Ask 0 seven ∷ Expiry ∷ []
mixed_own = refl

pub mixed_phases : phases (run_row (unopened_call ∷ unopened_call ∷ unopened_call ∷ []) mixed) ≡ Null ∷ Unopened ∷ Setup ∷ []
mixed_phases = refl
