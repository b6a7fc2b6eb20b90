-- A row of calls, of which the first 64 are slots: the answer to an event that names one, the row that it leaves, the lowest free slot, and
-- the row after a list of such events, with the history of each slot.
-- Assumes nothing.
use Rattle.std.specs.Prelude.{Option, Some, None, ℕ, zero, suc, Bool, false, ◌||◌, List, [], ◌∷◌, eqb, ltb, get_or, replicate}
use Rattle.rows.specs.Bill.{pick, Step}
use Rattle.rows.specs.History.{written}
use Rattle.rows.specs.Numbers.{applied}
use Rattle.rows.specs.Perform.{refused_of}
use Rattle.rows.specs.Step.{unopened_call, free_of, step_of}
use Rattle.rows.specs.declared.Call.{Call}
use Rattle.rows.specs.declared.Event.{Event}
use Rattle.rows.specs.declared.Outcome.{Outcome}
use Rattle.board.specs.Numbers.{no_such_slot, none_free, slots}

-- ---- An event at a slot

-- 02 #107: "19 no such slot (past the row's end or past 63)", "with an unopened call"
abbrev pub no_slot : Outcome
no_slot = refused_of no_such_slot unopened_call

-- "its answer depends on that slot's call and the event alone"; past the row's end there is no slot
abbrev pub answer_in : List Call → ℕ → Event → Outcome
answer_in [] i e = no_slot
answer_in (c ∷ cs) zero e = step_of c e
answer_in (c ∷ cs) (suc i) e = answer_in cs i e

-- one element of a list changed, if it is there, and every other as it was
abbrev pub altered : {A : Type 0} → (A → A) → List A → ℕ → List A
altered f [] i = []
altered f (x ∷ xs) zero = f x ∷ xs
altered f (x ∷ xs) (suc i) = x ∷ altered f xs i

-- "An event at one slot changes nothing at another": the call at i takes its step
abbrev pub row_in : List Call → ℕ → Event → List Call
row_in cs i e = altered (λ c. (step_of c e).call) cs i

-- the same where no slot is "past 63", however long the row is
abbrev pub answer_at : List Call → ℕ → Event → Outcome
answer_at cs i e = pick (ltb i slots) (answer_in cs i e) no_slot

abbrev pub row_after : List Call → ℕ → Event → List Call
row_after cs i e = pick (ltb i slots) (row_in cs i e) cs

-- ---- The question for a free slot: "The host may ask for the lowest free slot; it is refused exactly if none is free"

-- the number of an answer ..
abbrev pub free_number : Option ℕ → ℕ
free_number (Some i) = applied
free_number None = none_free

-- .. and its value: the slot, and 0 where there is none
abbrev pub free_slot : Option ℕ → ℕ
free_slot (Some i) = i
free_slot None = 0

-- one of the first k is free
abbrev pub some_free : ℕ → List Call → Bool
some_free zero cs = false
some_free (suc k) [] = false
some_free (suc k) (c ∷ cs) = free_of c || some_free k cs

-- the first free one of k slots, counted from i
abbrev pub free_from : ℕ → ℕ → List Call → Option ℕ
free_from zero i cs = None
free_from (suc k) i [] = None
free_from (suc k) i (c ∷ cs) = pick (free_of c) (Some i) (free_from k (suc i) cs)

abbrev pub lowest_free : List Call → Option ℕ
lowest_free cs = free_from slots 0 cs

-- the number that goes with it: "it is refused exactly if none is free"
abbrev pub number_asked : List Call → ℕ
number_asked cs = pick (some_free slots cs) applied none_free

-- ---- Many events, each at its slot

-- 02 #107: "events name a slot"
pub record Named : Type 0 where
  pub slot : ℕ
  pub event : Event

-- the row after the events, first event first
abbrev pub run_row : List Call → List Named → List Call
run_row cs [] = cs
run_row cs (x ∷ xs) = run_row (row_after cs x.slot x.event) xs

-- the events that name the slot i
abbrev pub own_of : ℕ → List Named → List Event
own_of i [] = []
own_of i (x ∷ xs) = pick (eqb x.slot i) (x.event ∷ own_of i xs) (own_of i xs)

-- the steps at the slot i, by the calls that the row holds there and the answers that it gives: the slot's history
abbrev pub steps_at : ℕ → List Call → List Named → List Step
steps_at i cs [] = []
steps_at i cs (x ∷ xs) =
    pick (eqb x.slot i)
    (written (get_or cs i unopened_call) x.event (answer_at cs x.slot x.event) ∷ steps_at i (row_after cs x.slot x.event) xs)
    (steps_at i (row_after cs x.slot x.event) xs)

-- 02 #107: "The program's row has 64 slots", none of them opened yet
unfoldable pub empty_row : List Call
empty_row = replicate slots unopened_call
