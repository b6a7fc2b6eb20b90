-- The bill of some histories, as theorems that compute: 01's "Calls to try", and what demand 3 tells apart.
-- Assumes nothing.
use Rattle.std.specs.Prelude.{ℕ, List, [], ◌∷◌, ◌≡◌, refl}
use Rattle.meters.specs.declared.Payer.{Payer}
use Rattle.meters.specs.declared.Payer.TheVariants.{Caller, Called, Far}
use Rattle.rows.specs.Bill.{Paid, bill, Step, Line, unopened, originating, destination, strange, line}
use Rattle.rows.specs.Telephone.{absent}
use Rattle.rows.specs.History.{run, history, opening}
use Rattle.rows.specs.Promises.{opening_there}
use Rattle.rows.specs.Step.{unopened_call}
use Rattle.rows.specs.declared.Component.{Component}
use Rattle.rows.specs.declared.Component.TheVariants.{Absent, Invoke, Result}
use Rattle.rows.specs.declared.Event.{Event}
use Rattle.rows.specs.declared.Event.TheVariants.{Opening, Ask, Received, FromAccess, Expiry, Time}
use Rattle.rows.specs.declared.Nature.TheVariants.{International}
use Rattle.rows.specs.declared.Number.{Number}
use Rattle.rows.specs.declared.Phase.{Phase}
use Rattle.rows.specs.declared.Phase.TheVariants.{Setup, Answered}
use Rattle.rows.specs.declared.RevState.{RevState}
use Rattle.rows.specs.declared.RevState.TheVariants.{Idle, WaitAnswer, Active}

-- abroad: the bill does not look at it
abbrev room : Number
room = record { nature = International; count = 7; value = 5550123 }

-- a message: IAM 1, ANM 2, CON 3, REL 4, FAC 5; its component; its parts; the called number
abbrev message : ℕ → Component → ℕ → Number → Event
message k x p called =
    Received (record { kind = k; cause = 0; component = x; parts = p; calling = absent; called = called; duration = 0 })

abbrev answer : Event
answer = message 2 (Absent 0) 0 absent

abbrev paid : ℕ → Payer → Paid
paid n p = record { seconds = n; by = p }

-- the bill of an originating call with these flags, and the events after its opening
abbrev bill_of : ℕ → List Event → List Paid
bill_of f es = bill f (history (opening f room).call es)

-- no reversal; the time before the answer, a time out of range and the time after clearing do not count
basic : bill_of 8 (Ask 0 room ∷ Time 5 ∷ answer ∷ Time 40 ∷ Time 86401 ∷ Time 0 ∷ FromAccess 4 0 ∷ Time 7 ∷ [])
    ≡ paid 40 Caller ∷ paid 0 Caller ∷ []
basic = refl

-- A: L
case_l : bill_of 8 (Ask 1 room ∷ Time 8 ∷ message 2 (Result 1) 0 absent ∷ Time 60 ∷ Ask 2 absent ∷ FromAccess 4 0 ∷ [])
    ≡ paid 60 Called ∷ []
case_l = refl

-- A with transfer; claimed where none was asked; parts 2 and 4 are needed
a_transfer : bill_of 9 (Ask 1 room ∷ message 3 (Result 1) 6 absent ∷ Time 60 ∷ []) ≡ paid 60 Far ∷ []
a_transfer = refl

a_claimed : bill_of 8 (Ask 1 room ∷ message 3 (Result 1) 6 absent ∷ Time 60 ∷ []) ≡ paid 60 Called ∷ []
a_claimed = refl

a_not_agreed : bill_of 9 (Ask 1 room ∷ message 3 (Result 1) 2 absent ∷ Time 60 ∷ []) ≡ paid 60 Called ∷ []
a_not_agreed = refl

-- B asked for by the caller: rejected first, then accepted
b_by_caller : bill_of 9
    (Ask 0 room ∷ answer ∷ Time 40 ∷ Ask 2 absent ∷ Time 3 ∷ Expiry ∷ Time 2 ∷ Ask 2 absent ∷ message 5 (Result 2) 6 absent ∷ Time 20 ∷ [])
    ≡ paid 40 Caller ∷ paid 3 Caller ∷ paid 2 Caller ∷ paid 20 Far ∷ []
b_by_caller = refl

-- B asked for by the called user; C without transfer; C with transfer
rest_of_call : bill_of 8 (Ask 0 room ∷ answer ∷ Time 40 ∷ message 5 (Invoke 3) 40 room ∷ Time 20 ∷ []) ≡ paid 40 Caller ∷ paid 20 Called ∷ []
rest_of_call = refl

entire_call : bill_of 8 (Ask 0 room ∷ answer ∷ Time 40 ∷ message 5 (Invoke 3) 32 room ∷ Time 20 ∷ []) ≡ paid 40 Called ∷ paid 20 Called ∷ []
entire_call = refl

entire_call_transferred : bill_of 9 (Ask 0 room ∷ answer ∷ Time 40 ∷ message 5 (Invoke 3) 1 absent ∷ Time 20 ∷ [])
    ≡ paid 40 Far ∷ paid 20 Far ∷ []
entire_call_transferred = refl

-- D: asked for before the answer, with transfer, without
d_transfer : bill_of 9 (Ask 0 room ∷ message 5 (Invoke 3) 1 absent ∷ Time 4 ∷ answer ∷ Time 20 ∷ []) ≡ paid 20 Far ∷ []
d_transfer = refl

d_plain : bill_of 9 (Ask 0 room ∷ message 5 (Invoke 3) 32 room ∷ Time 4 ∷ answer ∷ Time 20 ∷ []) ≡ paid 20 Called ∷ []
d_plain = refl

-- interaction not allowed: no reversal
not_allowed : bill_of 1 (Ask 0 room ∷ message 5 (Invoke 3) 1 absent ∷ answer ∷ Time 20 ∷ message 5 (Invoke 3) 1 absent ∷ Time 10 ∷ [])
    ≡ paid 20 Caller ∷ paid 10 Caller ∷ []
not_allowed = refl

-- ---- From the latest accepted opening, 02 #107

-- the bill of a history from before any opening
abbrev bill_from : Line → List Paid
bill_from unopened = []
bill_from (originating f h) = bill f h
bill_from (destination f h) = []
bill_from strange = []

abbrev bill_after : List Event → List Paid
bill_after es = bill_from (line (history unopened_call es))

-- a call of 40 s that was reversed with transfer and cleared; another of 7 s after it, under other flags: its bill is its own, and an opening
-- that was refused, in use or out of range, begins nothing
abbrev two_calls : List Event
two_calls =
    Opening 0 9 room ∷ Ask 1 room ∷ message 2 (Result 1) 6 absent ∷ Time 40 ∷ FromAccess 4 0
    ∷ Opening 0 8 room ∷ Ask 0 room ∷ answer ∷ Opening 0 9 room ∷ Time 7 ∷ FromAccess 4 0 ∷ Opening 0 32 room ∷ []

opened_again : (bill_after two_calls ≡ paid 7 Caller ∷ []) × ((run unopened_call two_calls).meters.caller ≡ 7)
    × ((run unopened_call two_calls).meters.far ≡ 0)
opened_again = (refl, refl, refl)

-- until the second is opened the first one's bill stands
first_of_two : bill_after (Opening 0 9 room ∷ Ask 1 room ∷ message 2 (Result 1) 6 absent ∷ Time 40 ∷ FromAccess 4 0 ∷ Time 5 ∷ [])
    ≡ paid 40 Far ∷ []
first_of_two = refl

-- a slot that was an originating call's and is a destination's now: its flags, and the steps since; and the other way round, with every flag
there_after_here : line (history unopened_call (Opening 0 9 room ∷ Ask 0 room ∷ FromAccess 4 0 ∷ Opening 1 31 room ∷ Time 5 ∷ []))
    ≡ destination 31 (history (opening_there 31 room).call (Time 5 ∷ []))
there_after_here = refl

here_after_there : line (history unopened_call
    (Opening 1 9 room ∷ message 1 (Absent 0) 0 absent ∷ FromAccess 4 0 ∷ Opening 0 31 room ∷ Time 5 ∷ []))
    ≡ originating 31 (history (opening 31 room).call (Time 5 ∷ []))
here_after_there = refl

-- ---- Histories that these rows do not write: the bill names the payer from the steps alone

-- an accepted step, with phase and REV state before and after
abbrev step : Event → Phase → RevState → Phase → RevState → Step
step e p r q s = record { event = e; number = 0; phase = p; rev = r; phase_after = q; rev_after = s }

-- case D that takes effect at its request, without an answer, is no reversal
at_the_request : bill 8
    (step (message 5 (Invoke 3) 32 room) Setup Idle Answered Active
    ∷ step (Time 20) Answered Active Answered Active ∷ [])
    ≡ paid 20 Caller ∷ []
at_the_request = refl

-- nor is one that was given up before the answer
given_up : bill 8
    (step (message 5 (Invoke 3) 32 room) Setup Idle Setup WaitAnswer
    ∷ step Expiry Setup WaitAnswer Setup Idle
    ∷ step Expiry Setup Idle Setup WaitAnswer
    ∷ step answer Setup WaitAnswer Answered Active
    ∷ step (Time 20) Answered Active Answered Active ∷ [])
    ≡ paid 20 Caller ∷ []
given_up = refl
