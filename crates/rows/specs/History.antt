-- The history that the rows write: the call after a list of events, and the steps on the way.
-- Assumes nothing.
use Rattle.std.specs.Prelude.{List, [], ◌∷◌, ℕ}
use Rattle.rows.specs.Bill.{Step}
use Rattle.rows.specs.Step.{unopened_call, step_of}
use Rattle.rows.specs.declared.Call.{Call}
use Rattle.rows.specs.declared.Event.{Event}
use Rattle.rows.specs.declared.Event.TheVariants.{Opening}
use Rattle.rows.specs.declared.Number.{Number}
use Rattle.rows.specs.declared.Outcome.{Outcome}

-- the call after the events, first event first
abbrev pub run : Call → List Event → Call
run c [] = c
run c (e ∷ es) = run (step_of c e).call es

-- the step from a call by an event to an answer
abbrev pub written : Call → Event → Outcome → Step
written c e a =
    record {
      event = e;
      number = a.number;
      phase = c.stand.phase;
      rev = c.stand.rev;
      phase_after = a.call.stand.phase;
      rev_after = a.call.stand.rev;
    }

abbrev pub history : Call → List Event → List Step
history c [] = []
history c (e ∷ es) = written c e (step_of c e) ∷ history (step_of c e).call es

-- the answer to the opening of an originating call, role 0, with these flags and this own number
abbrev pub opening : ℕ → Number → Outcome
opening f own = step_of unopened_call (Opening 0 f own)
