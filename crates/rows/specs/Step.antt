-- One step of a call: the answer to any event in any state.
-- Assumes nothing.
use Rattle.std.specs.Prelude.{ℕ, zero, suc, Option, Some, None, Bool, true, false, ◌&&◌, eqb, List, [], ◌∷◌}
use Rattle.rows.specs.Find.{row_for_of}
use Rattle.rows.specs.Numbers.{no_row, bad_field, not_a_call, before_opening, slot_in_use, iam, anm, rel, fac}
use Rattle.rows.specs.Perform.{at, refused_at, refused_of, perform_of}
use Rattle.rows.specs.Read.{flags_of, read_of, cue_of, terms_of}
use Rattle.rows.specs.Telephone.{absent}
use Rattle.rows.specs.Rows.{refuses, plan_of}
use Rattle.rows.specs.Valid.{valid_of, event_ok, bad_field_of}
use Rattle.rows.specs.Why.{is_row, why_of}
use Rattle.meters.specs.Meters.{new_of}
use Rattle.rows.specs.declared.Act.{Act}
use Rattle.rows.specs.declared.Call.{Call}
use Rattle.rows.specs.declared.Event.{Event}
use Rattle.rows.specs.declared.Event.TheVariants.{Opening, Ask, Received, FromAccess, Expiry, Time}
use Rattle.rows.specs.declared.Message.{Message}
use Rattle.rows.specs.declared.Note.{Note}
use Rattle.rows.specs.declared.Outcome.{Outcome}
use Rattle.rows.specs.declared.Phase.{Phase}
use Rattle.rows.specs.declared.Phase.TheVariants.{Unopened, Null, Setup, Answered, Cleared}
use Rattle.rows.specs.declared.Plan.{Plan}
use Rattle.rows.specs.declared.Reading.{Reading}
use Rattle.rows.specs.declared.RevState.TheVariants.{Idle}
use Rattle.rows.specs.declared.Role.TheVariants.{Originating}
use Rattle.rows.specs.declared.Row.{Row}
use Rattle.rows.specs.declared.Terms.{Terms}

-- a call before its opening
abbrev pub unopened_call : Call
unopened_call =
    record {
      side = record { role = Originating; flags = flags_of 0; own = absent; calling = absent; called = absent };
      stand = at Unopened Idle false false;
      meters = new_of;
    }

-- 02 #104: "Store the answered seconds in the call"
abbrev pub total_of : Call → ℕ
total_of c = c.meters.total

-- the plan of a row; not asked where there is none: why_of says why
abbrev pub planned : Option Row → Terms → Plan
planned (Some row) t = plan_of row t
planned None t = refuses no_row

-- plan the row by flags, parts and what is pending; perform it; where there is none, say why
abbrev pub if_row : Bool → Option Row → Call → Reading → Outcome
if_row true x c r = perform_of c (planned x (terms_of c.side.flags c.stand r)) r
if_row false x c r = refused_of (why_of c.side.role c.stand.phase (cue_of r)) c

abbrev pub taken_by : Option Row → Call → Reading → Outcome
taken_by x c r = if_row (is_row x) x c r

-- find the row by role, phase, REV state and event
abbrev pub takes_reading : Call → Reading → Outcome
takes_reading c r = taken_by (row_for_of c.side.role c.stand.phase c.stand.rev (cue_of r)) c r

abbrev pub takes_of : Call → Event → Outcome
takes_of c e = takes_reading c (read_of e)

-- a field out of its range: 3 and its ordinal, before any row is looked for
abbrev pub if_in_range : Bool → Call → Event → Outcome
if_in_range true c e = takes_of c e
if_in_range false c e = refused_at bad_field (bad_field_of e) c

-- 01, kind 1
abbrev pub is_opening : Event → Bool
is_opening (Opening r f n) = true
is_opening (Ask q n) = false
is_opening (Received m) = false
is_opening (FromAccess a n) = false
is_opening Expiry = false
is_opening (Time s) = false

-- By phase and whether the event is an opening: 02 #107, "An opening takes the slot it names if that was never opened or has cleared", else
-- 20; at a call that was never opened every other event is 17; 0 for what comes in its time
abbrev pub untimely_of : Phase → Bool → ℕ
untimely_of Unopened true = 0
untimely_of Unopened false = before_opening
untimely_of Null true = slot_in_use
untimely_of Null false = 0
untimely_of Setup true = slot_in_use
untimely_of Setup false = 0
untimely_of Answered true = slot_in_use
untimely_of Answered false = 0
untimely_of Cleared opening = 0

-- as it is answered: 0, which is none, is None
abbrev pub refusal : ℕ → Option ℕ
refusal zero = None
refusal (suc n) = Some (suc n)

-- 02 #106: "17 and 18 before 3", and #107: "20 in 18's place"; so whatever the event's fields
abbrev pub in_time : Bool → ℕ → Call → Event → Outcome
in_time true n c e = if_in_range (event_ok e) c e
in_time false n c e = refused_of n c

abbrev pub if_timely : Phase → Bool → Call → Event → Outcome
if_timely phase opening c e = in_time (eqb (untimely_of phase opening) 0) (untimely_of phase opening) c e

-- what is no call state: 9, before all else
abbrev pub if_call : Bool → Call → Event → Outcome
if_call true c e = if_timely c.stand.phase (is_opening e) c e
if_call false c e = refused_of not_a_call c

abbrev pub step_of : Call → Event → Outcome
step_of c e = if_call (valid_of c) c e

-- never opened, or cleared
abbrev pub may_open : Phase → Bool
may_open Unopened = true
may_open Null = false
may_open Setup = false
may_open Answered = false
may_open Cleared = true

-- a call whose slot an opening may take; 02 #107: "A slot whose call gives 9 isn't free"
abbrev pub free_of : Call → Bool
free_of c = valid_of c && may_open c.stand.phase

-- What goes out: something that this exchange does, with its number if it has one, or a message.
pub data Deed : Type 0 where
  does : Act → Deed
  tells : Act → ℕ → Deed
  sends : Message → Deed

abbrev pub message_of : ℕ → ℕ → Note → Message
message_of k u m =
    record {
      kind = k;
      cause = u;
      component = m.component;
      parts = m.parts;
      calling = m.calling;
      called = m.called;
      duration = m.duration;
    }

-- where an action is Nothing there is none; only REL has a cause
abbrev pub and_then : Note → Act → List Deed → List Deed
and_then m Act.Nothing rest = rest
and_then m Act.NotifyAccepted rest = does Act.NotifyAccepted ∷ rest
and_then m Act.AccessSetup rest = does Act.AccessSetup ∷ rest
and_then m Act.AccessAsk rest = does Act.AccessAsk ∷ rest
and_then m Act.AccessError rest = tells Act.AccessError m.error ∷ rest
and_then m Act.AccessRel rest = tells Act.AccessRel m.cause ∷ rest
and_then m Act.ChargeCalling rest = does Act.ChargeCalling ∷ rest
and_then m Act.ChargeCalled rest = does Act.ChargeCalled ∷ rest
and_then m Act.Stop rest = does Act.Stop ∷ rest
and_then m Act.SendIam rest = sends (message_of iam 0 m) ∷ rest
and_then m Act.SendAnm rest = sends (message_of anm 0 m) ∷ rest
and_then m Act.SendRel rest = sends (message_of rel m.cause m) ∷ rest
and_then m Act.SendFac rest = sends (message_of fac 0 m) ∷ rest

-- what an answer does, in order
abbrev pub deeds_of : Outcome → List Deed
deeds_of o = and_then o.note o.first (and_then o.note o.second (and_then o.note o.third (and_then o.note o.fourth [])))
