-- PERFORM: a plan carried out, once.
-- Assumes nothing.
use Rattle.std.specs.Prelude.{Option, Some, None, ℕ, Bool, true, false, eqb, leb}
use Rattle.rows.specs.Numbers.{applied, too_much, no_part, calling_part, called_part, duration_part}
use Rattle.rows.specs.Read.{bit, flags_of}
use Rattle.rows.specs.Telephone.{absent}
use Rattle.meters.specs.Meters.{change_of}
use Rattle.meters.specs.declared.Meters.{Meters}
use Rattle.meters.specs.declared.Payer.{Payer}
use Rattle.meters.specs.declared.Payer.TheVariants.{Nobody, Caller, Called, Far}
use Rattle.rows.specs.declared.Act.{Act}
use Rattle.rows.specs.declared.Call.{Call}
use Rattle.rows.specs.declared.Component.{Component}
use Rattle.rows.specs.declared.Component.TheVariants.{Absent}
use Rattle.rows.specs.declared.Next.{Next}
use Rattle.rows.specs.declared.Next.TheVariants.{Stay, ToNull, ToSetup, ToWaitSetup, ToWaitAnswer, ToWaitAnswerTransfer}
use Rattle.rows.specs.declared.Next.TheVariants.{ToWaitSetupConf, ToWaitSetupConfTransfer, ToSetupWaitCalled, ToAnswered}
use Rattle.rows.specs.declared.Next.TheVariants.{ToWaitActive, ToWaitActiveConf, ToWaitActiveConfTransfer, ToWaitCalledRest}
use Rattle.rows.specs.declared.Next.TheVariants.{ToWaitCalledEntire, ToActive, ToCleared}
use Rattle.rows.specs.declared.Note.{Note}
use Rattle.rows.specs.declared.Number.{Number}
use Rattle.rows.specs.declared.Outcome.{Outcome}
use Rattle.rows.specs.declared.Phase.{Phase}
use Rattle.rows.specs.declared.Phase.TheVariants.{Null, Setup, Answered, Cleared}
use Rattle.rows.specs.declared.Plan.{Plan}
use Rattle.rows.specs.declared.Reading.{Reading}
use Rattle.rows.specs.declared.Register.{Register}
use Rattle.rows.specs.declared.Register.TheVariants.{AsHeld, FromOpening, CalledNumber, CallingNumber}
use Rattle.rows.specs.declared.RevState.{RevState}
use Rattle.rows.specs.declared.RevState.TheVariants.{Idle, WaitSetup, WaitActive, WaitAnswer, Active, WaitSetupConf, WaitActiveConf}
use Rattle.rows.specs.declared.RevState.TheVariants.{WaitCalled}
use Rattle.rows.specs.declared.Role.{Role}
use Rattle.rows.specs.declared.Role.TheVariants.{Originating, Destination}
use Rattle.rows.specs.declared.Side.{Side}
use Rattle.rows.specs.declared.Stand.{Stand}

-- ---- What the actions carry

abbrev pub if_there : Bool → Number → Number
if_there true n = n
if_there false n = absent

abbrev pub seconds_if : Bool → ℕ → ℕ
seconds_if true s = s
seconds_if false s = 0

-- only the own number is ever sent; the Duration is the caller's meter
abbrev pub note_of : ℕ → ℕ → Component → ℕ → Number → ℕ → Note
note_of e u x p own caller =
    record {
      error = e;
      cause = u;
      component = x;
      parts = p;
      calling = if_there (bit calling_part p) own;
      called = if_there (bit called_part p) own;
      duration = seconds_if (bit duration_part p) caller;
    }

-- a refusal has no actions, so nothing is carried
abbrev pub no_note : Note
no_note = record { error = 0; cause = 0; component = Absent 0; parts = no_part; calling = absent; called = absent; duration = 0 }

-- ---- The actions

-- "A change from a payer charged at this exchange gives STOP": the caller or the called user; far is charged at the other one
abbrev pub stopping_of : Payer → Payer → Act
stopping_of Nobody q = Act.Nothing
stopping_of Caller Nobody = Act.Stop
stopping_of Caller Caller = Act.Nothing
stopping_of Caller Called = Act.Stop
stopping_of Caller Far = Act.Stop
stopping_of Called Nobody = Act.Stop
stopping_of Called Caller = Act.Stop
stopping_of Called Called = Act.Nothing
stopping_of Called Far = Act.Stop
stopping_of Far q = Act.Nothing

abbrev pub is_stop : Act → Bool
is_stop Act.Nothing = false
is_stop Act.NotifyAccepted = false
is_stop Act.AccessSetup = false
is_stop Act.AccessAsk = false
is_stop Act.AccessError = false
is_stop Act.AccessRel = false
is_stop Act.ChargeCalling = false
is_stop Act.ChargeCalled = false
is_stop Act.Stop = true
is_stop Act.SendIam = false
is_stop Act.SendAnm = false
is_stop Act.SendRel = false
is_stop Act.SendFac = false

abbrev pub if_stop : Bool → Act → Act → Act
if_stop true s act = s
if_stop false s act = act

-- Stop as the change of payer makes it; any other action as it stands
abbrev pub given_as : Act → Act → Act
given_as act s = if_stop (is_stop act) s act

-- ---- Where the call stands next: phase, REV state; pending, transfer agreed and the rest of the call asked for

abbrev pub at : Phase → RevState → Bool → Bool → Stand
at p s a r = record { phase = p; rev = s; agreed = a; rest = r }

abbrev pub stand_of : Next → Stand → Stand
stand_of Stay now = now
stand_of ToNull now = at Null Idle false false
stand_of ToSetup now = at Setup Idle false false
stand_of ToWaitSetup now = at Setup WaitSetup false false
stand_of ToWaitAnswer now = at Setup WaitAnswer false false
stand_of ToWaitAnswerTransfer now = at Setup WaitAnswer true false
stand_of ToWaitSetupConf now = at Setup WaitSetupConf false false
stand_of ToWaitSetupConfTransfer now = at Setup WaitSetupConf true false
stand_of ToSetupWaitCalled now = at Setup WaitCalled false false
stand_of ToAnswered now = at Answered Idle false false
stand_of ToWaitActive now = at Answered WaitActive false false
stand_of ToWaitActiveConf now = at Answered WaitActiveConf false false
stand_of ToWaitActiveConfTransfer now = at Answered WaitActiveConf true false
stand_of ToWaitCalledRest now = at Answered WaitCalled false true
stand_of ToWaitCalledEntire now = at Answered WaitCalled false false
stand_of ToActive now = at Answered Active false false
stand_of ToCleared now = at Cleared Idle false false

-- ---- What is registered

abbrev pub role_by : Bool → Role
role_by true = Destination
role_by false = Originating

abbrev pub or_held : Bool → Number → Number → Number
or_held true n held = n
or_held false n held = held

abbrev pub opened_of : Reading → Side
opened_of r = record { role = role_by (eqb r.item 1); flags = flags_of r.flags; own = r.own; calling = absent; called = absent }

abbrev pub with_numbers : Side → Number → Number → Side
with_numbers s calling called = record { role = s.role; flags = s.flags; own = s.own; calling = calling; called = called }

-- a number that the event carries; where it carries none, what was held stays
abbrev pub side_of : Register → Side → Reading → Side
side_of AsHeld s r = s
side_of FromOpening s r = opened_of r
side_of CalledNumber s r = with_numbers s s.calling (or_held (leb 1 r.called.count) r.called s.called)
side_of CallingNumber s r = with_numbers s (or_held (leb 1 r.calling.count) r.calling s.calling) s.called

-- ---- The answer

-- a refusal: its number, beside 3 the bad field's ordinal, no actions and the call as it stood
abbrev pub refused_at : ℕ → ℕ → Call → Outcome
refused_at n k c =
    record {
      number = n;
      field = k;
      call = c;
      note = no_note;
      first = Act.Nothing;
      second = Act.Nothing;
      third = Act.Nothing;
      fourth = Act.Nothing;
    }

-- 02 #106: the ordinal is 0 "where the number is not 3"
abbrev pub refused_of : ℕ → Call → Outcome
refused_of n c = refused_at n 0 c

abbrev pub given_of : Plan → Call → Note → Act → Outcome
given_of p c m stop =
    record {
      number = applied;
      field = 0;
      call = c;
      note = m;
      first = given_as p.first stop;
      second = given_as p.second stop;
      third = given_as p.third stop;
      fourth = given_as p.fourth stop;
    }

-- the row applied, with the meters that follow; the Duration sent is the caller's meter as it stood before
abbrev pub follows_of : Call → Plan → Reading → Meters → Outcome
follows_of c p r after =
    given_of p
    (record { side = side_of p.register c.side r; stand = stand_of p.next c.stand; meters = after })
    (note_of p.error p.cause p.component p.parts c.side.own c.meters.caller)
    (stopping_of c.meters.payer after.payer)

-- 2 is the meters' own refusal
abbrev pub settled_of : Option Meters → Call → Plan → Reading → Outcome
settled_of (Some after) c p r = follows_of c p r after
settled_of None c p r = refused_of too_much c

abbrev pub does_of : Call → Plan → Reading → Outcome
does_of c p r = settled_of (change_of p.change c.meters r.seconds) c p r

abbrev pub applies_of : ℕ → Bool
applies_of n = eqb n applied

abbrev pub perform_if : Bool → Call → Plan → Reading → Outcome
perform_if true c p r = does_of c p r
perform_if false c p r = refused_of p.number c

abbrev pub perform_of : Call → Plan → Reading → Outcome
perform_of c p r = perform_if (applies_of p.number) c p r
