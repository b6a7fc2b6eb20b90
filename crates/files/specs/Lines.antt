-- The lines of a listing. 01: "for each record its ordinal, number, phase, REV state, caller, called, far; then its actions,
-- each after `> `; last `END` and the count of records shown". "Lines end in one newline."
-- Assumes nothing.
use Rattle.std.specs.Prelude.{ℕ, Bool, true, false, List, [], ◌++◌}
use Rattle.meters.specs.declared.Meters.{Meters}
use Rattle.text.specs.Choose.{if_eq}
use Rattle.text.specs.Text.{ascii, decimal, numbered}
use Rattle.rows.specs.Numbers.{applied}
use Rattle.rows.specs.declared.Act.{Act}
use Rattle.rows.specs.declared.Call.{Call}
use Rattle.rows.specs.declared.Note.{Note}
use Rattle.rows.specs.declared.Outcome.{Outcome}
use Rattle.rows.specs.declared.Phase.{Phase}
use Rattle.rows.specs.declared.RevState.{RevState}
use Rattle.rows.specs.declared.Stand.{Stand}
use Rattle.files.specs.Messages.{sent_text, released_text}

-- 01: "Before the opening NONE and IDLE"
abbrev pub phase_text : Phase → List ℕ
phase_text Phase.Unopened = ascii " NONE"
phase_text Phase.Null = ascii " NULL"
phase_text Phase.Setup = ascii " SETUP"
phase_text Phase.Answered = ascii " ANSWERED"
phase_text Phase.Cleared = ascii " CLEARED"

abbrev pub rev_text : RevState → List ℕ
rev_text RevState.Idle = ascii " IDLE"
rev_text RevState.WaitSetup = ascii " WAIT-SETUP"
rev_text RevState.WaitActive = ascii " WAIT-ACTIVE"
rev_text RevState.WaitAnswer = ascii " WAIT-ANSWER"
rev_text RevState.Active = ascii " ACTIVE"
rev_text RevState.WaitSetupConf = ascii " WAIT-SETUP-CONF"
rev_text RevState.WaitActiveConf = ascii " WAIT-ACTIVE-CONF"
rev_text RevState.WaitCalled = ascii " WAIT-CALLED"

unfoldable pub stand_text : Stand → List ℕ
stand_text stand = phase_text stand.phase ++ rev_text stand.rev

unfoldable pub meters_text : Meters → List ℕ
meters_text m = numbered (ascii " ") m.caller ++ numbered (ascii " ") m.called ++ numbered (ascii " ") m.far

-- 02 #107: "The listing puts the slot after the ordinal"; where slots are not shown, nothing
abbrev pub slot_text : Bool → ℕ → List ℕ
slot_text true slot = numbered (ascii " ") slot
slot_text false slot = []

-- "its ordinal, number, phase, REV state, caller, called, far"
unfoldable pub line_text : ℕ → Bool → ℕ → ℕ → Call → List ℕ
line_text ordinal shown slot number call =
    decimal ordinal ++ slot_text shown slot ++ numbered (ascii " ") number ++ stand_text call.stand ++ meters_text call.meters ++ ascii "\n"

unfoldable pub numbered_line : List ℕ → ℕ → List ℕ
numbered_line word n = numbered word n ++ ascii "\n"

-- "An action is one of ..; or a message"; Nothing is none
abbrev pub action_text : Note → Act → List ℕ
action_text m Act.Nothing = []
action_text m Act.NotifyAccepted = ascii "> NOTIFY ACCEPTED\n"
action_text m Act.AccessSetup = ascii "> ACCESS SETUP\n"
action_text m Act.AccessAsk = ascii "> ACCESS ASK\n"
action_text m Act.AccessError = numbered_line (ascii "> ACCESS ERROR ") m.error
action_text m Act.AccessRel = numbered_line (ascii "> ACCESS REL ") m.cause
action_text m Act.ChargeCalling = ascii "> CHARGE CALLING\n"
action_text m Act.ChargeCalled = ascii "> CHARGE CALLED\n"
action_text m Act.Stop = ascii "> STOP\n"
action_text m Act.SendIam = sent_text (ascii "> IAM") m
action_text m Act.SendAnm = sent_text (ascii "> ANM") m
action_text m Act.SendRel = released_text m
action_text m Act.SendFac = sent_text (ascii "> FAC") m

unfoldable pub actions_text : Outcome → List ℕ
actions_text o =
    action_text o.note o.first
    ++ action_text o.note o.second
    ++ action_text o.note o.third
    ++ action_text o.note o.fourth

-- a record's line and, where a row was applied, its actions
unfoldable pub record_text : ℕ → Bool → ℕ → Outcome → List ℕ
record_text ordinal shown slot o = line_text ordinal shown slot o.number o.call ++ if_eq o.number applied (actions_text o) []

-- no record's text is longer
abbrev pub longest_record : ℕ
longest_record = 2576
