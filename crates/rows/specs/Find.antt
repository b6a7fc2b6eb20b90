-- FIND: the row for an event, by role, phase, REV state and what the event is. One table for each place that 01 allows. In a table,
-- the kinds of event; for a kind, one alternative a line, tried in this order, with the labels that its rows have in docs/ROWS.md
-- and their sentences. What each row does is in Rows.antt.
-- The kinds: Asks, a request of the own user; Iam, Answer (ANM or CON), Rel, Fac, a message of the other exchange; Tells, what the own
-- access says; Expires; Passes, time. What is tested (Read.antt): alone, no component; failure, a Return error; rejection, a Reject;
-- reversal, a request for case A, B or C; answers, an answer without REV. 3.5.2.n is each of 3.5.2.1 to 3.5.2.5.
-- Assumes nothing.
use Rattle.std.specs.Prelude.{Bool, true, false, Option, Some, None}
use Rattle.rows.specs.declared.Cue.{Cue}
use Rattle.rows.specs.declared.Kind.{Kind}
use Rattle.rows.specs.declared.Kind.TheVariants.{Opens, Asks, Iam, Answer, Rel, Fac, Tells, Expires, Passes}
use Rattle.rows.specs.declared.Phase.{Phase}
use Rattle.rows.specs.declared.Phase.TheVariants.{Unopened, Null, Setup, Answered, Cleared}
use Rattle.rows.specs.declared.RevState.{RevState}
use Rattle.rows.specs.declared.RevState.TheVariants.{Idle, WaitSetup, WaitActive, WaitAnswer, Active, WaitSetupConf, WaitActiveConf}
use Rattle.rows.specs.declared.RevState.TheVariants.{WaitCalled}
use Rattle.rows.specs.declared.Role.{Role}
use Rattle.rows.specs.declared.Role.TheVariants.{Originating, Destination}
use Rattle.rows.specs.declared.Row.{Row}
use Rattle.rows.specs.declared.Row.TheVariants.{Opened, TimeInSetup, TimeCounts, ClearedHere, Released, RunningHere}
use Rattle.rows.specs.declared.Row.TheVariants.{RunningThere, BasicRequest, AskSetup, BasicAnswer, UnconditionalAsked, SetupAccepted}
use Rattle.rows.specs.declared.Row.TheVariants.{SetupError, SetupReleased, SetupFailed, UnconditionalAnswered, AskActive}
use Rattle.rows.specs.declared.Row.TheVariants.{CalledAsked}
use Rattle.rows.specs.declared.Row.TheVariants.{ActiveAccepted, WaitError, WaitFailed, WaitReleased, PlainIam, SetupAsked}
use Rattle.rows.specs.declared.Row.TheVariants.{AnsweredHere, SetupConfirmed, SetupRefused, SetupRejected, SetupIgnored}
use Rattle.rows.specs.declared.Row.TheVariants.{SetupExpired, UnconditionalAccepted, UnconditionalFailed, UnconditionalConnected}
use Rattle.rows.specs.declared.Row.TheVariants.{ActiveAsked, AskPartial}
use Rattle.rows.specs.declared.Row.TheVariants.{AskEntire, ActiveConfirmed, ActiveRefused, ActiveRejected, ActiveIgnored}
use Rattle.rows.specs.declared.Row.TheVariants.{ActiveCleared, CalledAccepted}

abbrev pub when : Bool → Row → Option Row → Option Row
when true a b = Some a
when false a b = b

-- before the opening, and after the clearing: 02 #107, "An opening takes the slot it names if that was never opened or has cleared"
abbrev pub vacant_of : Kind → Cue → Option Row
vacant_of Opens e = Some Opened  -- G1  01, kind 1; 02 #107, "An opening takes the slot it names"
vacant_of Asks e = None
vacant_of Iam e = None
vacant_of Answer e = None
vacant_of Rel e = None
vacant_of Fac e = None
vacant_of Tells e = None
vacant_of Expires e = None
vacant_of Passes e = None

-- originating, NULL
abbrev pub originating_null_of : Kind → Cue → Option Row
originating_null_of Opens e = None
originating_null_of Asks e =
    when e.asked.basic BasicRequest  -- O1  01, "request 0 gives IAM"
    (when e.asked.casea AskSetup  -- O2 to O4  3.5.2.1.1.2, first sentence; 3.5.2.1.1.1 i, ii
    None)
originating_null_of Iam e = None
originating_null_of Answer e = None
originating_null_of Rel e = None
originating_null_of Fac e = None
originating_null_of Tells e = None
originating_null_of Expires e = None
originating_null_of Passes e = None

-- originating, SETUP, IDLE
abbrev pub originating_setup_idle_of : Kind → Cue → Option Row
originating_setup_idle_of Opens e = None
originating_setup_idle_of Asks e = None
originating_setup_idle_of Iam e = None
originating_setup_idle_of Answer e = when e.heard.alone BasicAnswer None  -- O5  01, "A basic answer"
originating_setup_idle_of Rel e = Some Released  -- G5  01, "a REL from the other exchange"
originating_setup_idle_of Fac e =
    when e.heard.invokecalled UnconditionalAsked  -- O6 to O8  3.5.2.5.1.2, first sentence; 3.5.2.5.1.1 i, ii
    None
originating_setup_idle_of Tells e = when e.told.clears ClearedHere None  -- G4  01, "own access clearing"
originating_setup_idle_of Expires e = None
originating_setup_idle_of Passes e = Some TimeInSetup  -- G2  01, "only ANSWERED counts"

-- originating, SETUP, WAIT-SETUP
abbrev pub wait_setup_of : Kind → Cue → Option Row
wait_setup_of Opens e = None
wait_setup_of Asks e = None
wait_setup_of Iam e = None
wait_setup_of Answer e =
    when e.heard.resultsetup SetupAccepted  -- O9, O10  3.5.2.1.1.1 a, b
    (when e.heard.alone SetupFailed  -- O14  3.5.2.1.1.2 iii
    None)
wait_setup_of Rel e =
    when e.heard.failure SetupError  -- O11, O12  3.5.2.1.1.2 i
    (when e.heard.rejection SetupReleased  -- O13  3.5.2.1.1.2 ii, with a Reject
    (when e.heard.alone SetupReleased  -- O13  3.5.2.1.1.2 ii, without a component
    (Some Released)))  -- G5  01, "a REL from the other exchange"
wait_setup_of Fac e = None
wait_setup_of Tells e = when e.told.clears ClearedHere None  -- G4  01, "own access clearing"
wait_setup_of Expires e = Some SetupFailed  -- O15  3.5.2.1.1.2 iv
wait_setup_of Passes e = Some TimeInSetup  -- G2  01, "only ANSWERED counts"

-- originating, SETUP, WAIT-ANSWER
abbrev pub originating_wait_answer_of : Kind → Cue → Option Row
originating_wait_answer_of Opens e = None
originating_wait_answer_of Asks e = None
originating_wait_answer_of Iam e = None
originating_wait_answer_of Answer e = when e.heard.alone UnconditionalAnswered None  -- O16, O17  3.5.2.5.1.1 i, ii
originating_wait_answer_of Rel e = Some Released  -- O18  3.5.2.5.1.2, second sentence
originating_wait_answer_of Fac e = None
originating_wait_answer_of Tells e = when e.told.clears ClearedHere None  -- O19  3.5.2.5.1.2, second sentence
originating_wait_answer_of Expires e = None
originating_wait_answer_of Passes e = Some TimeInSetup  -- G2  01, "only ANSWERED counts"

-- originating, ANSWERED, IDLE
abbrev pub originating_answered_idle_of : Kind → Cue → Option Row
originating_answered_idle_of Opens e = None
originating_answered_idle_of Asks e = when e.asked.caseb AskActive None  -- O20 to O22  3.5.2.2.1.2, first sentence; 3.5.2.2.1.1 i, ii
originating_answered_idle_of Iam e = None
originating_answered_idle_of Answer e = None
originating_answered_idle_of Rel e = Some Released  -- G5  01, "a REL from the other exchange"
originating_answered_idle_of Fac e =
    when e.heard.invokecalled CalledAsked  -- O23 to O27  3.5.2.3.1.2, 3.5.2.4.1.2, first sentence; 3.5.2.3.1.1, 3.5.2.4.1.1 i, ii
    None
originating_answered_idle_of Tells e = when e.told.clears ClearedHere None  -- G4  01, "own access clearing"
originating_answered_idle_of Expires e = None
originating_answered_idle_of Passes e = Some TimeCounts  -- G3  01, "one of them runs"

-- originating, ANSWERED, WAIT-ACTIVE
abbrev pub wait_active_of : Kind → Cue → Option Row
wait_active_of Opens e = None
wait_active_of Asks e = when e.asked.reversal RunningHere None  -- O35  3.5.2.2.1.2 last
wait_active_of Iam e = None
wait_active_of Answer e = None
wait_active_of Rel e = Some WaitReleased  -- O34  3.5.2.2.1.2, a Release Message
wait_active_of Fac e =
    when e.heard.invoke RunningThere  -- O36  3.5.2.2.1.2 last
    (when e.heard.resultactive ActiveAccepted  -- O28, O29  3.5.2.2.1.1 a, b
    (when e.heard.failure WaitError  -- O30, O31  3.5.2.2.1.2 i
    (when e.heard.rejection WaitFailed  -- O32  3.5.2.2.1.2 ii, with a Reject
    (when e.heard.alone WaitFailed  -- O32  3.5.2.2.1.2 ii, without a component
    None))))
wait_active_of Tells e = when e.told.clears ClearedHere None  -- G4  01, "own access clearing"
wait_active_of Expires e = Some WaitFailed  -- O33  3.5.2.2.1.2 iii
wait_active_of Passes e = Some TimeCounts  -- G3  01, "one of them runs"

-- both roles, ANSWERED, ACTIVE
abbrev pub active_of : Kind → Cue → Option Row
active_of Opens e = None
active_of Asks e = when e.asked.reversal RunningHere None  -- O37, D53  3.5.2.n.1.2, 3.5.2.n.5.2 last
active_of Iam e = None
active_of Answer e = None
active_of Rel e = Some Released  -- O40, D56  3.5.2.n.1.1, 3.5.2.n.5.1 last
active_of Fac e = when e.heard.invoke RunningThere None  -- O38, D54  3.5.2.n.1.2, 3.5.2.n.5.2 last
active_of Tells e = when e.told.clears ClearedHere None  -- O39, D55  3.5.2.n.1.1, 3.5.2.n.5.1 last
active_of Expires e = None
active_of Passes e = Some TimeCounts  -- G3  01, "one of them runs"

-- destination, NULL
abbrev pub destination_null_of : Kind → Cue → Option Row
destination_null_of Opens e = None
destination_null_of Asks e = None
destination_null_of Iam e =
    when e.heard.alone PlainIam  -- D1 to D4  01; 3.5.2.5.5.2, first sentence; 3.5.2.5.5.1 i, ii
    (when e.heard.invokesetup SetupAsked  -- D5 to D8  3.5.2.1.5.2, sentences 1 to 6; 3.5.2.1.5.1 i to iii
    None)
destination_null_of Answer e = None
destination_null_of Rel e = None
destination_null_of Fac e = None
destination_null_of Tells e = None
destination_null_of Expires e = None
destination_null_of Passes e = None

-- destination, SETUP, IDLE
abbrev pub destination_setup_idle_of : Kind → Cue → Option Row
destination_setup_idle_of Opens e = None
destination_setup_idle_of Asks e = None
destination_setup_idle_of Iam e = None
destination_setup_idle_of Answer e = None
destination_setup_idle_of Rel e = Some Released  -- G5  01, "a REL from the other exchange"
destination_setup_idle_of Fac e = None
destination_setup_idle_of Tells e =
    when e.told.answers AnsweredHere  -- D9  01, "answer without REV gives ANM"
    (when e.told.clears ClearedHere  -- G4  01, "own access clearing"
    None)
destination_setup_idle_of Expires e = None
destination_setup_idle_of Passes e = Some TimeInSetup  -- G2  01, "only ANSWERED counts"

-- destination, SETUP, WAIT-SETUP-CONF
abbrev pub wait_setup_conf_of : Kind → Cue → Option Row
wait_setup_conf_of Opens e = None
wait_setup_conf_of Asks e = None
wait_setup_conf_of Iam e = None
wait_setup_conf_of Answer e = None
wait_setup_conf_of Rel e = Some Released  -- G5  01, "a REL from the other exchange"
wait_setup_conf_of Fac e = None
wait_setup_conf_of Tells e =
    when e.told.accepts SetupConfirmed  -- D10, D11  3.5.2.1.5.1 a, b
    (when e.told.refuses SetupRefused  -- D12, D13  3.5.2.1.5.2 i
    (when e.told.rejects SetupRejected  -- D14  3.5.2.1.5.2 ii
    (when e.told.clears ClearedHere  -- D15  3.5.2.1.5.2 iii
    (when e.told.answers SetupIgnored  -- D16  3.5.2.1.5.2 iv
    None))))
wait_setup_conf_of Expires e = Some SetupExpired  -- D17  3.5.2.1.5.2 v
wait_setup_conf_of Passes e = Some TimeInSetup  -- G2  01, "only ANSWERED counts"

-- destination, SETUP, WAIT-CALLED
abbrev pub setup_wait_called_of : Kind → Cue → Option Row
setup_wait_called_of Opens e = None
setup_wait_called_of Asks e = when e.asked.reversal RunningHere None  -- D57  02 #101, "A, B or C from her"
setup_wait_called_of Iam e = None
setup_wait_called_of Answer e = None
setup_wait_called_of Rel e = Some Released  -- G5  01, "a REL from the other exchange"
setup_wait_called_of Fac e =
    when e.heard.invoke RunningThere  -- D58  02 #101, "any invoke in FAC"
    (when e.heard.resultcalled UnconditionalAccepted  -- D18, D19  3.5.2.5.5.1, "When the state is wait" a, b
    (when e.heard.failure UnconditionalFailed  -- D20  3.5.2.5.5.2 i, with a Return Error
    (when e.heard.rejection UnconditionalFailed  -- D20  3.5.2.5.5.2 i, with a Reject
    None)))
setup_wait_called_of Tells e = when e.told.clears ClearedHere None  -- G4  01, "own access clearing"
setup_wait_called_of Expires e = Some UnconditionalFailed  -- D21  3.5.2.5.5.2 ii
setup_wait_called_of Passes e = Some TimeInSetup  -- G2  01, "only ANSWERED counts"

-- destination, SETUP, WAIT-ANSWER
abbrev pub destination_wait_answer_of : Kind → Cue → Option Row
destination_wait_answer_of Opens e = None
destination_wait_answer_of Asks e = None
destination_wait_answer_of Iam e = None
destination_wait_answer_of Answer e = None
destination_wait_answer_of Rel e = Some Released  -- D24  3.5.2.5.5.2, "wait for basic call confirmation"
destination_wait_answer_of Fac e = None
destination_wait_answer_of Tells e =
    when e.told.answers UnconditionalConnected  -- D22, D23  3.5.2.5.5.1 a, b; 01, "in WAIT-ANSWER too"
    (when e.told.clears ClearedHere  -- D25  3.5.2.5.5.2, "wait for basic call confirmation"
    None)
destination_wait_answer_of Expires e = None
destination_wait_answer_of Passes e = Some TimeInSetup  -- G2  01, "only ANSWERED counts"

-- destination, ANSWERED, IDLE
abbrev pub destination_answered_idle_of : Kind → Cue → Option Row
destination_answered_idle_of Opens e = None
destination_answered_idle_of Asks e =
    when e.asked.caseb AskPartial  -- D30 to D33  3.5.2.3.5.2 i, ii; 3.5.2.3.5.1 i to iii
    (when e.asked.casec AskEntire  -- D30, D31, D34, D35  3.5.2.4.5.2 i, ii; 3.5.2.4.5.1 i to iii
    None)
destination_answered_idle_of Iam e = None
destination_answered_idle_of Answer e = None
destination_answered_idle_of Rel e = Some Released  -- G5  01, "a REL from the other exchange"
destination_answered_idle_of Fac e =
    when e.heard.invokeactive ActiveAsked  -- D26 to D29  3.5.2.2.5.2, first two sentences; 3.5.2.2.5.1 i to iii
    None
destination_answered_idle_of Tells e = when e.told.clears ClearedHere None  -- G4  01, "own access clearing"
destination_answered_idle_of Expires e = None
destination_answered_idle_of Passes e = Some TimeCounts  -- G3  01, "one of them runs"

-- destination, ANSWERED, WAIT-ACTIVE-CONF
abbrev pub wait_active_conf_of : Kind → Cue → Option Row
wait_active_conf_of Opens e = None
wait_active_conf_of Asks e = when e.asked.reversal RunningHere None  -- D43  3.5.2.2.5.2 last
wait_active_conf_of Iam e = None
wait_active_conf_of Answer e = None
wait_active_conf_of Rel e = Some Released  -- G5  01, "a REL from the other exchange"
wait_active_conf_of Fac e = when e.heard.invoke RunningThere None  -- D44  3.5.2.2.5.2 last
wait_active_conf_of Tells e =
    when e.told.accepts ActiveConfirmed  -- D36, D37  3.5.2.2.5.1 a, b
    (when e.told.refuses ActiveRefused  -- D38, D39  3.5.2.2.5.2 i
    (when e.told.rejects ActiveRejected  -- D40  3.5.2.2.5.2 ii
    (when e.told.clears ActiveCleared  -- D42  3.5.2.2.5.2, a call clearing message
    None)))
wait_active_conf_of Expires e = Some ActiveIgnored  -- D41  3.5.2.2.5.2 iii
wait_active_conf_of Passes e = Some TimeCounts  -- G3  01, "one of them runs"

-- destination, ANSWERED, WAIT-CALLED
abbrev pub answered_wait_called_of : Kind → Cue → Option Row
answered_wait_called_of Opens e = None
answered_wait_called_of Asks e = when e.asked.reversal RunningHere None  -- D59  02 #101, "A, B or C from her"
answered_wait_called_of Iam e = None
answered_wait_called_of Answer e = None
answered_wait_called_of Rel e = Some WaitReleased  -- D52  3.5.2.3.5.2, a Release Message, 3.5.2.4.5.2, a Release Message
answered_wait_called_of Fac e =
    when e.heard.invoke RunningThere  -- D60  02 #101, "any invoke in FAC"
    (when e.heard.resultcalled CalledAccepted  -- D45 to D47  3.5.2.3.5.1 a, b; 3.5.2.4.5.1 a, b
    (when e.heard.failure WaitError  -- D48, D49  3.5.2.3.5.2 a, 3.5.2.4.5.2 a
    (when e.heard.rejection WaitFailed  -- D50  3.5.2.3.5.2 b, 3.5.2.4.5.2 b
    None)))
answered_wait_called_of Tells e = when e.told.clears ClearedHere None  -- G4  01, "own access clearing"
answered_wait_called_of Expires e = Some WaitFailed  -- D51  3.5.2.3.5.2 c, 3.5.2.4.5.2 c
answered_wait_called_of Passes e = Some TimeCounts  -- G3  01, "one of them runs"

-- originating, SETUP
abbrev pub originating_setup_of : RevState → Cue → Option Row
originating_setup_of Idle e = originating_setup_idle_of e.kind e
originating_setup_of WaitSetup e = wait_setup_of e.kind e
originating_setup_of WaitActive e = None
originating_setup_of WaitAnswer e = originating_wait_answer_of e.kind e
originating_setup_of Active e = None
originating_setup_of WaitSetupConf e = None
originating_setup_of WaitActiveConf e = None
originating_setup_of WaitCalled e = None

-- originating, ANSWERED
abbrev pub originating_answered_of : RevState → Cue → Option Row
originating_answered_of Idle e = originating_answered_idle_of e.kind e
originating_answered_of WaitSetup e = None
originating_answered_of WaitActive e = wait_active_of e.kind e
originating_answered_of WaitAnswer e = None
originating_answered_of Active e = active_of e.kind e
originating_answered_of WaitSetupConf e = None
originating_answered_of WaitActiveConf e = None
originating_answered_of WaitCalled e = None

-- originating
abbrev pub originating_of : Phase → RevState → Cue → Option Row
originating_of Unopened s e = vacant_of e.kind e
originating_of Null s e = originating_null_of e.kind e
originating_of Setup s e = originating_setup_of s e
originating_of Answered s e = originating_answered_of s e
originating_of Cleared s e = vacant_of e.kind e

-- destination, SETUP
abbrev pub destination_setup_of : RevState → Cue → Option Row
destination_setup_of Idle e = destination_setup_idle_of e.kind e
destination_setup_of WaitSetup e = None
destination_setup_of WaitActive e = None
destination_setup_of WaitAnswer e = destination_wait_answer_of e.kind e
destination_setup_of Active e = None
destination_setup_of WaitSetupConf e = wait_setup_conf_of e.kind e
destination_setup_of WaitActiveConf e = None
destination_setup_of WaitCalled e = setup_wait_called_of e.kind e

-- destination, ANSWERED
abbrev pub destination_answered_of : RevState → Cue → Option Row
destination_answered_of Idle e = destination_answered_idle_of e.kind e
destination_answered_of WaitSetup e = None
destination_answered_of WaitActive e = None
destination_answered_of WaitAnswer e = None
destination_answered_of Active e = active_of e.kind e
destination_answered_of WaitSetupConf e = None
destination_answered_of WaitActiveConf e = wait_active_conf_of e.kind e
destination_answered_of WaitCalled e = answered_wait_called_of e.kind e

-- destination
abbrev pub destination_of : Phase → RevState → Cue → Option Row
destination_of Unopened s e = vacant_of e.kind e
destination_of Null s e = destination_null_of e.kind e
destination_of Setup s e = destination_setup_of s e
destination_of Answered s e = destination_answered_of s e
destination_of Cleared s e = vacant_of e.kind e

-- the row that a role has for an event in a phase and REV state
abbrev pub row_for_of : Role → Phase → RevState → Cue → Option Row
row_for_of Originating p s e = originating_of p s e
row_for_of Destination p s e = destination_of p s e
