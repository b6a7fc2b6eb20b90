-- PLAN: what each row does. One alternative for each row of the papers, or for those that do the same, with their labels in
-- docs/ROWS.md and their sentences (3.5.2.n: for each n from 1 to 5). A plan says, in this order: where the call stands next, what
-- happens to the meters, what is registered, the actions in their order, the message's component and parts, the error and the cause
-- that they carry. Stop is given only if a payer charged at this exchange changes. What a row registers where its own sentence does
-- not say so (O1, O4, D19, D46) is decision 15 of docs/DECISIONS.md.
-- A row that chooses takes what it looks at in one order everywhere: what was judged, how much of the call, transfer or not, and
-- last which needed parts are there.
-- Where next (Perform.antt, stand_of): ToSetup, ToAnswered, ToCleared are SETUP, ANSWERED and CLEARED with REV IDLE; ToActive is ANSWERED
-- and ACTIVE; ToWait.. is that wait; Stay is as it was.
-- Who pays from then on: CallerPays and CalledPays are charged at this exchange, FarPays at the other one (for the originating exchange
-- that is transfer mode, for the destination no transfer); EntireTo.. moves the caller's seconds there too; Keep is as before. Begin: the
-- meters and the total are 0, and nobody pays.
-- Transfer or not (Read.antt, terms_of): mode, this exchange supports it; taken, an invoke requests it and this exchange supports it;
-- accepted, this exchange requested it and the result accepts it; agreed, what was settled when the wait began.
-- A message's parts: transfer_part, Transfer Requested; agreed_parts, Transfer Accepted; partial_part, Partial Call Only; calling_part and
-- called_part, the own number as Calling or Called User Number; duration_part, the caller's meter.
-- Assumes nothing.
use Rattle.std.specs.Prelude.{ℕ, ◌+◌, Bool, true, false, ◌&&◌}
use Rattle.rows.specs.Numbers.{applied, part_absent, calling_req_setup, calling_req_active, called_request, user_not_subscribed}
use Rattle.rows.specs.Numbers.{not_available, interaction_not_allowed, basic_service_not_provided, user_ignored, already_running}
use Rattle.rows.specs.Numbers.{normal_clearing, facility_rejected, timer_expiry, no_part, transfer_part, agreed_parts, partial_part}
use Rattle.rows.specs.Numbers.{calling_part, called_part, duration_part}
use Rattle.meters.specs.declared.Change.{Change}
use Rattle.meters.specs.declared.Change.TheVariants.{Keep, Begin, CallerPays, CalledPays, FarPays, NobodyPays, EntireToCalled}
use Rattle.meters.specs.declared.Change.TheVariants.{EntireToFar, TimePasses, DurationReceived}
use Rattle.rows.specs.declared.Act.{Act}
use Rattle.rows.specs.declared.Act.TheVariants.{Nothing, NotifyAccepted, AccessSetup, AccessAsk, AccessError, AccessRel}
use Rattle.rows.specs.declared.Act.TheVariants.{ChargeCalling, ChargeCalled, Stop, SendIam, SendAnm, SendRel, SendFac}
use Rattle.rows.specs.declared.Component.{Component}
use Rattle.rows.specs.declared.Component.TheVariants.{Absent, Invoke, Result, Error}
use Rattle.rows.specs.declared.Correctness.{Correctness}
use Rattle.rows.specs.declared.Correctness.TheVariants.{Correct, Incorrect}
use Rattle.rows.specs.declared.Extent.{Extent}
use Rattle.rows.specs.declared.Extent.TheVariants.{Rest, Entire}
use Rattle.rows.specs.declared.Interaction.{Interaction}
use Rattle.rows.specs.declared.Interaction.TheVariants.{Allowed, NotAllowed}
use Rattle.rows.specs.declared.Judged.{Judged}
use Rattle.rows.specs.declared.Judged.TheVariants.{Passed, NotSubscribed, InteractionNotAllowed}
use Rattle.rows.specs.declared.Mode.{Mode}
use Rattle.rows.specs.declared.Mode.TheVariants.{NoTransfer, Transfer}
use Rattle.rows.specs.declared.Next.{Next}
use Rattle.rows.specs.declared.Next.TheVariants.{Stay, ToNull, ToSetup, ToWaitSetup, ToWaitAnswer, ToWaitAnswerTransfer}
use Rattle.rows.specs.declared.Next.TheVariants.{ToWaitSetupConf, ToWaitSetupConfTransfer, ToSetupWaitCalled, ToAnswered}
use Rattle.rows.specs.declared.Next.TheVariants.{ToWaitActive, ToWaitActiveConf, ToWaitActiveConfTransfer, ToWaitCalledRest}
use Rattle.rows.specs.declared.Next.TheVariants.{ToWaitCalledEntire, ToActive, ToCleared}
use Rattle.rows.specs.declared.Plan.{Plan}
use Rattle.rows.specs.declared.Register.{Register}
use Rattle.rows.specs.declared.Register.TheVariants.{AsHeld, FromOpening, CalledNumber, CallingNumber}
use Rattle.rows.specs.declared.Row.{Row}
use Rattle.rows.specs.declared.Row.TheVariants.{Opened, TimeInSetup, TimeCounts, ClearedHere, Released, RunningHere}
use Rattle.rows.specs.declared.Row.TheVariants.{RunningThere, BasicRequest, AskSetup, BasicAnswer, UnconditionalAsked, SetupAccepted}
use Rattle.rows.specs.declared.Row.TheVariants.{SetupError, SetupReleased, SetupFailed, UnconditionalAnswered, AskActive}
use Rattle.rows.specs.declared.Row.TheVariants.{CalledAsked, ActiveAccepted, WaitError, WaitFailed, WaitReleased, PlainIam}
use Rattle.rows.specs.declared.Row.TheVariants.{SetupAsked, AnsweredHere, SetupConfirmed, SetupRefused, SetupRejected, SetupIgnored}
use Rattle.rows.specs.declared.Row.TheVariants.{SetupExpired, UnconditionalAccepted, UnconditionalFailed, UnconditionalConnected}
use Rattle.rows.specs.declared.Row.TheVariants.{ActiveAsked, AskPartial, AskEntire, ActiveConfirmed, ActiveRefused, ActiveRejected}
use Rattle.rows.specs.declared.Row.TheVariants.{ActiveIgnored, ActiveCleared, CalledAccepted}
use Rattle.rows.specs.declared.Service.{Service}
use Rattle.rows.specs.declared.Service.TheVariants.{OnRequest, Unconditional}
use Rattle.rows.specs.declared.Terms.{Terms}

-- ---- The shapes of a plan

-- all that a plan says
abbrev pub row : ℕ → Next → Change → Register → Act → Act → Act → Act → Component → ℕ → ℕ → ℕ → Plan
row number next change register first second third fourth component parts error cause =
    record {
      number = number;
      next = next;
      change = change;
      register = register;
      first = first;
      second = second;
      third = third;
      fourth = fourth;
      component = component;
      parts = parts;
      error = error;
      cause = cause;
    }

-- no row (Step.antt), or a needed part that is absent
abbrev pub refuses : ℕ → Plan
refuses number = row number Stay Keep AsHeld Nothing Nothing Nothing Nothing (Absent 0) no_part 0 0

-- 01, number 4: "the row needs a part that is absent"
abbrev pub needs : Bool → Plan → Plan
needs true plan = plan
needs false plan = refuses part_absent

-- actions of this exchange alone
abbrev pub acts : Next → Change → Register → Act → Act → Act → Plan
acts next change register first second third = row applied next change register first second third Nothing (Absent 0) no_part 0 0

abbrev pub quiet : Next → Change → Register → Plan
quiet next change register = acts next change register Nothing Nothing Nothing

-- one message
abbrev pub sends : Next → Change → Register → Act → Component → ℕ → Plan
sends next change register message component parts = row applied next change register message Nothing Nothing Nothing component parts 0 0

-- an error, to the own access or to the other exchange; the call goes on
abbrev pub access_error : Next → ℕ → Plan
access_error next error = row applied next Keep AsHeld AccessError Nothing Nothing Nothing (Absent 0) no_part error 0

abbrev pub far_error : Next → ℕ → Plan
far_error next error = sends next Keep AsHeld SendFac (Error error) no_part

-- the reversal takes effect, with a message among the actions
abbrev pub turns : Change → Register → Act → Act → Act → Act → Component → ℕ → Plan
turns change register first second third fourth component parts =
    row applied ToActive change register first second third fourth component parts 0 0

-- the call clears
abbrev pub clears : Act → Act → Act → Component → ℕ → ℕ → Plan
clears first second third component error cause =
    row applied ToCleared NobodyPays AsHeld first second third Nothing component no_part error cause

-- STOP, then a release
abbrev pub stops : Act → Component → ℕ → Plan
stops release component cause = clears Stop release Nothing component 0 cause

-- an error and its cause to the own access, and what comes last
abbrev pub access_release : Act → ℕ → ℕ → Plan
access_release last error cause = clears AccessError AccessRel last (Absent 0) error cause

-- a release with an error to the other exchange
abbrev pub far_release : ℕ → ℕ → Plan
far_release error cause = clears SendRel Nothing Nothing (Error error) 0 cause

-- ---- Originating exchange

abbrev pub basic_request : Plan
basic_request =  -- O1  01, "request 0 gives IAM"
    sends ToSetup Keep CalledNumber SendIam (Absent 0) no_part

-- case A asked for
abbrev pub ask_setup : Interaction → Mode → Plan
ask_setup NotAllowed mode =  -- O2  3.5.2.1.1.2, first sentence
    access_release Nothing interaction_not_allowed facility_rejected
ask_setup Allowed NoTransfer =  -- O3  3.5.2.1.1.1 i
    sends ToWaitSetup Keep CalledNumber SendIam (Invoke calling_req_setup) no_part
ask_setup Allowed Transfer =  -- O4  3.5.2.1.1.1 ii
    sends ToWaitSetup Keep CalledNumber SendIam (Invoke calling_req_setup) (transfer_part + calling_part)

abbrev pub basic_answer : Plan
basic_answer =  -- O5  01, "A basic answer at the originating exchange gives CHARGE CALLING"
    acts ToAnswered CallerPays AsHeld ChargeCalling Nothing Nothing

-- case D asked for by the called user. called: the called number is there, or transfer requested in its place
abbrev pub unconditional_asked : Interaction → Mode → Bool → Plan
unconditional_asked NotAllowed mode called =  -- O6  3.5.2.5.1.2, first sentence
    far_error Stay interaction_not_allowed
unconditional_asked Allowed NoTransfer called =  -- O7  3.5.2.5.1.1 i; 01, "the called number with an invoke CALLED"
    needs called (sends ToWaitAnswer Keep CalledNumber SendFac (Result called_request) no_part)
unconditional_asked Allowed Transfer called =  -- O8  3.5.2.5.1.1 ii
    sends ToWaitAnswerTransfer Keep AsHeld SendFac (Result called_request) (agreed_parts + calling_part)

-- cases A and D take effect with the answer: nobody was charged before
abbrev pub accepted_at_answer : Mode → Plan
accepted_at_answer NoTransfer =  -- O9  3.5.2.1.1.1 a; O16  3.5.2.5.1.1 i
    acts ToActive CalledPays AsHeld NotifyAccepted ChargeCalled Nothing
accepted_at_answer Transfer =  -- O10  3.5.2.1.1.1 b; O17  3.5.2.5.1.1 ii
    acts ToActive FarPays AsHeld NotifyAccepted Nothing Nothing

-- "if this return error value is correct for REV, the same return error value and cause value are sent .., if .. not correct for
-- REV, .. "Not Available" and .. "29: facility rejected""
abbrev pub setup_error : Correctness → ℕ → ℕ → Plan
setup_error Correct error cause =  -- O11  3.5.2.1.1.2 i
    access_release Nothing error cause
setup_error Incorrect error cause =  -- O12  3.5.2.1.1.2 i
    access_release Nothing not_available facility_rejected

-- case B asked for
abbrev pub ask_active : Interaction → Mode → Plan
ask_active NotAllowed mode =  -- O20  3.5.2.2.1.2, first sentence
    access_error Stay interaction_not_allowed
ask_active Allowed NoTransfer =  -- O21  3.5.2.2.1.1 i
    sends ToWaitActive Keep AsHeld SendFac (Invoke calling_req_active) no_part
ask_active Allowed Transfer =  -- O22  3.5.2.2.1.1 ii
    sends ToWaitActive Keep AsHeld SendFac (Invoke calling_req_active) (transfer_part + calling_part)

-- case B or C asked for by the called user. called: the called number is there, or transfer requested in its place. The Duration is
-- the caller's meter before it is emptied
abbrev pub called_asked : Interaction → Extent → Mode → Bool → Plan
called_asked NotAllowed extent mode called =  -- O23  3.5.2.3.1.2, first sentence, 3.5.2.4.1.2, first sentence
    far_error Stay interaction_not_allowed
called_asked Allowed Rest NoTransfer called =  -- O24  3.5.2.3.1.1 i; 01, "the called number with an invoke CALLED"
    needs called (turns CalledPays CalledNumber SendFac NotifyAccepted Stop ChargeCalled (Result called_request) no_part)
called_asked Allowed Rest Transfer called =  -- O25  3.5.2.3.1.1 ii
    turns FarPays AsHeld SendFac NotifyAccepted Stop Nothing (Result called_request) (agreed_parts + calling_part)
called_asked Allowed Entire NoTransfer called =  -- O26  3.5.2.4.1.1 i; 01, "Case C moves"; 01, "the called number with an invoke CALLED"
    needs called (turns EntireToCalled CalledNumber SendFac NotifyAccepted Stop ChargeCalled (Result called_request) no_part)
called_asked Allowed Entire Transfer called =  -- O27  3.5.2.4.1.1 ii; 01, "Case C moves"
    turns EntireToFar AsHeld SendFac NotifyAccepted Stop Nothing (Result called_request) (agreed_parts + calling_part + duration_part)

-- case B takes effect in the answered call: the caller was charged before
abbrev pub accepted_in_call : Mode → Plan
accepted_in_call NoTransfer =  -- O28  3.5.2.2.1.1 a
    acts ToActive CalledPays AsHeld NotifyAccepted Stop ChargeCalled
accepted_in_call Transfer =  -- O29  3.5.2.2.1.1 b
    acts ToActive FarPays AsHeld NotifyAccepted Stop Nothing

-- the call goes on without REV, with the same error or Not Available
abbrev pub wait_error : Correctness → ℕ → Plan
wait_error Correct error =  -- O30  3.5.2.2.1.2 i; D48  3.5.2.3.5.2 a, 3.5.2.4.5.2 a
    access_error ToAnswered error
wait_error Incorrect error =  -- O31  3.5.2.2.1.2 i; D49  3.5.2.3.5.2 a, 3.5.2.4.5.2 a
    access_error ToAnswered not_available

-- ---- Destination exchange

abbrev pub unconditional_failed : Plan
unconditional_failed =  -- D2  3.5.2.5.5.2, first sentence; D20, D21  3.5.2.5.5.2 i, ii
    clears SendRel Nothing Nothing (Absent 0) 0 facility_rejected

-- an IAM with no component: a basic call, or case D
abbrev pub plain_iam : Service → Interaction → Mode → Plan
plain_iam OnRequest interaction mode =  -- D1  01, "an IAM gives ACCESS SETUP"
    acts ToSetup Keep AsHeld AccessSetup Nothing Nothing
plain_iam Unconditional NotAllowed mode =  -- D2  3.5.2.5.5.2, first sentence
    unconditional_failed
plain_iam Unconditional Allowed NoTransfer =  -- D3  3.5.2.5.5.1 i
    sends ToSetupWaitCalled Keep AsHeld SendFac (Invoke called_request) called_part
plain_iam Unconditional Allowed Transfer =  -- D4  3.5.2.5.5.1 ii
    sends ToSetupWaitCalled Keep AsHeld SendFac (Invoke called_request) transfer_part

-- case A asked for by the caller. Judged: the check of 3.5.2.1.5.1 i, then interaction. calling: the calling number is there
abbrev pub setup_asked : Judged → Mode → Bool → Plan
setup_asked NotSubscribed mode calling =  -- D5  3.5.2.1.5.2, sentences 1 to 3
    far_release user_not_subscribed facility_rejected
setup_asked InteractionNotAllowed mode calling =  -- D6  3.5.2.1.5.2, sentences 4 to 6
    far_release interaction_not_allowed facility_rejected
setup_asked Passed NoTransfer calling =  -- D7  3.5.2.1.5.1 ii
    acts ToWaitSetupConf Keep AsHeld AccessAsk Nothing Nothing
setup_asked Passed Transfer calling =  -- D8  3.5.2.1.5.1 iii; 01, "the calling number with an invoke SETUP or ACTIVE"
    needs calling (acts ToWaitSetupConfTransfer Keep CallingNumber AccessAsk Nothing Nothing)

abbrev pub answered_here : Plan
answered_here =  -- D9  01, "answer without REV gives ANM"
    sends ToAnswered FarPays AsHeld SendAnm (Absent 0) no_part

-- case A accepted by the own user
abbrev pub setup_confirmed : Mode → Plan
setup_confirmed NoTransfer =  -- D10  3.5.2.1.5.1 a
    sends ToActive FarPays AsHeld SendAnm (Result calling_req_setup) called_part
setup_confirmed Transfer =  -- D11  3.5.2.1.5.1 b
    turns CalledPays AsHeld ChargeCalled SendAnm Nothing Nothing (Result calling_req_setup) agreed_parts

-- the access gives no cause
abbrev pub setup_refused : Correctness → ℕ → ℕ → Plan
setup_refused Correct error cause =  -- D12  3.5.2.1.5.2 i; 01, "(16 if none)"
    far_release error cause
setup_refused Incorrect error cause =  -- D13  3.5.2.1.5.2 i
    far_release not_available facility_rejected

-- case D accepted by the originating exchange. calling: the calling number is there
abbrev pub unconditional_accepted : Mode → Bool → Plan
unconditional_accepted NoTransfer calling =  -- D18  3.5.2.5.5.1, "When the state is wait" a
    acts ToWaitAnswer Keep AsHeld NotifyAccepted Nothing Nothing
unconditional_accepted Transfer calling =  -- D19  3.5.2.5.5.1, "When the state is wait" b; 01, "the calling number with a result to CALLED"
    needs calling (quiet ToWaitAnswerTransfer Keep CallingNumber)

-- case D takes effect with the answer
abbrev pub unconditional_connected : Mode → Plan
unconditional_connected NoTransfer =  -- D22  3.5.2.5.5.1 a; 01, "in WAIT-ANSWER too"
    sends ToActive FarPays AsHeld SendAnm (Absent 0) no_part
unconditional_connected Transfer =  -- D23  3.5.2.5.5.1 b; 01, "in WAIT-ANSWER too"
    turns CalledPays AsHeld ChargeCalled SendAnm Nothing Nothing (Absent 0) no_part

-- case B asked for by the caller. Judged: the check of 3.5.2.2.5.1 i, then interaction. calling: the calling number is there
abbrev pub active_asked : Judged → Mode → Bool → Plan
active_asked NotSubscribed mode calling =  -- D26  3.5.2.2.5.2, first sentence
    far_error Stay user_not_subscribed
active_asked InteractionNotAllowed mode calling =  -- D27  3.5.2.2.5.2, second sentence
    far_error Stay interaction_not_allowed
active_asked Passed NoTransfer calling =  -- D28  3.5.2.2.5.1 ii
    acts ToWaitActiveConf Keep AsHeld AccessAsk Nothing Nothing
active_asked Passed Transfer calling =  -- D29  3.5.2.2.5.1 iii; 01, "the calling number with an invoke SETUP or ACTIVE"
    needs calling (acts ToWaitActiveConfTransfer Keep CallingNumber AccessAsk Nothing Nothing)

-- case B or C asked for by the own user. Judged: the check of 3.5.2.3.5.1 i, 3.5.2.4.5.1 i, then interaction
abbrev pub ask_called : Judged → Extent → Mode → Plan
ask_called NotSubscribed extent mode =  -- D30  3.5.2.3.5.2 i, 3.5.2.4.5.2 i
    access_error Stay user_not_subscribed
ask_called InteractionNotAllowed extent mode =  -- D31  3.5.2.3.5.2 ii, 3.5.2.4.5.2 ii
    access_error Stay interaction_not_allowed
ask_called Passed Rest NoTransfer =  -- D32  3.5.2.3.5.1 ii
    sends ToWaitCalledRest Keep AsHeld SendFac (Invoke called_request) (partial_part + called_part)
ask_called Passed Rest Transfer =  -- D33  3.5.2.3.5.1 iii
    sends ToWaitCalledRest Keep AsHeld SendFac (Invoke called_request) (transfer_part + partial_part)
ask_called Passed Entire NoTransfer =  -- D34  3.5.2.4.5.1 ii
    sends ToWaitCalledEntire Keep AsHeld SendFac (Invoke called_request) called_part
ask_called Passed Entire Transfer =  -- D35  3.5.2.4.5.1 iii
    sends ToWaitCalledEntire Keep AsHeld SendFac (Invoke called_request) transfer_part

-- case B accepted by the own user
abbrev pub active_confirmed : Mode → Plan
active_confirmed NoTransfer =  -- D36  3.5.2.2.5.1 a
    sends ToActive Keep AsHeld SendFac (Result calling_req_active) called_part
active_confirmed Transfer =  -- D37  3.5.2.2.5.1 b
    turns CalledPays AsHeld ChargeCalled SendFac Nothing Nothing (Result calling_req_active) agreed_parts

abbrev pub active_refused : Correctness → ℕ → Plan
active_refused Correct error =  -- D38  3.5.2.2.5.2 i
    far_error ToAnswered error
active_refused Incorrect error =  -- D39  3.5.2.2.5.2 i
    far_error ToAnswered not_available

-- case B or C accepted by the originating exchange. calling, duration: the calling number, the Duration is there
abbrev pub called_accepted : Extent → Mode → Bool → Bool → Plan
called_accepted extent NoTransfer calling duration =  -- D45  3.5.2.3.5.1 a, 3.5.2.4.5.1 a
    acts ToActive Keep AsHeld NotifyAccepted Nothing Nothing
called_accepted Rest Transfer calling duration =  -- D46  3.5.2.3.5.1 b; 01, "the calling number with a result to CALLED"
    needs calling (acts ToActive CalledPays CallingNumber ChargeCalled NotifyAccepted Nothing)
called_accepted Entire Transfer calling duration =  -- D47  3.5.2.4.5.1 b; 01, "and in case C the duration too"
    needs (calling && duration) (acts ToActive DurationReceived CallingNumber ChargeCalled NotifyAccepted Nothing)

-- ---- Every row

abbrev pub plan_of : Row → Terms → Plan
plan_of Opened t = quiet ToNull Begin FromOpening  -- G1  01, kind 1; 02 #107, "An opening takes the slot it names"
plan_of TimeInSetup t = quiet Stay Keep AsHeld  -- G2  01, "only ANSWERED counts"
plan_of TimeCounts t = quiet Stay TimePasses AsHeld  -- G3  01, "one of them runs and takes all seconds"
-- G4  01, "own access clearing"; O19  3.5.2.5.1.2, second sentence; D15  3.5.2.1.5.2 iii and 01;
-- D25  3.5.2.5.5.2, "wait for basic call confirmation"; O39, D55  3.5.2.n.1.1, 3.5.2.n.5.1 last
plan_of ClearedHere t = stops SendRel (Absent 0) normal_clearing
-- G5  01, "a REL from the other exchange"; O18  3.5.2.5.1.2, second sentence;
-- D24  3.5.2.5.5.2, "wait for basic call confirmation"; O40, D56  3.5.2.n.1.1, 3.5.2.n.5.1 last
plan_of Released t = stops AccessRel (Absent 0) t.cause
-- O37, D53  3.5.2.n.1.2, 3.5.2.n.5.2 last; O35, D43  3.5.2.2.1.2, 3.5.2.2.5.2 last;
-- D57, D59  02 #101, "A, B or C from her"
plan_of RunningHere t = access_error Stay already_running
-- O38, D54  3.5.2.n.1.2, 3.5.2.n.5.2 last; O36, D44  3.5.2.2.1.2, 3.5.2.2.5.2 last;
-- D58, D60  02 #101, "any invoke in FAC"
plan_of RunningThere t = far_error Stay already_running
plan_of BasicRequest t = basic_request  -- O1
plan_of AskSetup t = ask_setup t.interaction t.mode  -- O2 to O4
plan_of BasicAnswer t = basic_answer  -- O5
plan_of UnconditionalAsked t = unconditional_asked t.interaction t.taken t.called  -- O6 to O8
plan_of SetupAccepted t = accepted_at_answer t.accepted  -- O9, O10
plan_of SetupError t = setup_error t.correct t.error t.cause  -- O11, O12
plan_of SetupReleased t = access_release Nothing not_available facility_rejected  -- O13  3.5.2.1.1.2 ii
plan_of SetupFailed t = access_release SendRel not_available facility_rejected  -- O14, O15  3.5.2.1.1.2 iii, iv; 01, "goes there last"
plan_of UnconditionalAnswered t = accepted_at_answer t.agreed  -- O16, O17
plan_of AskActive t = ask_active t.interaction t.mode  -- O20 to O22
plan_of CalledAsked t = called_asked t.interaction t.extent t.taken t.called  -- O23 to O27
plan_of ActiveAccepted t = accepted_in_call t.accepted  -- O28, O29
plan_of WaitError t = wait_error t.correct t.error  -- O30, O31, D48, D49
-- O32, O33  3.5.2.2.1.2 ii, iii; D50, D51  3.5.2.3.5.2 b, c, 3.5.2.4.5.2 b, c
plan_of WaitFailed t = access_error ToAnswered not_available
-- O34  3.5.2.2.1.2, a Release Message; D52  3.5.2.3.5.2, a Release Message, 3.5.2.4.5.2, a Release Message
plan_of WaitReleased t = access_release Stop basic_service_not_provided t.cause
plan_of PlainIam t = plain_iam t.service t.interaction t.mode  -- D1 to D4
plan_of SetupAsked t = setup_asked t.judged t.taken t.calling  -- D5 to D8
plan_of AnsweredHere t = answered_here  -- D9
plan_of SetupConfirmed t = setup_confirmed t.agreed  -- D10, D11
plan_of SetupRefused t = setup_refused t.correct t.error t.cause  -- D12, D13
plan_of SetupRejected t = far_release not_available facility_rejected  -- D14  3.5.2.1.5.2 ii
plan_of SetupIgnored t = far_release user_ignored facility_rejected  -- D16  3.5.2.1.5.2 iv
plan_of SetupExpired t = far_release basic_service_not_provided timer_expiry  -- D17  3.5.2.1.5.2 v
plan_of UnconditionalAccepted t = unconditional_accepted t.accepted t.calling  -- D18, D19
plan_of UnconditionalFailed t = unconditional_failed  -- D20, D21
plan_of UnconditionalConnected t = unconditional_connected t.agreed  -- D22, D23
plan_of ActiveAsked t = active_asked t.judged t.taken t.calling  -- D26 to D29
plan_of AskPartial t = ask_called t.judged Rest t.mode  -- D30 to D33
plan_of AskEntire t = ask_called t.judged Entire t.mode  -- D30, D31, D34, D35
plan_of ActiveConfirmed t = active_confirmed t.agreed  -- D36, D37
plan_of ActiveRefused t = active_refused t.correct t.error  -- D38, D39
plan_of ActiveRejected t = far_error ToAnswered not_available  -- D40  3.5.2.2.5.2 ii
plan_of ActiveIgnored t = far_error ToAnswered user_ignored  -- D41  3.5.2.2.5.2 iii
-- D42  3.5.2.2.5.2, a call clearing message; 01, "one REL 16"
plan_of ActiveCleared t = stops SendRel (Error basic_service_not_provided) normal_clearing
plan_of CalledAccepted t = called_accepted t.asked t.accepted t.calling t.duration  -- D45 to D47
