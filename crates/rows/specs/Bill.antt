-- DEMAND 3: who pays each answered second of one originating call, by its history alone.
--
--   "For one originating call from its opening, with any sequence of well-formed events, refused and rejected ones among them:
--   the caller's, called user's and far exchange's seconds add up to the answered seconds (those of accepted time events after
--   answer and before clearing). Each has one payer, and the history alone names them: the caller where no reversal took
--   effect; after one the far exchange with transfer and the called user without: for the seconds after acceptance in case B
--   (the caller pays those before), for all of them in A, C and D."
--
-- A history is a list of steps, first step first. The bill reads the opening's flags byte and the steps, and nothing else: no
-- meter, no payer, no total, no case that a call holds. It takes nothing from the definitions of the rows, and reads the numbers
-- of an event by tests of its own.
--
-- It asks the history for one reversal at most, the first: a reversal takes effect once at most (`one_reversal`). And it does not look for a
-- second call in it: an opening takes a call that has cleared (02 #107), and its history begins anew with that opening. `line`, at the
-- end, finds the latest accepted opening and hands the bill the steps after it.
-- Assumes nothing.
use Rattle.std.specs.Prelude.{ℕ, ◌+◌, ◌/◌, ◌%◌, Bool, true, false, ◌&&◌, not, List, [], ◌∷◌, eqb}
use Rattle.meters.specs.declared.Payer.{Payer}
use Rattle.meters.specs.declared.Payer.TheVariants.{Nobody, Caller, Called, Far}
use Rattle.rows.specs.declared.Component.{Component}
use Rattle.rows.specs.declared.Component.TheVariants.{Absent, Invoke, Result, Error, Reject, Unknown}
use Rattle.rows.specs.declared.Event.{Event}
use Rattle.rows.specs.declared.Event.TheVariants.{Opening, Ask, Received, FromAccess, Expiry, Time}
use Rattle.rows.specs.declared.Message.{Message}
use Rattle.rows.specs.declared.Phase.{Phase}
use Rattle.rows.specs.declared.Phase.TheVariants.{Unopened, Null, Setup, Answered, Cleared}
use Rattle.rows.specs.declared.RevState.{RevState}
use Rattle.rows.specs.declared.RevState.TheVariants.{Idle, WaitSetup, WaitActive, WaitAnswer, Active, WaitSetupConf, WaitActiveConf}
use Rattle.rows.specs.declared.RevState.TheVariants.{WaitCalled}

abbrev pub pick : {A : Type 0} → Bool → A → A → A
pick true a b = a
pick false a b = b

-- ---- A step: the event, the number given back, phase and REV state before and after

pub record Step : Type 0 where
  pub event : Event
  pub number : ℕ
  pub phase : Phase
  pub rev : RevState
  pub phase_after : Phase
  pub rev_after : RevState

-- the number given back says that a row applied (01: 0)
abbrev pub accepted : Step → Bool
accepted s = eqb s.number 0

-- ANSWERED: after answer and before clearing
abbrev pub is_answered : Phase → Bool
is_answered Unopened = false
is_answered Null = false
is_answered Setup = false
is_answered Answered = true
is_answered Cleared = false

-- two REV states are the same
abbrev pub rev_number : RevState → ℕ
rev_number Idle = 0
rev_number WaitSetup = 1
rev_number WaitActive = 2
rev_number WaitAnswer = 3
rev_number Active = 4
rev_number WaitSetupConf = 5
rev_number WaitActiveConf = 6
rev_number WaitCalled = 7

abbrev pub is_rev : RevState → RevState → Bool
is_rev p q = eqb (rev_number p) (rev_number q)

-- ---- "the answered seconds (those of accepted time events after answer and before clearing)"

abbrev pub is_time : Event → Bool
is_time (Opening r f n) = false
is_time (Ask q n) = false
is_time (Received m) = false
is_time (FromAccess a n) = false
is_time Expiry = false
is_time (Time s) = true

abbrev pub seconds_in : Event → ℕ
seconds_in (Opening r f n) = 0
seconds_in (Ask q n) = 0
seconds_in (Received m) = 0
seconds_in (FromAccess a n) = 0
seconds_in Expiry = 0
seconds_in (Time s) = s

abbrev pub counted : Step → Bool
counted s = accepted s && (is_time s.event && is_answered s.phase)

-- a number for each such event, in order
abbrev pub times : List Step → List ℕ
times [] = []
times (s ∷ h) = pick (counted s) (seconds_in s.event ∷ times h) (times h)

abbrev pub sum : List ℕ → ℕ
sum [] = 0
sum (n ∷ ns) = n + sum ns

abbrev pub answered : List Step → ℕ
answered h = sum (times h)

-- ---- What a message says of a reversal. Operations: 1 case A, 2 case B by the caller, 3 cases B, C and D by the called user.
-- Parts: 1 transfer requested, 2 Transfer Accepted, 4 its answer is transfer, 8 partial call. Flag 1: transfer

abbrev pub lowest_bit : ℕ → Bool
lowest_bit n = eqb (n % 2) 1

abbrev pub bit_at : ℕ → ℕ → Bool
bit_at k n = eqb ((n / k) % 2) 1

abbrev pub result_to : ℕ → Component → Bool
result_to k (Absent n) = false
result_to k (Invoke n) = false
result_to k (Result n) = eqb n k
result_to k (Error n) = false
result_to k (Reject n) = false
result_to k (Unknown c n) = false

abbrev pub invoke_of : ℕ → Component → Bool
invoke_of k (Absent n) = false
invoke_of k (Invoke n) = eqb n k
invoke_of k (Result n) = false
invoke_of k (Error n) = false
invoke_of k (Reject n) = false
invoke_of k (Unknown c n) = false

pub record Said : Type 0 where
  -- the far side accepts the caller's request, by case A or by case B
  pub accepts_a : Bool
  pub accepts_b : Bool
  -- the far side asks: cases B, C and D. In an answered call, for a part of it: case B
  pub requests : Bool
  pub partial : Bool
  -- beside a request: it asks for transfer, and the flag takes it
  pub asks_transfer : Bool
  -- beside an acceptance: it gives transfer, and transfer had been asked for, which the flag decides. 01: "No transfer where none
  -- was asked, even if the result claims it, or where Transfer Accepted is absent"
  pub gives_transfer : Bool

abbrev pub saying : Bool → Bool → Bool → Bool → Bool → Bool → Said
saying a b q p t g = record { accepts_a = a; accepts_b = b; requests = q; partial = p; asks_transfer = t; gives_transfer = g }

-- f: the opening's flags byte
abbrev pub said_in : ℕ → Message → Said
said_in f m =
    saying (result_to 1 m.component) (result_to 2 m.component) (invoke_of 3 m.component) (bit_at 8 m.parts)
    (lowest_bit f && lowest_bit m.parts)
    (lowest_bit f && (bit_at 2 m.parts && bit_at 4 m.parts))

abbrev pub silence : Said
silence = saying false false false false false false

abbrev pub said : ℕ → Event → Said
said f (Opening r g n) = silence
said f (Ask q n) = silence
said f (Received m) = said_in f m
said f (FromAccess a n) = silence
said f Expiry = silence
said f (Time s) = silence

-- ---- What a step shows: nothing of the bill; answered seconds; a reversal that takes effect, its case, with transfer or without

pub data Case : Type 0 where
  case_a : Case
  case_b : Case
  case_c : Case
  case_d : Case

pub data Mark : Type 0 where
  plain : Mark
  second : ℕ → Mark
  reversed : Case → Bool → Mark

-- A step that leads to ACTIVE, by phase and REV state before it. ACTIVE without the acceptance that leads to it is no reversal.

-- In SETUP. From WAIT-SETUP: the result of case A. From WAIT-ANSWER: case D, asked for before (d). From IDLE there is none: case D
-- takes effect at the answer, and not at its request
abbrev pub turns_setup : Said → Mark → RevState → Mark
turns_setup w d Idle = plain
turns_setup w d WaitSetup = pick w.accepts_a (reversed case_a w.gives_transfer) plain
turns_setup w d WaitActive = plain
turns_setup w d WaitAnswer = d
turns_setup w d Active = plain
turns_setup w d WaitSetupConf = plain
turns_setup w d WaitActiveConf = plain
turns_setup w d WaitCalled = plain

-- the called user's request in the answered call: case B for a part of it, else case C
abbrev pub requested : Said → Mark
requested w = pick w.partial (reversed case_b w.asks_transfer) (reversed case_c w.asks_transfer)

-- In ANSWERED. From IDLE: the called user's request. From WAIT-ACTIVE: the result of case B
abbrev pub turns_answered : Said → RevState → Mark
turns_answered w Idle = pick w.requests (requested w) plain
turns_answered w WaitSetup = plain
turns_answered w WaitActive = pick w.accepts_b (reversed case_b w.gives_transfer) plain
turns_answered w WaitAnswer = plain
turns_answered w Active = plain
turns_answered w WaitSetupConf = plain
turns_answered w WaitActiveConf = plain
turns_answered w WaitCalled = plain

abbrev pub turns : Said → Mark → Phase → RevState → Mark
turns w d Unopened r = plain
turns w d Null r = plain
turns w d Setup r = turns_setup w d r
turns w d Answered r = turns_answered w r
turns w d Cleared r = plain

-- REV in effect: ACTIVE in an answered call
abbrev pub in_effect : Step → Bool
in_effect s = is_answered s.phase_after && is_rev Active s.rev_after

abbrev pub mark_by : Said → Mark → Step → Mark
mark_by w d s =
    pick (counted s) (second (seconds_in s.event))
    (pick (accepted s && in_effect s) (turns w d s.phase s.rev) plain)

-- The one thing to remember, for as long as WAIT-ANSWER lasts: a case D that was asked for takes effect later, at the answer.

-- What waits after a step to WAIT-ANSWER, by the REV state before it. From IDLE: the called user's request. Within WAIT-ANSWER: what
-- has been waiting (d)
abbrev pub still_waits : Said → Mark → RevState → Mark
still_waits w d Idle = pick w.requests (reversed case_d w.asks_transfer) plain
still_waits w d WaitSetup = plain
still_waits w d WaitActive = plain
still_waits w d WaitAnswer = d
still_waits w d Active = plain
still_waits w d WaitSetupConf = plain
still_waits w d WaitActiveConf = plain
still_waits w d WaitCalled = plain

-- in SETUP alone
abbrev pub waits_in : Said → Mark → Phase → RevState → Mark
waits_in w d Unopened r = plain
waits_in w d Null r = plain
waits_in w d Setup r = still_waits w d r
waits_in w d Answered r = plain
waits_in w d Cleared r = plain

-- a refused event leaves it as it is
abbrev pub waits_by : Said → Mark → Step → Mark
waits_by w d s = pick (accepted s) (pick (is_rev WaitAnswer s.rev_after) (waits_in w d s.phase s.rev) plain) d

abbrev pub mark : ℕ → Mark → Step → Mark
mark f d s = mark_by (said f s.event) d s

abbrev pub waits : ℕ → Mark → Step → Mark
waits f d s = waits_by (said f s.event) d s

abbrev pub marks : ℕ → Mark → List Step → List Mark
marks f d [] = []
marks f d (s ∷ h) = mark f d s ∷ marks f (waits f d s) h

-- ---- The reversal that took effect, if one did

pub data Took : Type 0 where
  nothing : Took
  took : Case → Bool → Took

abbrev pub reversal : List Mark → Took
reversal [] = nothing
reversal (plain ∷ ms) = reversal ms
reversal (second n ∷ ms) = reversal ms
reversal (reversed k t ∷ ms) = took k t

-- ---- The payer of a second, by the reversal and whether the acceptance had passed (b)

-- "the far exchange with transfer and the called user without"
abbrev pub turned_to : Bool → Payer
turned_to true = Far
turned_to false = Called

-- "for the seconds after acceptance in case B (the caller pays those before), for all of them in A, C and D"
abbrev pub covers : Case → Bool → Bool
covers case_a b = true
covers case_b b = b
covers case_c b = true
covers case_d b = true

-- "the caller where no reversal took effect; after one the far exchange with transfer and the called user without"
abbrev pub payer : Took → Bool → Payer
payer nothing b = Caller
payer (took k t) b = pick (covers k b) (turned_to t) Caller

-- ---- THE BILL: one payment for each accepted time event after answer and before clearing

pub record Paid : Type 0 where
  pub seconds : ℕ
  pub by : Payer

abbrev pub payments : Took → Bool → List Mark → List Paid
payments w b [] = []
payments w b (plain ∷ ms) = payments w b ms
payments w b (second n ∷ ms) = record { seconds = n; by = payer w b } ∷ payments w b ms
payments w b (reversed k t ∷ ms) = payments w true ms

-- f: the opening's flags byte; h: the steps after the opening
abbrev pub bill : ℕ → List Step → List Paid
bill f h = payments (reversal (marks f plain h)) false (marks f plain h)

abbrev pub all_seconds : List Paid → List ℕ
all_seconds [] = []
all_seconds (x ∷ xs) = x.seconds ∷ all_seconds xs

abbrev pub payer_number : Payer → ℕ
payer_number Nobody = 0
payer_number Caller = 1
payer_number Called = 2
payer_number Far = 3

abbrev pub same : Payer → Payer → Bool
same p q = eqb (payer_number p) (payer_number q)

-- what one payer owes on a bill
abbrev pub owed : Payer → List Paid → ℕ
owed q [] = 0
owed q (x ∷ xs) = pick (same q x.by) x.seconds 0 + owed q xs

-- ---- From before any opening, 02 #107: "Demands 2 and 3 hold for each slot from its latest accepted opening". Its role and flags stand in
-- that opening's event, and the steps after it are the call's history: the bill's, and at a destination that of its seconds

pub data Line : Type 0 where
  unopened : Line
  originating : ℕ → List Step → Line
  destination : ℕ → List Step → Line
  strange : Line

-- 01, kind 1
abbrev pub an_opening : Event → Bool
an_opening (Opening r f n) = true
an_opening (Ask q n) = false
an_opening (Received m) = false
an_opening (FromAccess a n) = false
an_opening Expiry = false
an_opening (Time s) = false

-- an accepted opening
abbrev pub opens : Step → Bool
opens s = accepted s && an_opening s.event

-- no step is an accepted opening: what the history began with is still the latest
abbrev pub none_opens : List Step → Bool
none_opens [] = true
none_opens (s ∷ h) = not (opens s) && none_opens h

abbrev pub opened_by : Event → List Step → Line
opened_by (Opening r f n) h = pick (eqb r 0) (originating f h) (pick (eqb r 1) (destination f h) strange)
opened_by (Ask q n) h = strange
opened_by (Received m) h = strange
opened_by (FromAccess a n) h = strange
opened_by Expiry h = strange
opened_by (Time s) h = strange

-- what stands later in the history, if anything was opened there
abbrev pub later_of : Line → Line → Line
later_of unopened l = l
later_of (originating f h) l = originating f h
later_of (destination f h) l = destination f h
later_of strange l = strange

-- the latest accepted opening, and the steps after it
abbrev pub line : List Step → Line
line [] = unopened
line (s ∷ h) = later_of (line h) (pick (opens s) (opened_by s.event h) unopened)
