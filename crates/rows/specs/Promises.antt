-- WHAT IS PROMISED of every call and every history, beside the answer to each event (Step.antt) and the bill (Bill.antt): the words
-- that the theorems use. proofs/Theorems.antt states them, each with its sentence. They read events and steps by tests of their own,
-- as Bill.antt does, and take no reading, table, row or plan from the rows.
-- Assumes nothing.
use Rattle.std.specs.Prelude.{ℕ, ◌+◌, Bool, true, false, ◌&&◌, ◌||◌, not, ◌⊎◌, List, [], ◌∷◌, ◌++◌, ◌≡◌, eqb, leb}
use Rattle.meters.specs.declared.Meters.{Meters}
use Rattle.meters.specs.declared.Payer.{Payer}
use Rattle.meters.specs.declared.Payer.TheVariants.{Nobody, Called, Far}
use Rattle.rows.specs.Bill.{same, bit_at, lowest_bit, result_to, invoke_of, Mark, plain, second, reversed, Paid, Step, pick}
use Rattle.rows.specs.Bill.{accepted, counted, seconds_in}
use Rattle.rows.specs.Bill.{is_answered, is_rev, answered}
use Rattle.rows.specs.Step.{unopened_call, step_of}
use Rattle.rows.specs.Telephone.{absent}
use Rattle.rows.specs.Valid.{number_there}
use Rattle.rows.specs.declared.Act.{Act}
use Rattle.rows.specs.declared.Call.{Call}
use Rattle.rows.specs.declared.Component.{Component}
use Rattle.rows.specs.declared.Component.TheVariants.{Absent, Invoke, Result, Error, Reject, Unknown}
use Rattle.rows.specs.declared.Event.{Event}
use Rattle.rows.specs.declared.Event.TheVariants.{Opening, Ask, Received, FromAccess, Expiry, Time}
use Rattle.rows.specs.declared.Flags.{Flags}
use Rattle.rows.specs.declared.Message.{Message}
use Rattle.rows.specs.declared.Number.{Number}
use Rattle.rows.specs.declared.Outcome.{Outcome}
use Rattle.rows.specs.declared.Phase.{Phase}
use Rattle.rows.specs.declared.Phase.TheVariants.{Unopened, Null, Setup, Answered, Cleared}
use Rattle.rows.specs.declared.RevState.{RevState}
use Rattle.rows.specs.declared.RevState.TheVariants.{Idle, WaitSetup, WaitActive, WaitAnswer, Active, WaitSetupConf, WaitActiveConf}
use Rattle.rows.specs.declared.RevState.TheVariants.{WaitCalled}
use Rattle.rows.specs.declared.Role.{Role}
use Rattle.rows.specs.declared.Role.TheVariants.{Originating, Destination}
use Rattle.rows.specs.declared.Stand.{Stand}

-- ---- A refusal changes nothing: proofs/Refusals.antt

-- "no actions and the call as it stood"
pub record NothingDone (c : Call) (o : Outcome) : Type 0 where
  pub call : o.call ≡ c
  pub first : o.first ≡ Act.Nothing
  pub second : o.second ≡ Act.Nothing
  pub third : o.third ≡ Act.Nothing
  pub fourth : o.fourth ≡ Act.Nothing

-- ---- An opening starts anew (02 #107): proofs/Anew.antt

-- of the answers to an opening at a free call (a) and at one that was never opened (b): the same number, field, actions and what they carry;
-- and where the opening is accepted the same call too, so that nothing of the call before is left
pub record AsFresh (a b : Outcome) : Type 0 where
  pub number : a.number ≡ b.number
  pub field : a.field ≡ b.field
  pub note : a.note ≡ b.note
  pub first : a.first ≡ b.first
  pub second : a.second ≡ b.second
  pub third : a.third ≡ b.third
  pub fourth : a.fourth ≡ b.fourth
  pub whole : a.number ≡ 0 → a ≡ b

-- ---- A call stays a call: proofs/Stays.antt

-- no step of a history was given this number
abbrev pub none_is : ℕ → List Step → Bool
none_is n [] = true
none_is n (s ∷ h) = not (eqb s.number n) && none_is n h

-- ---- The answered total (02 #104): proofs/Totals.antt

-- what a step adds to the answered seconds: the seconds of a time event that was accepted in ANSWERED, else nothing
abbrev pub lasted_in : Step → ℕ
lasted_in s = pick (counted s) (seconds_in s.event) 0

-- the same meters, and the same call, with another total
abbrev pub retotalled : ℕ → Meters → Meters
retotalled t m = record { caller = m.caller; called = m.called; far = m.far; payer = m.payer; total = t }

abbrev pub with_total : ℕ → Call → Call
with_total t c = record { side = c.side; stand = c.stand; meters = retotalled t c.meters }

-- The totals that a call may hold, by role, phase and the sum of its meters. Before ANSWERED: 0. From then on, at the originating exchange:
-- the sum; at a destination: any that is not above the limit, for it is not compared with the meters
abbrev pub total_fits : Role → Phase → ℕ → ℕ → Bool
total_fits r Unopened sum t = eqb t 0
total_fits r Null sum t = eqb t 0
total_fits r Setup sum t = eqb t 0
total_fits Originating Answered sum t = eqb sum t
total_fits Destination Answered sum t = leb t 31536000
total_fits Originating Cleared sum t = eqb sum t
total_fits Destination Cleared sum t = leb t 31536000

-- ---- Somebody pays: proofs/Payers.antt

-- the same call with another payer
abbrev pub with_payer : Payer → Call → Call
with_payer p c =
    record {
      side = c.side;
      stand = c.stand;
      meters = record { caller = c.meters.caller; called = c.meters.called; far = c.meters.far; payer = p; total = c.meters.total };
    }

-- The payers that a call may have, by role and phase. Outside ANSWERED nobody pays; in it somebody does, and at a destination called or far
abbrev pub payer_fits : Role → Phase → Payer → Bool
payer_fits r Unopened p = same Nobody p
payer_fits r Null p = same Nobody p
payer_fits r Setup p = same Nobody p
payer_fits Originating Answered p = not (same Nobody p)
payer_fits Destination Answered p = same Called p || same Far p
payer_fits r Cleared p = same Nobody p

-- ---- Phases go forward: proofs/Phases.antt

-- the place of a phase in the order NONE, NULL, SETUP, ANSWERED, CLEARED
abbrev pub place_in : Phase → ℕ
place_in Unopened = 0
place_in Null = 1
place_in Setup = 2
place_in Answered = 3
place_in Cleared = 4

-- 01, kind 4: this word from the own access
abbrev pub is_word : ℕ → Event → Bool
is_word k (Opening r f n) = false
is_word k (Ask q n) = false
is_word k (Received m) = false
is_word k (FromAccess a n) = eqb a k
is_word k Expiry = false
is_word k (Time s) = false

abbrev pub bare : Component → Bool
bare (Absent n) = true
bare (Invoke n) = false
bare (Result n) = false
bare (Error n) = false
bare (Reject n) = false
bare (Unknown c n) = false

abbrev pub is_answer : Message → Bool
is_answer m = eqb m.kind 2 || eqb m.kind 3

-- ANM (2) or CON (3) from the other exchange, with a component that passes this test
abbrev pub answer_with : (Component → Bool) → Event → Bool
answer_with f (Opening r g n) = false
answer_with f (Ask q n) = false
answer_with f (Received m) = is_answer m && f m.component
answer_with f (FromAccess a n) = false
answer_with f Expiry = false
answer_with f (Time s) = false

-- The event that answers a call in SETUP, by role and REV state. At the originating exchange ANM or CON from the other one, with the
-- result of case A (1) where that was asked for, else with no component; at the destination the own access: it accepts (1) where case A
-- was put to it, else it answers without REV (5)
abbrev pub answers_at : Role → RevState → Event → Bool
answers_at Originating Idle e = answer_with bare e
answers_at Originating WaitSetup e = answer_with (result_to 1) e
answers_at Originating WaitActive e = false
answers_at Originating WaitAnswer e = answer_with bare e
answers_at Originating Active e = false
answers_at Originating WaitSetupConf e = false
answers_at Originating WaitActiveConf e = false
answers_at Originating WaitCalled e = false
answers_at Destination Idle e = is_word 5 e
answers_at Destination WaitSetup e = false
answers_at Destination WaitActive e = false
answers_at Destination WaitAnswer e = is_word 5 e
answers_at Destination Active e = false
answers_at Destination WaitSetupConf e = is_word 1 e
answers_at Destination WaitActiveConf e = false
answers_at Destination WaitCalled e = false

-- what leads a call (c) to ANSWERED: the event (e) and the answer to it (o)
pub record Answering (c : Call) (e : Event) (o : Outcome) : Type 0 where
  -- the step was accepted
  pub number : o.number ≡ 0
  -- the call was in SETUP
  pub phase : c.stand.phase ≡ Setup
  -- and the event was the one that answers it there
  pub event : answers_at c.side.role c.stand.rev e ≡ true

-- reverse charging is in effect
abbrev pub runs : Stand → Bool
runs s = is_answered s.phase && is_rev Active s.rev

-- ---- The destination's seconds: proofs/Destination.antt
--
-- 01: "Destination meters: called (charged here) and far (charged at origin); caller is 0. In ANSWERED one of the two runs ..
-- Case C in transfer mode sets called to the Duration received and far to 0." So called and far together are the answered seconds;
-- or, from a Duration on, that Duration and the answered seconds since. The opening's flags byte and the steps say which.

-- the answer to the opening of a destination's call, role 1, with these flags and this own number
abbrev pub opening_there : ℕ → Number → Outcome
opening_there f own = step_of unopened_call (Opening 1 f own)

-- 01, kind 2: the own user asks for case C (3)
abbrev pub asks_c : Event → Bool
asks_c (Opening r f n) = false
asks_c (Ask q n) = eqb q 3
asks_c (Received m) = false
asks_c (FromAccess a n) = false
asks_c Expiry = false
asks_c (Time s) = false

-- A Duration is used only where case C was asked for, and not B. That is the one thing to remember: the last request that led from
-- IDLE to WAIT-CALLED in the answered call was C
abbrev pub entire_asked : Bool → Step → Bool
entire_asked w s =
    pick (accepted s && (is_answered s.phase && (is_rev Idle s.rev && is_rev WaitCalled s.rev_after))) (asks_c s.event) w

-- a FAC (5) with a result to CALLED (3) that gives transfer: flag 1, parts 2 and 4; f: the opening's flags byte
abbrev pub gives_transfer : ℕ → Event → Bool
gives_transfer f (Opening r g n) = false
gives_transfer f (Ask q n) = false
gives_transfer f (Received m) =
    eqb m.kind 5 && (result_to 3 m.component && (lowest_bit f && (bit_at 2 m.parts && bit_at 4 m.parts)))
gives_transfer f (FromAccess a n) = false
gives_transfer f Expiry = false
gives_transfer f (Time s) = false

-- the accepted step from WAIT-CALLED to ACTIVE in the answered call, by such a result, where case C had been asked for (w)
abbrev pub uses_duration : ℕ → Bool → Step → Bool
uses_duration f w s =
    accepted s && (is_answered s.phase && (is_rev WaitCalled s.rev && (is_answered s.phase_after && (is_rev Active s.rev_after
    && (gives_transfer f s.event && w)))))

abbrev pub duration_in : Event → ℕ
duration_in (Opening r f n) = 0
duration_in (Ask q n) = 0
duration_in (Received m) = m.duration
duration_in (FromAccess a n) = 0
duration_in Expiry = 0
duration_in (Time s) = 0

-- the last Duration used, if one was, and the steps since
pub data Use : Type 0 where
  unused : Use
  used : ℕ → List Step → Use

abbrev pub or_else : Use → Use → Use
or_else unused u = u
or_else (used d h) u = used d h

abbrev pub last_use : ℕ → Bool → List Step → Use
last_use f w [] = unused
last_use f w (s ∷ h) = or_else (last_use f (entire_asked w s) h) (pick (uses_duration f w s) (used (duration_in s.event) h) unused)

abbrev pub is_unused : Use → Bool
is_unused unused = true
is_unused (used d h) = false

abbrev pub seconds_by : List Step → Use → ℕ
seconds_by h unused = answered h
seconds_by h (used d since) = d + answered since

-- what called and far come to together; f: the opening's flags byte; h: the steps after the opening
abbrev pub seconds_there : ℕ → List Step → ℕ
seconds_there f h = seconds_by h (last_use f false h)

-- no Duration was used
abbrev pub no_duration : ℕ → List Step → Bool
no_duration f h = is_unused (last_use f false h)

-- ---- The bill of a longer history: proofs/Reversal.antt

-- how often a reversal took effect
abbrev pub reversals : List Mark → ℕ
reversals [] = 0
reversals (plain ∷ ms) = reversals ms
reversals (second n ∷ ms) = reversals ms
reversals (reversed k t ∷ ms) = 1 + reversals ms

-- a bill with further payments behind those that it had
pub data Extends (bill : List Paid) : List Paid → Type 0 where
  with_more : (more : List Paid) → Extends bill (bill ++ more)

-- ---- Telephone numbers passed on: proofs/Passed.antt

-- x is one of these, whole: nature, count and value
pub data OneOf (x : Number) : List Number → Type 0 where
  this : {ns : List Number} → OneOf x (x ∷ ns)
  later : {n : Number} {ns : List Number} → OneOf x ns → OneOf x (n ∷ ns)

-- the own number, the calling and the called number that an event brings
abbrev pub own_in : Event → Number
own_in (Opening r f n) = n
own_in (Ask q n) = absent
own_in (Received m) = absent
own_in (FromAccess a n) = absent
own_in Expiry = absent
own_in (Time s) = absent

abbrev pub calling_in : Event → Number
calling_in (Opening r f n) = absent
calling_in (Ask q n) = absent
calling_in (Received m) = m.calling
calling_in (FromAccess a n) = absent
calling_in Expiry = absent
calling_in (Time s) = absent

abbrev pub called_in : Event → Number
called_in (Opening r f n) = absent
called_in (Ask q n) = n
called_in (Received m) = m.called
called_in (FromAccess a n) = absent
called_in Expiry = absent
called_in (Time s) = absent

-- a number where its part is named, and none where it is not
abbrev pub named_by : Bool → Number → Number
named_by true n = n
named_by false n = absent

-- of an answer: what is sent is the own number, where part 16 or part 32 names it; what is held was held, or the event brought it, or is
-- none
pub record PassedOn (c : Call) (e : Event) (o : Outcome) : Type 0 where
  pub calling_sent : o.note.calling ≡ named_by (bit_at 16 o.note.parts) c.side.own
  pub called_sent : o.note.called ≡ named_by (bit_at 32 o.note.parts) c.side.own
  pub own_held : OneOf o.call.side.own (c.side.own ∷ own_in e ∷ [])
  pub calling_held : OneOf o.call.side.calling (c.side.calling ∷ calling_in e ∷ absent ∷ [])
  pub called_held : OneOf o.call.side.called (c.side.called ∷ called_in e ∷ absent ∷ [])

-- as it was held, or as the event brought it, with a digit at least
abbrev pub HeldOr : Number → Number → Number → Type 0
HeldOr now held brought = (now ≡ held) ⊎ ((now ≡ brought) × (leb 1 brought.count ≡ true))

-- of an answer to any event but an opening: the own number stays, and no number that is held is forgotten
pub record Keeps (c : Call) (e : Event) (o : Outcome) : Type 0 where
  pub own : o.call.side.own ≡ c.side.own
  pub calling : HeldOr o.call.side.calling c.side.calling (calling_in e)
  pub called : HeldOr o.call.side.called c.side.called (called_in e)

-- the numbers of a call that has just been opened with n
pub record OnlyOwn (n : Number) (c : Call) : Type 0 where
  pub own : c.side.own ≡ n
  pub calling : c.side.calling ≡ absent
  pub called : c.side.called ≡ absent

-- of a request in NULL: the phase is SETUP and the call holds the number n that was asked for, or the call has cleared
abbrev pub HoldsOrClears : Number → Phase → Number → Type 0
HoldsOrClears n phase held = (phase ≡ Cleared) ⊎ ((phase ≡ Setup) × (held ≡ n))

-- ---- Other telephone numbers: proofs/Digits.antt

-- the same number, or two that are both there and in range, each of either nature
pub data OtherDigits : Number → Number → Type 0 where
  the_same : {n : Number} → OtherDigits n n
  another : {n m : Number} → number_there n ≡ true → number_there m ≡ true → OtherDigits n m

abbrev pub sent : ℕ → ℕ → Component → ℕ → Number → Number → ℕ → Message
sent k u x p calling called s = record { kind = k; cause = u; component = x; parts = p; calling = calling; called = called; duration = s }

-- the same event but for its numbers, their digits and their nature
pub data Redialled : Event → Event → Type 0 where
  opening : {r f : ℕ} {n m : Number} → OtherDigits n m → Redialled (Opening r f n) (Opening r f m)
  request : {q : ℕ} {n m : Number} → OtherDigits n m → Redialled (Ask q n) (Ask q m)
  message : {k u p s : ℕ} {x : Component} {n n' m m' : Number} → OtherDigits n n' → OtherDigits m m' →
      Redialled (Received (sent k u x p n m s)) (Received (sent k u x p n' m' s))
  access : {a n : ℕ} → Redialled (FromAccess a n) (FromAccess a n)
  expiry : Redialled Expiry Expiry
  time : {s : ℕ} → Redialled (Time s) (Time s)

-- each event of the one list and its twin of the other
pub data AllRedialled : List Event → List Event → Type 0 where
  no_more : AllRedialled [] []
  and_then : {e e' : Event} {es es' : List Event} → Redialled e e' → AllRedialled es es' → AllRedialled (e ∷ es) (e' ∷ es')

abbrev pub holding : Role → Flags → Stand → Meters → Number → Number → Number → Call
holding role flags stand meters own calling called =
    record { side = record { role = role; flags = flags; own = own; calling = calling; called = called }; stand = stand; meters = meters }

-- the same call but for the numbers that it holds
pub data Renumbered : Call → Call → Type 0 where
  renumbered : {r : Role} {f : Flags} {at : Stand} {m : Meters} {u u' v v' w w' : Number} →
      OtherDigits u u' → OtherDigits v v' → OtherDigits w w' → Renumbered (holding r f at m u v w) (holding r f at m u' v' w')

-- the same number given back, and the same actions and the same call but for telephone numbers
pub record SameAnswer (a b : Outcome) : Type 0 where
  pub number : a.number ≡ b.number
  pub field : a.field ≡ b.field
  pub call : Renumbered a.call b.call
  pub first : a.first ≡ b.first
  pub second : a.second ≡ b.second
  pub third : a.third ≡ b.third
  pub fourth : a.fourth ≡ b.fourth
  -- and what they carry
  pub error : a.note.error ≡ b.note.error
  pub cause : a.note.cause ≡ b.note.cause
  pub component : a.note.component ≡ b.note.component
  pub parts : a.note.parts ≡ b.note.parts
  pub duration : a.note.duration ≡ b.note.duration

-- the numbers given back in a history
abbrev pub numbers : List Step → List ℕ
numbers [] = []
numbers (s ∷ h) = s.number ∷ numbers h

-- ---- What leads to ACTIVE: proofs/Progress.antt. The rows of docs/ROWS.md that do, by role, phase and REV state, each with the
-- parts that it needs

abbrev pub is_facility : Message → Bool
is_facility m = eqb m.kind 5

-- originating, SETUP
abbrev pub setup_turns : RevState → Message → Bool
setup_turns Idle m = false
setup_turns WaitSetup m = is_answer m && result_to 1 m.component  -- O9, O10: ANM or CON with the result of case A
setup_turns WaitActive m = false
setup_turns WaitAnswer m = is_answer m && bare m.component  -- O16, O17: the answer after a case D request
setup_turns Active m = false
setup_turns WaitSetupConf m = false
setup_turns WaitActiveConf m = false
setup_turns WaitCalled m = false

-- 01: "the called number with an invoke CALLED that doesn't ask for transfer"
abbrev pub asks_fully : Flags → Message → Bool
asks_fully f m = f.interaction && (lowest_bit m.parts || bit_at 32 m.parts)

-- originating, ANSWERED
abbrev pub answered_turns : RevState → Flags → Message → Bool
answered_turns Idle f m = is_facility m && (invoke_of 3 m.component && asks_fully f m)  -- O24 to O27: the called user asks for B or C
answered_turns WaitSetup f m = false
answered_turns WaitActive f m = is_facility m && result_to 2 m.component  -- O28, O29: FAC with the result of case B
answered_turns WaitAnswer f m = false
answered_turns Active f m = false
answered_turns WaitSetupConf f m = false
answered_turns WaitActiveConf f m = false
answered_turns WaitCalled f m = false

-- 01: "the calling number with a result to CALLED where transfer was asked and accepted, and in case C the duration too"; the
-- Duration used is within the limit. rest: the request was for the rest of the call, case B
abbrev pub accepts_fully : Flags → Bool → Message → Bool
accepts_fully f rest m =
    not (f.transfer && (bit_at 2 m.parts && bit_at 4 m.parts))
    || (bit_at 16 m.parts && (rest || (bit_at 64 m.parts && leb m.duration 31536000)))

-- destination, ANSWERED
abbrev pub called_turns : RevState → Flags → Bool → Message → Bool
called_turns Idle f rest m = false
called_turns WaitSetup f rest m = false
called_turns WaitActive f rest m = false
called_turns WaitAnswer f rest m = false
called_turns Active f rest m = false
called_turns WaitSetupConf f rest m = false
called_turns WaitActiveConf f rest m = false
called_turns WaitCalled f rest m = is_facility m && (result_to 3 m.component && accepts_fully f rest m)  -- D45 to D47: the result of B or C

-- destination, SETUP: what the own access tells
abbrev pub setup_told : RevState → ℕ → Bool
setup_told Idle a = false
setup_told WaitSetup a = false
setup_told WaitActive a = false
setup_told WaitAnswer a = eqb a 5  -- D22, D23: the answer after a case D request
setup_told Active a = false
setup_told WaitSetupConf a = eqb a 1  -- D10, D11: case A accepted
setup_told WaitActiveConf a = false
setup_told WaitCalled a = false

-- destination, ANSWERED: what the own access tells
abbrev pub answered_told : RevState → ℕ → Bool
answered_told Idle a = false
answered_told WaitSetup a = false
answered_told WaitActive a = false
answered_told WaitAnswer a = false
answered_told Active a = false
answered_told WaitSetupConf a = false
answered_told WaitActiveConf a = eqb a 1  -- D36, D37: case B accepted
answered_told WaitCalled a = false

abbrev pub message_turns : Role → Phase → RevState → Flags → Bool → Message → Bool
message_turns r Unopened s f rest m = false
message_turns r Null s f rest m = false
message_turns Originating Setup s f rest m = setup_turns s m
message_turns Destination Setup s f rest m = false
message_turns Originating Answered s f rest m = answered_turns s f m
message_turns Destination Answered s f rest m = called_turns s f rest m
message_turns r Cleared s f rest m = false

abbrev pub access_turns : Role → Phase → RevState → ℕ → Bool
access_turns r Unopened s a = false
access_turns r Null s a = false
access_turns Originating Setup s a = false
access_turns Destination Setup s a = setup_told s a
access_turns Originating Answered s a = false
access_turns Destination Answered s a = answered_told s a
access_turns r Cleared s a = false

-- an event by which reverse charging takes effect
abbrev pub takes_effect : Call → Event → Bool
takes_effect c (Opening r f n) = false
takes_effect c (Ask q n) = false
takes_effect c (Received m) = message_turns c.side.role c.stand.phase c.stand.rev c.side.flags c.stand.rest m
takes_effect c (FromAccess a n) = access_turns c.side.role c.stand.phase c.stand.rev a
takes_effect c Expiry = false
takes_effect c (Time s) = false

-- a row applied, and reverse charging is in effect
pub record InEffect (o : Outcome) : Type 0 where
  pub number : o.number ≡ 0
  pub phase : o.call.stand.phase ≡ Answered
  pub rev : o.call.stand.rev ≡ Active

-- ---- REV Is Already Running: proofs/Running.antt

-- The REV states in which a further request is answered so: WAIT-ACTIVE and WAIT-ACTIVE-CONF (3.5.2.2.1.2, 3.5.2.2.5.2 last), WAIT-CALLED, in
-- SETUP too (02 #101), and ACTIVE (3.5.2.n.1.2, 3.5.2.n.5.2 last)
abbrev pub tells_running : RevState → Bool
tells_running Idle = false
tells_running WaitSetup = false
tells_running WaitActive = true
tells_running WaitAnswer = false
tells_running Active = true
tells_running WaitSetupConf = false
tells_running WaitActiveConf = true
tells_running WaitCalled = true

-- 01, kind 2: a request for case A (1), B (2) or C (3)
abbrev pub asks_reversal : ℕ → Bool
asks_reversal q = eqb q 1 || (eqb q 2 || eqb q 3)

-- of any operation
abbrev pub is_invoke : Component → Bool
is_invoke (Absent n) = false
is_invoke (Invoke n) = true
is_invoke (Result n) = false
is_invoke (Error n) = false
is_invoke (Reject n) = false
is_invoke (Unknown k n) = false

-- this error
abbrev pub error_is : ℕ → Component → Bool
error_is k (Absent n) = false
error_is k (Invoke n) = false
error_is k (Result n) = false
error_is k (Error n) = eqb n k
error_is k (Reject n) = false
error_is k (Unknown x n) = false

-- one action, which carries this error or this component and nothing else, and the call as it stood: phase, REV state, what is pending,
-- numbers and meters
abbrev pub said_alone : Act → ℕ → Component → Call → Outcome
said_alone act error component c =
    record {
      number = 0;
      field = 0;
      call = c;
      note =
          record {
            error = error;
            cause = 0;
            component = component;
            parts = 0;
            calling = absent;
            called = absent;
            duration = 0;
          };
      first = act;
      second = Act.Nothing;
      third = Act.Nothing;
      fourth = Act.Nothing;
    }

-- ACCESS ERROR 12
abbrev pub told_running : Call → Outcome
told_running c = said_alone Act.AccessError 12 (Absent 0) c

-- FAC ERROR 12
abbrev pub sent_running : Call → Outcome
sent_running c = said_alone Act.SendFac 0 (Error 12) c

-- ---- Which requests have a row: proofs/Requests.antt. To be read at the places that 01 allows; elsewhere the answer is 9

-- no row: 1, 15 or 16, and before the opening 17
abbrev pub says_no_row : ℕ → Bool
says_no_row n = eqb n 1 || (eqb n 15 || (eqb n 16 || eqb n 17))

-- 01, kind 2: a request (q: 0 a basic call, 1 A, 2 B, 3 C) of the own user has a row
abbrev pub request_has_row : Role → Phase → RevState → ℕ → Bool
request_has_row r Unopened s q = false
request_has_row Originating Null s q = eqb q 0 || eqb q 1  -- O1 to O4
request_has_row Destination Null s q = false
request_has_row Originating Setup s q = false
request_has_row Destination Setup s q = tells_running s && asks_reversal q  -- D57
request_has_row Originating Answered s q = (is_rev Idle s && eqb q 2) || (tells_running s && asks_reversal q)  -- O20 to O22; O35, O37
request_has_row Destination Answered s q =
    (is_rev Idle s && (eqb q 2 || eqb q 3)) || (tells_running s && asks_reversal q)  -- D30 to D35; D43, D53, D59
request_has_row r Cleared s q = false

-- 01, kind 3: a message (k: 1 IAM, 2 ANM, 3 CON, 4 REL, 5 FAC) of the other exchange with an invoke (x) has a row. A REL is taken for
-- itself, whatever its component
abbrev pub invoke_has_row : Role → Phase → RevState → ℕ → Component → Bool
invoke_has_row r Unopened s k x = false
invoke_has_row Originating Null s k x = false
invoke_has_row Destination Null s k x = eqb k 1 && invoke_of 1 x  -- D5 to D8
invoke_has_row Originating Setup s k x = eqb k 4 || (eqb k 5 && (is_rev Idle s && invoke_of 3 x))  -- G5, O18; O6 to O8
invoke_has_row Destination Setup s k x = eqb k 4 || (eqb k 5 && tells_running s)  -- G5, D24; D58
invoke_has_row Originating Answered s k x =
    eqb k 4 || (eqb k 5 && ((is_rev Idle s && invoke_of 3 x) || tells_running s))  -- G5, O34, O40; O23 to O27; O36, O38
invoke_has_row Destination Answered s k x =
    eqb k 4 || (eqb k 5 && ((is_rev Idle s && invoke_of 2 x) || tells_running s))  -- G5, D52, D56; D26 to D29; D44, D54, D60
invoke_has_row r Cleared s k x = false

-- ---- A clearing clears, and who is charged at a destination: proofs/Clearing.antt, proofs/Payers.antt

-- SETUP and ANSWERED: there is a call to clear
abbrev pub in_call : Phase → Bool
in_call Unopened = false
in_call Null = false
in_call Setup = true
in_call Answered = true
in_call Cleared = false

-- a row applied, and the call is cleared
pub record Clears (o : Outcome) : Type 0 where
  pub number : o.number ≡ 0
  pub phase : o.call.stand.phase ≡ Cleared

-- "far until this exchange charges": at the answer far begins, in the answered call the payer stays
abbrev pub as_before : Phase → Payer → Payer
as_before Unopened q = q
as_before Null q = q
as_before Setup q = Far
as_before Answered q = q
as_before Cleared q = q

-- once reverse charging is in effect at a destination, by whether transfer was agreed: the called user, charged here; else as before
abbrev pub charged_by : Bool → Phase → Payer → Payer
charged_by true ph q = Called
charged_by false ph q = as_before ph q

-- a word of the own access; a message of the other exchange
abbrev pub is_told_here : Event → Bool
is_told_here (Opening r f n) = false
is_told_here (Ask q n) = false
is_told_here (Received m) = false
is_told_here (FromAccess a n) = true
is_told_here Expiry = false
is_told_here (Time s) = false

abbrev pub is_message : Event → Bool
is_message (Opening r f n) = false
is_message (Ask q n) = false
is_message (Received m) = true
is_message (FromAccess a n) = false
is_message Expiry = false
is_message (Time s) = false

-- What a destination waits for, by phase and REV state: its own user's word for cases A and D in SETUP and for case B asked for by the caller
-- in ANSWERED, the other exchange's message for what its own user asked for. Elsewhere nothing puts reverse charging in effect
abbrev pub awaited_there : Phase → RevState → Event → Bool
awaited_there Unopened s e = false
awaited_there Null s e = false
awaited_there Setup s e = (is_rev WaitSetupConf s || is_rev WaitAnswer s) && is_told_here e
awaited_there Answered s e = (is_rev WaitActiveConf s && is_told_here e) || (is_rev WaitCalled s && is_message e)
awaited_there Cleared s e = false

-- ---- Which numbers a call gives back: proofs/Refusals.antt

-- 01, "Numbers given back", 02 #106 and #107: 0; 1, 15, 16, 17 and 20, why no row was looked for or found; 3, a bad field; 4, a part that is
-- absent; 9, no call; 2, too much
abbrev pub given : ℕ → Bool
given n =
    eqb n 0 || (eqb n 1 || (eqb n 2 || (eqb n 3 || (eqb n 4 || (eqb n 9 || (eqb n 15 || (eqb n 16 || (eqb n 17 || eqb n 20))))))))
