-- THE THEOREMS about the rows, each with its sentence, to be read alone. What they speak of is defined in specs/: Step.antt (`step_of`,
-- the answer to an event), Valid.antt (`valid_of`, what is a call; `event_ok`, fields in range), History.antt (`run`, `history`: any list
-- of events, refused ones among them), Bill.antt (demand 3), Reasons.antt (why there was no row, the first bad field) and Promises.antt
-- (the rest); `Shows`, `ShowsThere` and `Told`, which say what the meters show of a history, stand in Whole.antt, Destination.antt and
-- Opened.antt, and `Since`, the latest call of a history, in Opened.antt. The files cited prove them.
-- docs/STATEMENTS.md names a wrong program that each rules out.
-- Assumes nothing.
use mathlib.Core.Path.{◌≡◌, refl}
use mathlib.Core.Bool.{Bool, true, false, ◌&&◌, not}
use mathlib.Core.List.{List, ◌++◌}
use mathlib.Core.Logic.{◌↔◌, ◌⊎◌}
use Prim.Native.Nat.{ℕ, suc, ◌+◌, ◌≤◌}
use lib.Dec.{eqb, leb}
use Rattle.meters.specs.Meters.{new_of, sum_of}
use Rattle.meters.specs.declared.Payer.{Payer}
use Rattle.meters.specs.declared.Payer.TheVariants.{Nobody}
use Rattle.rows.specs.Bill.{bit_at, is_answered, is_rev, answered, Case, plain, marks, took, reversal, payer, bill, originating, destination}
use Rattle.rows.specs.Bill.{Step, pick, opens, none_opens, line}
use Rattle.rows.specs.History.{run, written, history, opening}
use Rattle.rows.specs.Perform.{refused_at}
use Rattle.rows.specs.Promises.{NothingDone, AsFresh, none_is, with_payer, payer_fits, Answering, runs, in_call, Clears, as_before, awaited_there, charged_by, place_in}
use Rattle.rows.specs.Promises.{is_facility, tells_running, asks_reversal, is_invoke, error_is, told_running, sent_running}
use Rattle.rows.specs.Promises.{says_no_row, request_has_row, invoke_has_row, given}
use Rattle.rows.specs.Promises.{opening_there, seconds_there, no_duration, lasted_in, with_total, total_fits}
use Rattle.rows.specs.Promises.{reversals, Extends, OtherDigits, Redialled, AllRedialled, Renumbered, SameAnswer, numbers}
use Rattle.rows.specs.Promises.{takes_effect, InEffect, PassedOn, Keeps, OnlyOwn, HoldsOrClears}
use Rattle.rows.specs.Reasons.{Timely, Looked, Never, OnlyElsewhere, OtherState, reason, SameEvent, FirstOut}
use Rattle.rows.specs.Step.{unopened_call, total_of, is_opening, step_of, free_of}
use Rattle.rows.specs.Telephone.{absent, same_number}
use Rattle.rows.specs.Valid.{in_range, number_there, valid_of, ranges_of, event_ok, bad_field_of}
use Rattle.rows.specs.declared.Call.{Call}
use Rattle.rows.specs.declared.Event.{Event}
use Rattle.rows.specs.declared.Event.TheVariants.{Opening, Ask, Received, FromAccess, Time}
use Rattle.rows.specs.declared.Message.{Message}
use Rattle.rows.specs.declared.Nature.{Nature}
use Rattle.rows.specs.declared.Number.{Number}
use Rattle.rows.specs.declared.Phase.TheVariants.{Unopened, Null, Answered, Cleared}
use Rattle.rows.specs.declared.RevState.TheVariants.{Active}
use Rattle.rows.specs.declared.Role.TheVariants.{Destination}
use Rattle.rows.proofs.Anew
use Rattle.rows.proofs.Clearing
use Rattle.rows.proofs.Destination
use Rattle.rows.proofs.Digits
use Rattle.rows.proofs.Opened
use Rattle.rows.proofs.Opened.{Since, Told, early, untimely_or_three}
use Rattle.rows.proofs.Passed
use Rattle.rows.proofs.Payers
use Rattle.rows.proofs.Phases
use Rattle.rows.proofs.Progress
use Rattle.rows.proofs.Ranges
use Rattle.rows.proofs.Reasons
use Rattle.rows.proofs.Refusals
use Rattle.rows.proofs.Requests
use Rattle.rows.proofs.Reversal
use Rattle.rows.proofs.Running
use Rattle.rows.proofs.SameNumbers
use Rattle.rows.proofs.Stays
use Rattle.rows.proofs.Totals
use Rattle.rows.proofs.Whole
use Rattle.rows.proofs.Whole.{Shows}

-- ---- Demand 1: every event has an answer

-- A refusal changes nothing: any answer but 0 has no action, and the call as it stood ..
pub refusal_changes_nothing : (c : Call) (e : Event) → ((step_of c e).number ≡ 0 → ⊥) → NothingDone c (step_of c e)
refusal_changes_nothing = Refusals.refusal_changes_nothing

-- .. and is the refusal of its number and of the field that it names.
pub refusal_is : (c : Call) (e : Event) → ((step_of c e).number ≡ 0 → ⊥) → step_of c e ≡ refused_at (step_of c e).number (step_of c e).field c
refusal_is = Refusals.refusal_is

-- A call gives back 0 to 4, 9, 15 to 17 and 20 (`given`), and no other number ..
pub never_given : (n : ℕ) → given n ≡ false → (c : Call) (e : Event) → (step_of c e).number ≡ n → ⊥
never_given = Refusals.never_given

-- .. so not 18, which is given no more (02 #107: "20 in 18's place").
pub never_eighteen : (c : Call) (e : Event) → (step_of c e).number ≡ 18 → ⊥
never_eighteen = Refusals.never_eighteen

-- At a call, 17 is given for any event but an opening where the call was never opened, and 20 for an opening where it was opened and has not
-- cleared, whatever the fields, and for nothing else ..
pub seventeen_exactly : (c : Call) (e : Event) →
    ((step_of c e).number ≡ 17) ↔ ((valid_of c ≡ true) × (c.stand.phase ≡ Unopened) × (is_opening e ≡ false))
seventeen_exactly = Reasons.seventeen_exactly

pub twenty_exactly : (c : Call) (e : Event) →
    ((step_of c e).number ≡ 20)
    ↔ ((valid_of c ≡ true) × (c.stand.phase ≡ Unopened → ⊥) × (c.stand.phase ≡ Cleared → ⊥) × (is_opening e ≡ true))
twenty_exactly = Reasons.twenty_exactly

-- .. and then 3 for a field out of range, and for nothing else: the ordinal beside it ..
pub three_exactly : (c : Call) (e : Event) → ((step_of c e).number ≡ 3) ↔ ((valid_of c ≡ true) × Timely c e × (event_ok e ≡ false))
three_exactly = Reasons.three_exactly

pub three_tells : (c : Call) (e : Event) → (step_of c e).number ≡ 3 → (step_of c e).field ≡ bad_field_of e
three_tells = Reasons.three_tells

-- .. is that of the first field out of range, with every field before it in range, and of no other field ..
pub first_bad_exactly : (e : Event) (k : ℕ) → (bad_field_of e ≡ suc k) ↔ FirstOut (ranges_of e) k
first_bad_exactly = Ranges.first_bad_exactly

-- .. it is 0 exactly where every field is in range, and beside every number but 3 it is 0.
pub none_bad_exactly : (e : Event) → (bad_field_of e ≡ 0) ↔ (event_ok e ≡ true)
none_bad_exactly = Ranges.none_bad_exactly

pub else_no_field : (c : Call) (e : Event) → ((step_of c e).number ≡ 3 → ⊥) → (step_of c e).field ≡ 0
else_no_field = Reasons.else_no_field

-- A call stays a call, whatever the event.
pub call_stays : (c : Call) (e : Event) → valid_of c ≡ true → valid_of (step_of c e).call ≡ true
call_stays = Stays.call_stays

-- 9 is given for what is no call, and for nothing else ..
pub nine_exactly : (c : Call) (e : Event) → eqb (step_of c e).number 9 ≡ not (valid_of c)
nine_exactly = Stays.nine_exactly

-- .. so no history of a call meets it ..
pub never_nine : (c : Call) (es : List Event) → valid_of c ≡ true → none_is 9 (history c es) ≡ true
never_nine = Stays.never_nine

-- .. and the call before its opening is one.
pub unopened_valid : valid_of unopened_call ≡ true
unopened_valid = refl

-- A call's meters are new before ANSWERED: all 0, with the total, and nobody pays ..
pub new_before_answer : (c : Call) → valid_of c ≡ true → leb (place_in c.stand.phase) 2 ≡ true → c.meters ≡ new_of
new_before_answer = Stays.new_before_answer

-- .. and in every phase their sum and the total are within the limit.
pub within_limit : (c : Call) → valid_of c ≡ true → (sum_of c.meters ≤ 31536000) × (total_of c ≤ 31536000)
within_limit = Stays.within_limit

-- Outside ANSWERED nobody pays, in CLEARED too ..
pub nobody_outside : (c : Call) → valid_of c ≡ true → is_answered c.stand.phase ≡ false → c.meters.payer ≡ Nobody
nobody_outside = Payers.nobody_outside

-- .. and a call with another payer is no call exactly if that payer does not fit (`payer_fits`: outside ANSWERED nobody pays; in it somebody
-- does, and at a destination called or far): every event is then answered by 9.
pub nine_by_payer : (c : Call) (p : Payer) (e : Event) → valid_of c ≡ true →
    eqb (step_of (with_payer p c) e).number 9 ≡ not (payer_fits c.side.role c.stand.phase p)
nine_by_payer = Payers.nine_by_payer

-- Whatever else it holds, an ANSWERED call with nobody as payer is none: every event is answered by 9 (02 #108).
pub nobody_is_nine : (c : Call) (e : Event) → c.stand.phase ≡ Answered → c.meters.payer ≡ Nobody → step_of c e ≡ refused_at 9 0 c
nobody_is_nine = Payers.nobody_is_nine

-- ---- An opening takes a free call (02 #107). `free_of`: a call, never opened or cleared

-- Free is exactly where an opening with its fields in range is accepted.
pub free_exactly : (c : Call) (r f : ℕ) (n : Number) → event_ok (Opening r f n) ≡ true →
    (free_of c ≡ true) ↔ ((step_of c (Opening r f n)).number ≡ 0)
free_exactly = Anew.free_exactly

-- There it starts anew: the answer is that of a call that was never opened, and so, where it is accepted, is the call, its role, flags,
-- numbers, state, meters and total: whatever the cleared call held is gone. With a bad field it is 3, and the cleared call stays.
pub opening_starts_anew : (c : Call) (e : Event) → free_of c ≡ true → is_opening e ≡ true → AsFresh (step_of c e) (step_of unopened_call e)
opening_starts_anew = Anew.opening_starts_anew

-- ---- Phases go forward

-- ANSWERED is entered by an accepted answer to a call in SETUP (`answers_at` says by which events, for each role), and by nothing else.
pub answered_entered : (c : Call) (e : Event) → is_answered c.stand.phase ≡ false → is_answered (step_of c e).call.stand.phase ≡ true →
    Answering c e (step_of c e)
answered_entered = Phases.answered_entered

-- ANSWERED is left to CLEARED alone.
pub answered_left : (c : Call) (e : Event) → is_answered c.stand.phase ≡ true → is_answered (step_of c e).call.stand.phase ≡ false →
    (step_of c e).call.stand.phase ≡ Cleared
answered_left = Phases.answered_left

-- No event but an opening may leave CLEARED.
pub cleared_stays : (c : Call) (e : Event) → is_opening e ≡ false → c.stand.phase ≡ Cleared → (step_of c e).call.stand.phase ≡ Cleared
cleared_stays = Phases.cleared_stays

-- Any other event at it, with its fields in range, is refused by 15 or 1. Which of both `fifteen_exactly` and `one_exactly` say.
pub cleared_refuses : (c : Call) (e : Event) → valid_of c ≡ true → event_ok e ≡ true → is_opening e ≡ false → c.stand.phase ≡ Cleared →
    ((step_of c e).number ≡ 15) ⊎ ((step_of c e).number ≡ 1)
cleared_refuses = Reasons.cleared_refuses

-- ACTIVE is left by clearing alone: a step from it that stays in ANSWERED stays in ACTIVE.
pub active_stays : (c : Call) (e : Event) → runs c.stand ≡ true → is_answered (step_of c e).call.stand.phase ≡ true →
    is_rev Active (step_of c e).call.stand.rev ≡ true
active_stays = Phases.active_stays

-- NONE, NULL, SETUP, ANSWERED, CLEARED: no event but an opening leads back. So from the latest accepted opening on phases go forward.
pub never_back : (c : Call) (e : Event) → is_opening e ≡ false → place_in c.stand.phase ≤ place_in (step_of c e).call.stand.phase
never_back = Phases.never_falls

-- ---- Progress

-- In ANSWERED a time in range that keeps the sum and the total within the limit is accepted.
pub time_accepted : (c : Call) (s : ℕ) → valid_of c ≡ true → c.stand.phase ≡ Answered → s ≤ 86400 →
    sum_of c.meters + s ≤ 31536000 → total_of c + s ≤ 31536000 → (step_of c (Time s)).number ≡ 0
time_accepted = Progress.time_accepted

-- Of such times 2 is given exactly for the others: where the sum of the meters or the total would pass the limit.
pub time_two_exactly : (c : Call) (s : ℕ) → valid_of c ≡ true → c.stand.phase ≡ Answered → s ≤ 86400 →
    eqb (step_of c (Time s)).number 2 ≡ not (leb (sum_of c.meters + s) 31536000 && leb (total_of c + s) 31536000)
time_two_exactly = Progress.time_two_exactly

-- Each row that leads to ACTIVE does so wherever its needed parts are there and no limit is passed (`takes_effect`: the table of them).
pub reversal_takes_effect : (c : Call) (e : Event) → valid_of c ≡ true → event_ok e ≡ true → takes_effect c e ≡ true → InEffect (step_of c e)
reversal_takes_effect = Progress.reversal_takes_effect

-- A clearing clears: in SETUP and ANSWERED a REL (message 4) with any component ..
pub rel_clears : (c : Call) (m : Message) → valid_of c ≡ true → event_ok (Received m) ≡ true → in_call c.stand.phase ≡ true →
    eqb m.kind 4 ≡ true → Clears (step_of c (Received m))
rel_clears = Clearing.rel_clears

-- .. and the own access's clearing (4).
pub access_clears : (c : Call) (n : ℕ) → valid_of c ≡ true → event_ok (FromAccess 4 n) ≡ true → in_call c.stand.phase ≡ true →
    Clears (step_of c (FromAccess 4 n))
access_clears = Clearing.access_clears

-- ---- Who may ask, and who is told that it is running

-- In WAIT-ACTIVE, WAIT-ACTIVE-CONF, WAIT-CALLED and ACTIVE (`tells_running`) a request A, B or C of the own user is answered by ACCESS ERROR
-- 12, and by nothing else; the call is as it stood, so a wait goes on with all that is pending ..
pub running_here : (c : Call) (q : ℕ) (n : Number) → valid_of c ≡ true → event_ok (Ask q n) ≡ true → tells_running c.stand.rev ≡ true →
    asks_reversal q ≡ true → step_of c (Ask q n) ≡ told_running c
running_here = Running.running_here

-- .. and so is an invoke of any operation in a FAC of the other exchange, by FAC ERROR 12.
pub running_there : (c : Call) (m : Message) → valid_of c ≡ true → event_ok (Received m) ≡ true → tells_running c.stand.rev ≡ true →
    is_facility m ≡ true → is_invoke m.component ≡ true → step_of c (Received m) ≡ sent_running c
running_there = Running.running_there

-- Only there: a request that is answered by the error 12 was A, B or C in one of these REV states ..
pub told_only_running : (c : Call) (q : ℕ) (n : Number) → valid_of c ≡ true → event_ok (Ask q n) ≡ true →
    eqb (step_of c (Ask q n)).note.error 12 ≡ true → (tells_running c.stand.rev && asks_reversal q) ≡ true
told_only_running = Requests.told_only_running

-- .. and so was a FAC the message whose invoke is answered by that error.
pub sent_only_running : (c : Call) (m : Message) → valid_of c ≡ true → event_ok (Received m) ≡ true → is_invoke m.component ≡ true →
    error_is 12 (step_of c (Received m)).note.component ≡ true → (is_facility m && tells_running c.stand.rev) ≡ true
sent_only_running = Requests.sent_only_running

-- Of the own user's requests in range, at a call, those that have no row in that role, phase and REV state (`request_has_row`: the table of
-- those that have one) are told so, by 1, 15 or 16, and before the opening by 17 (`says_no_row`), and no other is ..
pub request_no_row_exactly : (c : Call) (q : ℕ) (n : Number) → valid_of c ≡ true → event_ok (Ask q n) ≡ true →
    says_no_row (step_of c (Ask q n)).number ≡ not (request_has_row c.side.role c.stand.phase c.stand.rev q)
request_no_row_exactly = Requests.request_no_row_exactly

-- .. and so of the other exchange's messages with an invoke (`invoke_has_row`).
pub invoke_no_row_exactly : (c : Call) (m : Message) → valid_of c ≡ true → event_ok (Received m) ≡ true → is_invoke m.component ≡ true →
    says_no_row (step_of c (Received m)).number ≡ not (invoke_has_row c.side.role c.stand.phase c.stand.rev m.kind m.component)
invoke_no_row_exactly = Requests.invoke_no_row_exactly

-- ---- Why there was no row (02 #106). `Looked`: the call is one, the event comes in its time (`Timely`: an opening where the call was never
-- opened or has cleared, any other event where it was opened), and the fields are in range

-- 1 is given exactly where the role has no row for the event in any phase and REV state ..
pub one_exactly : (c : Call) (e : Event) → ((step_of c e).number ≡ 1) ↔ (Looked c e × Never c.side.role e)
one_exactly = Reasons.one_exactly

-- .. 15 exactly where it has one only in another phase ..
pub fifteen_exactly : (c : Call) (e : Event) → ((step_of c e).number ≡ 15) ↔ (Looked c e × OnlyElsewhere c.side.role c.stand.phase e)
fifteen_exactly = Reasons.fifteen_exactly

-- .. and 16 exactly where it has none here, but one in another REV state of this phase.
pub sixteen_exactly : (c : Call) (e : Event) →
    ((step_of c e).number ≡ 16) ↔ (Looked c e × OtherState c.side.role c.stand.phase c.stand.rev e)
sixteen_exactly = Reasons.sixteen_exactly

-- Of events in range, at calls: which of 1, 15, 16, 17 and 20 is given, or none of them (`reason`), depends on role, phase, REV state and
-- what the event is (`SameEvent`), and on nothing else: no flag, part, cause, error number, telephone number, seconds, meters or what is pending.
pub same_reason : (c d : Call) (e f : Event) → c.side.role ≡ d.side.role → c.stand.phase ≡ d.stand.phase → c.stand.rev ≡ d.stand.rev →
    valid_of c ≡ true → valid_of d ≡ true → event_ok e ≡ true → event_ok f ≡ true → SameEvent e f →
    reason (step_of c e).number ≡ reason (step_of d f).number
same_reason = Reasons.same_reason

-- ---- Demand 3: who pays each answered second of an originating call, from its latest accepted opening (02 #107). `none_opens`: no step of
-- the history is an accepted opening, so the opening that it began with is still the latest

-- From an opening, after any events since: each meter is what its payer owes on the bill of the history, the bill has one payment for each
-- accepted time event after answer and before clearing, and the meters add up to the answered seconds.
pub billed : (f : ℕ) (own : Number) → (opening f own).number ≡ 0 → (es : List Event) → none_opens (history (opening f own).call es) ≡ true →
    Shows (run (opening f own).call es) f (history (opening f own).call es)
billed = Whole.billed

-- Such an opening is one whose fields are in range: flags to 31, an own number.
pub opens_in_range : (f : ℕ) (own : Number) → event_ok (Opening 0 f own) ≡ true → (opening f own).number ≡ 0
opens_in_range = Whole.opens_in_range

-- The same of every history from before any opening, calls that were opened again among them: the call has the role of the latest accepted
-- opening (`line`), and its meters show the bill of the steps after that, or at a destination the seconds that those steps say, whatever the
-- calls before it left; where none was accepted nothing has happened ..
pub line_billed : (es : List Event) → Told (run unopened_call es) (line (history unopened_call es))
line_billed = Opened.line_billed

-- .. and what comes before the first is refused with 17 or 3.
pub early_refused : (es : List Event) → untimely_or_three (early (history unopened_call es)) ≡ true
early_refused = Opened.early_refused

-- So what is said here of an opening and the events since holds of the latest call of any history: the call is the one that this opening
-- made of a call that was never opened, after the events since (`Since`), and the bill's steps are theirs.
pub latest_call : (c : Call) (es : List Event) (f : ℕ) (h : List Step) → line (history c es) ≡ originating f h → Since 0 (run c es) f h
latest_call = Opened.latest_call

-- So at a destination: `destination_seconds`, `destination_answered_lem`, `destination_caller` and `total_there` hold of its latest call.
pub latest_call_there : (c : Call) (es : List Event) (f : ℕ) (h : List Step) → line (history c es) ≡ destination f h → Since 1 (run c es) f h
latest_call_there = Opened.latest_call_there

-- Who pays now: in ANSWERED the payer who is charged is the one that the history since the latest opening names for the seconds to come.
pub pays_now : (f : ℕ) (own : Number) → (opening f own).number ≡ 0 → (es : List Event) → none_opens (history (opening f own).call es) ≡ true →
    (run (opening f own).call es).stand.phase ≡ Answered →
    (run (opening f own).call es).meters.payer ≡ payer (reversal (marks f plain (history (opening f own).call es))) true
pays_now = Reversal.pays_now

-- Somebody pays (02 #108): no history of a call reaches ANSWERED with nobody as payer, at either exchange and whatever is opened on the
-- way. `unopened_call` is a call (`unopened_valid`), and so is what an opening makes of it (`call_stays`).
pub somebody_pays : (c : Call) (es : List Event) → valid_of c ≡ true → (run c es).stand.phase ≡ Answered → (run c es).meters.payer ≡ Nobody → ⊥
somebody_pays = Payers.somebody_pays

-- A reversal takes effect once at most, from the latest opening on.
pub one_reversal : (f : ℕ) (own : Number) → (opening f own).number ≡ 0 → (es : List Event) →
    none_opens (history (opening f own).call es) ≡ true → reversals (marks f plain (history (opening f own).call es)) ≤ 1
one_reversal = Reversal.one_reversal

-- A bill once made stays: after a reversal the bill of a longer history has the payments that were made, and then its own ..
pub reversed_bill : (f : ℕ) (own : Number) (es more : List Event) (k : Case) (t : Bool) →
    reversal (marks f plain (history (opening f own).call es)) ≡ took k t →
    Extends (bill f (history (opening f own).call es)) (bill f (history (opening f own).call (es ++ more)))
reversed_bill = Reversal.reversed_bill

-- .. and after the clearing, until another opening is accepted, it is the one that was made.
pub cleared_bill : (f : ℕ) (own : Number) → (opening f own).number ≡ 0 → (es more : List Event) →
    none_opens (history (opening f own).call (es ++ more)) ≡ true → (run (opening f own).call es).stand.phase ≡ Cleared →
    bill f (history (opening f own).call (es ++ more)) ≡ bill f (history (opening f own).call es)
cleared_bill = Reversal.cleared_bill

-- ---- The destination's seconds

-- From its latest opening, after any events since: called and far together are the answered seconds, or, from the last Duration used on, that
-- Duration and the answered seconds since, as the history alone says.
pub destination_seconds : (f : ℕ) (own : Number) → (opening_there f own).number ≡ 0 → (es : List Event) →
    none_opens (history (opening_there f own).call es) ≡ true →
    (run (opening_there f own).call es).meters.called + (run (opening_there f own).call es).meters.far
    ≡ seconds_there f (history (opening_there f own).call es)
destination_seconds = Destination.destination_seconds

-- As long as no Duration was used they add up to the answered seconds.
pub destination_answered_lem : (f : ℕ) (own : Number) → (opening_there f own).number ≡ 0 → (es : List Event) →
    none_opens (history (opening_there f own).call es) ≡ true → no_duration f (history (opening_there f own).call es) ≡ true →
    (run (opening_there f own).call es).meters.called + (run (opening_there f own).call es).meters.far
    ≡ answered (history (opening_there f own).call es)
destination_answered_lem = Destination.destination_answered_lem

-- The caller's meter stays 0 there, and an opening in range is accepted.
pub destination_caller : (f : ℕ) (own : Number) → (opening_there f own).number ≡ 0 → (es : List Event) →
    none_opens (history (opening_there f own).call es) ≡ true → (run (opening_there f own).call es).meters.caller ≡ 0
destination_caller = Destination.destination_caller

pub opens_there_in_range : (f : ℕ) (own : Number) → event_ok (Opening 1 f own) ≡ true → (opening_there f own).number ≡ 0
opens_there_in_range = Destination.opens_there_in_range

-- "far until this exchange charges": at a destination the answer names far, and in the answered call the payer stays (`as_before`), whatever the
-- event, as long as the call is ANSWERED after it and it does not put reverse charging in effect. So no request, no invoke and no refusal of
-- one moves the payer; a clearing ends it (`nobody_outside`).
pub far_until_charged : (c : Call) (e : Event) → c.side.role ≡ Destination → is_answered (step_of c e).call.stand.phase ≡ true →
    (is_rev Active (step_of c e).call.stand.rev ≡ true → is_rev Active c.stand.rev ≡ true) →
    (step_of c e).call.meters.payer ≡ as_before c.stand.phase c.meters.payer
far_until_charged = Payers.far_until_charged

-- Reverse charging is put in effect there by what the exchange waits for, and by nothing else (`awaited_there`: which wait, and whether the own
-- user or the other exchange has the word): no expiry, no time and no request does, and no word where none is waited for.
pub active_entered_there : (c : Call) (e : Event) → c.side.role ≡ Destination → is_rev Active c.stand.rev ≡ false →
    is_rev Active (step_of c e).call.stand.rev ≡ true → awaited_there c.stand.phase c.stand.rev e ≡ true
active_entered_there = Phases.active_entered_there

-- Where the own access's word puts reverse charging in effect, the called user is charged here if transfer was agreed, and else far, or
-- whoever was charged in the answered call: never both exchanges.
pub charged_there : (c : Call) (k n : ℕ) → valid_of c ≡ true → event_ok (FromAccess k n) ≡ true → takes_effect c (FromAccess k n) ≡ true →
    (step_of c (FromAccess k n)).call.meters.payer ≡ charged_by c.stand.agreed c.stand.phase c.meters.payer
charged_there = Clearing.charged_there

-- So it is where the other exchange's result does (cases B and C): by whether transfer was requested here and accepted in it.
pub charged_by_result : (c : Call) (m : Message) → c.side.role ≡ Destination → valid_of c ≡ true → event_ok (Received m) ≡ true →
    takes_effect c (Received m) ≡ true →
    (step_of c (Received m)).call.meters.payer
    ≡ charged_by (c.side.flags.transfer && (bit_at 2 m.parts && bit_at 4 m.parts)) Answered c.meters.payer
charged_by_result = Clearing.charged_by_result

-- ---- The answered total (02 #104). The bill looks at no total; the total is what the bill counts

-- Every event keeps it true: an accepted opening sets it to 0, a time event that is accepted in ANSWERED adds its seconds, and nothing else
-- changes it, no Duration, no move of case C, no clearing and no refusal ..
pub total_counts : (c : Call) (e : Event) →
    total_of (step_of c e).call ≡ pick (opens (written c e (step_of c e))) 0 (total_of c + lasted_in (written c e (step_of c e)))
total_counts = Totals.total_counts

-- .. so from any call, after any events without an accepted opening, it has grown by the answered seconds of the history, as the bill
-- defines them ..
pub total_after : (c : Call) (es : List Event) → none_opens (history c es) ≡ true → total_of (run c es) ≡ total_of c + answered (history c es)
total_after = Totals.total_after

-- .. and for every originating history from its latest opening it is just these seconds ..
pub total_answered : (f : ℕ) (own : Number) → (es : List Event) → none_opens (history (opening f own).call es) ≡ true →
    total_of (run (opening f own).call es) ≡ answered (history (opening f own).call es)
total_answered = Totals.total_answered

-- .. and the three meters' sum ..
pub total_is_sum : (f : ℕ) (own : Number) → (opening f own).number ≡ 0 → (es : List Event) →
    none_opens (history (opening f own).call es) ≡ true → total_of (run (opening f own).call es) ≡ sum_of (run (opening f own).call es).meters
total_is_sum = Totals.total_is_sum

-- .. and for every destination history from its latest opening its own answered seconds, whatever Duration arrived.
pub total_there : (f : ℕ) (own : Number) → (es : List Event) → none_opens (history (opening_there f own).call es) ≡ true →
    total_of (run (opening_there f own).call es) ≡ answered (history (opening_there f own).call es)
total_there = Totals.total_there

-- A call with another total is no call exactly if that total does not fit (`total_fits`: 0 before ANSWERED; from then on the meters' sum at
-- the originating exchange, and at a destination anything up to the limit): every event is then answered by 9.
pub nine_by_total : (c : Call) (t : ℕ) (e : Event) → valid_of c ≡ true →
    eqb (step_of (with_total t c) e).number 9 ≡ not (total_fits c.side.role c.stand.phase (sum_of c.meters) t)
nine_by_total = Totals.nine_by_total

-- ---- Digits decide nothing, and neither does the nature

-- Other telephone numbers, in range, in the call and in the event: the same number given back, the same actions but for those numbers, and
-- the same call, its state and its meters, but for those numbers ..
pub digits_decide_nothing : {c d : Call} {e e' : Event} → Renumbered c d → Redialled e e' → SameAnswer (step_of c e) (step_of d e')
digits_decide_nothing y z = Digits.step_alike y z

-- .. after any events, too ..
pub digits_in_a_history : {c d : Call} {es es' : List Event} → Renumbered c d → AllRedialled es es' → Renumbered (run c es) (run d es')
digits_in_a_history y z = Digits.run_alike y z

-- .. with the same numbers given back on the way.
pub digits_give_no_number : {c d : Call} {es es' : List Event} → Renumbered c d → AllRedialled es es' →
    numbers (history c es) ≡ numbers (history d es')
digits_give_no_number y z = Digits.numbers_alike y z

-- A number with the other nature, the same digits, is such another: it is in range exactly where the first is.
pub nature_decides_nothing : (x y : Nature) (count value : ℕ) → number_there (record { nature = x; count = count; value = value }) ≡ true →
    OtherDigits (record { nature = x; count = count; value = value }) (record { nature = y; count = count; value = value })
nature_decides_nothing = Digits.either_nature

-- ---- Telephone numbers (02 #103)

-- A number is passed on whole, with its nature: what is sent is the own number, wherever a part names one, and what is held was held or
-- was brought by the event.
pub numbers_passed_on : (c : Call) (e : Event) → PassedOn c e (step_of c e)
numbers_passed_on = Passed.passed_on

-- An opening that is accepted registers the number that it brings, and the call holds no other; a request that is accepted in NULL leads to
-- SETUP and registers the number that it asks for, or it clears the call.
pub opening_registers : (c : Call) (r f : ℕ) (n : Number) → (step_of c (Opening r f n)).number ≡ 0 → OnlyOwn n (step_of c (Opening r f n)).call
opening_registers = Passed.opening_registers

pub request_registers : (c : Call) (q : ℕ) (n : Number) → c.stand.phase ≡ Null → number_there n ≡ true → (step_of c (Ask q n)).number ≡ 0 →
    HoldsOrClears n (step_of c (Ask q n)).call.stand.phase (step_of c (Ask q n)).call.side.called
request_registers = Passed.request_registers

-- Without an opening the own number stays, and no number that is held is forgotten: another takes its place only if the event brings it.
pub numbers_kept : (c : Call) (e : Event) → is_opening e ≡ false → Keeps c e (step_of c e)
numbers_kept = Passed.keeps

-- `same_number` says that two numbers are the same exactly with equal nature, count and value: that is, exactly where they are equal.
pub same_number_exactly : (a b : Number) → (same_number a b ≡ true) ↔ ((a.nature ≡ b.nature) × (a.count ≡ b.count) × (a.value ≡ b.value))
same_number_exactly = SameNumbers.same_exactly

pub same_number_equal : (a b : Number) → (same_number a b ≡ true) ↔ (a ≡ b)
same_number_equal = SameNumbers.same_is_equal

-- A number in range without digits is no number at all: none says that it is international.
pub digitless_is_absent : (n : Number) → in_range n ≡ true → n.count ≡ 0 → n ≡ absent
digitless_is_absent = SameNumbers.digitless_is_absent
