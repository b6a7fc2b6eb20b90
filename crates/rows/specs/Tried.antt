-- 01, "Calls to try": the histories marked P, as theorems about the definition; the second press of 02 #101; the totals of 02 #104; rooms
-- abroad, 02 #103; why there was no row and the first bad field, 02 #106; a freed call taken again, 02 #107; who pays, 02 #108; and
-- calls that only a host hands in. Each computes.
-- Assumes nothing.
use Rattle.std.specs.Prelude.{ℕ, ◌+◌, false, List, [], ◌∷◌, ◌≡◌, refl}
use Rattle.meters.specs.declared.Payer.{Payer}
use Rattle.rows.specs.History.{run as after}
use Rattle.rows.specs.Numbers.{iam, anm, rel, fac, calling_req_setup, calling_req_active, called_request, not_available}
use Rattle.rows.specs.Numbers.{basic_service_not_provided}
use Rattle.rows.specs.Numbers.{already_running, normal_clearing, facility_rejected, no_part, transfer_part, partial_part, calling_part}
use Rattle.rows.specs.Numbers.{called_part, duration_part, agreed_parts}
use Rattle.rows.specs.Perform.{at}
use Rattle.rows.specs.Promises.{with_total, with_payer}
use Rattle.rows.specs.Read.{flags_of}
use Rattle.rows.specs.Step.{unopened_call, total_of, step_of, Deed, does, tells, sends, deeds_of}
use Rattle.rows.specs.Telephone.{absent}
use Rattle.rows.specs.declared.Act.TheVariants.{NotifyAccepted, AccessSetup, AccessAsk, AccessError, AccessRel, ChargeCalling}
use Rattle.rows.specs.declared.Act.TheVariants.{ChargeCalled, Stop}
use Rattle.rows.specs.declared.Call.{Call}
use Rattle.rows.specs.declared.Component.{Component}
use Rattle.rows.specs.declared.Component.TheVariants.{Absent, Invoke, Result, Error, Reject, Unknown}
use Rattle.rows.specs.declared.Event.{Event}
use Rattle.rows.specs.declared.Event.TheVariants.{Opening, Ask, Received, FromAccess, Expiry, Time}
use Rattle.rows.specs.declared.Message.{Message}
use Rattle.rows.specs.declared.Nature.TheVariants.{National, International}
use Rattle.rows.specs.declared.Number.{Number}
use Rattle.rows.specs.declared.Outcome.{Outcome}
use Rattle.rows.specs.declared.Phase.{Phase}
use Rattle.rows.specs.declared.Phase.TheVariants.{Unopened, Null, Setup, Answered, Cleared}
use Rattle.rows.specs.declared.RevState.{RevState}
use Rattle.rows.specs.declared.RevState.TheVariants.{Idle, WaitSetup, WaitActive, WaitAnswer, WaitSetupConf, WaitActiveConf, WaitCalled}
use Rattle.rows.specs.declared.RevState.TheVariants.{Active}
use Rattle.rows.specs.declared.Role.{Role}

-- a line of the listing, without its printing
record Line : Type 0 where
  pub number : ℕ
  pub phase : Phase
  pub rev : RevState
  pub caller : ℕ
  pub called : ℕ
  pub far : ℕ
  pub deeds : List Deed

abbrev line : ℕ → Phase → RevState → ℕ → ℕ → ℕ → List Deed → Line
line n p s a b f w = record { number = n; phase = p; rev = s; caller = a; called = b; far = f; deeds = w }

abbrev line_of : Outcome → Line
line_of o =
    line o.number o.call.stand.phase o.call.stand.rev
    o.call.meters.caller o.call.meters.called o.call.meters.far
    (deeds_of o)

-- the lines of a history, from a call
abbrev run : Call → List Event → List Line
run c [] = []
run c (e ∷ es) = line_of (step_of c e) ∷ run (step_of c e).call es

abbrev room : Number
room = record { nature = National; count = 7; value = 5550123 }

abbrev message : ℕ → ℕ → Component → ℕ → Number → Number → ℕ → Message
message k u x p calling called d =
    record { kind = k; cause = u; component = x; parts = p; calling = calling; called = called; duration = d }

abbrev plain : ℕ → ℕ → Component → Message
plain k u x = message k u x no_part absent absent 0

-- L: opening, originating, flags 8; A; 8 seconds; ANM with result; 60 seconds; B; clear
case_l : run unopened_call
    (Opening 0 8 room ∷ Ask 1 room ∷ Time 8 ∷ Received (plain anm 0 (Result calling_req_setup)) ∷ Time 60
    ∷ Ask 2 absent ∷ FromAccess 4 0 ∷ [])
    ≡ line 0 Null Idle 0 0 0 []
    ∷ line 0 Setup WaitSetup 0 0 0 (sends (plain iam 0 (Invoke calling_req_setup)) ∷ [])
    ∷ line 0 Setup WaitSetup 0 0 0 []
    ∷ line 0 Answered Active 0 0 0 (does NotifyAccepted ∷ does ChargeCalled ∷ [])
    ∷ line 0 Answered Active 0 60 0 []
    ∷ line 0 Answered Active 0 60 0 (tells AccessError already_running ∷ [])
    ∷ line 0 Cleared Idle 0 60 0 (does Stop ∷ sends (plain rel normal_clearing (Absent 0)) ∷ [])
    ∷ []
case_l = refl

-- WAIT-SETUP, ANM with no component: cleared, cause 29, all meters 0
answered_without_word : run unopened_call (Opening 0 8 room ∷ Ask 1 room ∷ Received (plain anm 0 (Absent 0)) ∷ [])
    ≡ line 0 Null Idle 0 0 0 []
    ∷ line 0 Setup WaitSetup 0 0 0 (sends (plain iam 0 (Invoke calling_req_setup)) ∷ [])
    ∷ line 0 Cleared Idle 0 0 0
    (tells AccessError not_available ∷ tells AccessRel facility_rejected ∷ sends (plain rel facility_rejected (Absent 0)) ∷ [])
    ∷ []
answered_without_word = refl

-- WAIT-SETUP, REL with an error and cause 31: "the same error and cause to the access" where the module lists it; 3 and 13 it does not
abbrev refused_with : ℕ → List Line
refused_with error = run unopened_call (Opening 0 8 room ∷ Ask 1 room ∷ Received (plain rel 31 (Error error)) ∷ [])

abbrev told : ℕ → ℕ → List Line
told error cause =
    line 0 Null Idle 0 0 0 []
    ∷ line 0 Setup WaitSetup 0 0 0 (sends (plain iam 0 (Invoke calling_req_setup)) ∷ [])
    ∷ line 0 Cleared Idle 0 0 0 (tells AccessError error ∷ tells AccessRel cause ∷ [])
    ∷ []

listed_error : (refused_with 4 ≡ told 4 31) × (refused_with 12 ≡ told 12 31)
listed_error = (refl, refl)

unlisted_error : (refused_with 3 ≡ told not_available facility_rejected) × (refused_with 13 ≡ told not_available facility_rejected)
unlisted_error = (refl, refl)

-- the same in the answered call (O31, where case B was asked for), and from the own access at a destination (D13, D39)
unlisted_in_call : run unopened_call
    (Opening 0 8 room ∷ Ask 0 room ∷ Received (plain anm 0 (Absent 0)) ∷ Ask 2 absent ∷ Received (plain fac 0 (Error 3)) ∷ [])
    ≡ line 0 Null Idle 0 0 0 []
    ∷ line 0 Setup Idle 0 0 0 (sends (plain iam 0 (Absent 0)) ∷ [])
    ∷ line 0 Answered Idle 0 0 0 (does ChargeCalling ∷ [])
    ∷ line 0 Answered WaitActive 0 0 0 (sends (plain fac 0 (Invoke calling_req_active)) ∷ [])
    ∷ line 0 Answered Idle 0 0 0 (tells AccessError not_available ∷ [])
    ∷ []
unlisted_in_call = refl

unlisted_at_setup : run unopened_call (Opening 1 8 room ∷ Received (plain iam 0 (Invoke calling_req_setup)) ∷ FromAccess 2 13 ∷ [])
    ≡ line 0 Null Idle 0 0 0 []
    ∷ line 0 Setup WaitSetupConf 0 0 0 (does AccessAsk ∷ [])
    ∷ line 0 Cleared Idle 0 0 0 (sends (plain rel facility_rejected (Error not_available)) ∷ [])
    ∷ []
unlisted_at_setup = refl

unlisted_while_asked : run unopened_call
    (Opening 1 8 room ∷ Received (plain iam 0 (Absent 0)) ∷ FromAccess 5 0 ∷ Received (plain fac 0 (Invoke calling_req_active))
    ∷ FromAccess 2 13 ∷ [])
    ≡ line 0 Null Idle 0 0 0 []
    ∷ line 0 Setup Idle 0 0 0 (does AccessSetup ∷ [])
    ∷ line 0 Answered Idle 0 0 0 (sends (plain anm 0 (Absent 0)) ∷ [])
    ∷ line 0 Answered WaitActiveConf 0 0 0 (does AccessAsk ∷ [])
    ∷ line 0 Answered Idle 0 0 0 (sends (plain fac 0 (Error not_available)) ∷ [])
    ∷ []
unlisted_while_asked = refl

-- an answered originating call to a number, with these flags, whose caller has used up so many seconds
abbrev talked_to : Number → ℕ → ℕ → Call
talked_to called flags seconds =
    record {
      side = record { role = Role.Originating; flags = flags_of flags; own = room; calling = absent; called = called };
      stand = at Answered Idle false false;
      meters = record { caller = seconds; called = 0; far = 0; payer = Payer.Caller; total = seconds };
    }

abbrev talked_with : ℕ → ℕ → Call
talked_with = talked_to room

abbrev talked : ℕ → Call
talked = talked_with 8

-- opened with these flags, asked, answered, 40 s paid by the caller
abbrev forty : ℕ → List Event
forty flags = Opening 0 flags room ∷ Ask 0 room ∷ Received (plain anm 0 (Absent 0)) ∷ Time 40 ∷ []

until_forty : run unopened_call (forty 8)
    ≡ line 0 Null Idle 0 0 0 []
    ∷ line 0 Setup Idle 0 0 0 (sends (plain iam 0 (Absent 0)) ∷ [])
    ∷ line 0 Answered Idle 0 0 0 (does ChargeCalling ∷ [])
    ∷ line 0 Answered Idle 40 0 0 []
    ∷ []
until_forty = refl

forty_talked : (after unopened_call (forty 8) ≡ talked_with 8 40) × (after unopened_call (forty 9) ≡ talked_with 9 40)
forty_talked = (refl, refl)

-- then an invoke from the called side with these parts; 20 s
abbrev and_twenty : ℕ → ℕ → Number → List Line
and_twenty flags parts called =
    run (talked_with flags 40) (Received (message fac 0 (Invoke called_request) parts absent called 0) ∷ Time 20 ∷ [])

-- C accepted without transfer: 0, 60, 0
entire_call : and_twenty 8 called_part room
    ≡ line 0 Answered Active 0 40 0 (sends (plain fac 0 (Result called_request)) ∷ does NotifyAccepted ∷ does Stop ∷ does ChargeCalled ∷ [])
    ∷ line 0 Answered Active 0 60 0 []
    ∷ []
entire_call = refl

-- the same with transfer: 0, 0, 60, Duration 40
entire_call_transferred : and_twenty 9 transfer_part absent
    ≡ line 0 Answered Active 0 0 40
    (sends (message fac 0 (Result called_request) (agreed_parts + calling_part + duration_part) room absent 40)
    ∷ does NotifyAccepted ∷ does Stop ∷ [])
    ∷ line 0 Answered Active 0 0 60 []
    ∷ []
entire_call_transferred = refl

-- as B without transfer: 40, 20, 0
rest_of_call : and_twenty 8 (partial_part + called_part) room
    ≡ line 0 Answered Active 40 0 0 (sends (plain fac 0 (Result called_request)) ∷ does NotifyAccepted ∷ does Stop ∷ does ChargeCalled ∷ [])
    ∷ line 0 Answered Active 40 20 0 []
    ∷ []
rest_of_call = refl

-- time 86,400 accepted; 86,401 gives 3
day_accepted : run (talked 0) (Time 86400 ∷ []) ≡ line 0 Answered Idle 86400 0 0 [] ∷ []
day_accepted = refl

day_and_a_second : run (talked 0) (Time 86401 ∷ []) ≡ line 3 Answered Idle 0 0 0 [] ∷ []
day_and_a_second = refl

-- meters at 31,536,000 and time 0 accepted; time 1 gives 2
year_accepted : run (talked 31536000) (Time 0 ∷ []) ≡ line 0 Answered Idle 31536000 0 0 [] ∷ []
year_accepted = refl

year_and_a_second : run (talked 31536000) (Time 1 ∷ []) ≡ line 2 Answered Idle 31536000 0 0 [] ∷ []
year_and_a_second = refl

-- expiry in IDLE has no row: 01's 1, by 02 #106 16, for WAIT-ACTIVE has one
idle_expiry : run (talked 40) (Expiry ∷ []) ≡ line 16 Answered Idle 40 0 0 [] ∷ []
idle_expiry = refl

-- ---- The answered total, 02 #104

-- 40 s, an invoke from the called side, 20 s, and the caller clears
abbrev lasted : ℕ → ℕ → Number → ℕ
lasted flags parts called =
    total_of (after (talked_with flags 40) (Received (message fac 0 (Invoke called_request) parts absent called 0) ∷ Time 20 ∷ FromAccess 4 0 ∷ []))

-- case C without transfer and with it, case B: 60 s were answered, whoever pays them, and the cleared call keeps them
sixty_answered : (lasted 8 called_part room ≡ 60) × (lasted 9 transfer_part absent ≡ 60) × (lasted 8 (partial_part + called_part) room ≡ 60)
sixty_answered = (refl, refl, refl)

-- a destination in ANSWERED, with transfer, whose far meter and total have so many seconds
abbrev served : RevState → ℕ → ℕ → Call
served state far total =
    record {
      side = record { role = Role.Destination; flags = flags_of 9; own = room; calling = absent; called = absent };
      stand = at Answered state false false;
      meters = record { caller = 0; called = 0; far = far; payer = Payer.Far; total = total };
    }

-- the result to case C, with transfer
abbrev result : ℕ → Event
result duration = Received (message fac 0 (Result called_request) (agreed_parts + calling_part + duration_part) room absent duration)

-- "that exchange's own answered seconds, whatever Duration arrived": 40 s, Duration 35 or 99, 20 s
own_seconds : (total_of (after (served WaitCalled 40 40) (result 35 ∷ Time 20 ∷ [])) ≡ 60)
    × (total_of (after (served WaitCalled 40 40) (result 99 ∷ Time 20 ∷ [])) ≡ 60)
own_seconds = (refl, refl)

-- "2 also where the total would pass that limit": total 31,536,000 and Duration 0; then no second is left
full : run (served WaitCalled 31536000 31536000) (result 0 ∷ Time 0 ∷ Time 1 ∷ [])
    ≡ line 0 Answered Active 0 0 0 (does ChargeCalled ∷ does NotifyAccepted ∷ [])
    ∷ line 0 Answered Active 0 0 0 []
    ∷ line 2 Answered Active 0 0 0 []
    ∷ []
full = refl

-- what an expiry is answered in IDLE, where the call holds this total: 16, it has no row there; or 9
abbrev expiry_with : ℕ → Call → ℕ
expiry_with t c = (step_of (with_total t c) Expiry).number

-- the caller has used up 40 s: the total is 40; before the answer it is 0
differs : (expiry_with 39 (talked 40) ≡ 9) × (expiry_with 40 (talked 40) ≡ 16) × (expiry_with 41 (talked 40) ≡ 9)
    × (expiry_with 1 (after unopened_call (Opening 1 8 room ∷ [])) ≡ 9)
differs = (refl, refl, refl, refl)

-- a destination's is not compared with its meters, but it has the limit, and so has the sum of these
own_limit : (expiry_with 7 (served Idle 40 40) ≡ 16) × (expiry_with 31536000 (served Idle 40 40) ≡ 16)
    × (expiry_with 31536001 (served Idle 40 40) ≡ 9) × (expiry_with 40 (served Idle 31536001 40) ≡ 9)
own_limit = (refl, refl, refl, refl)

-- ---- Who pays, 02 #108

-- ANSWERED at the originating exchange, by payer. With nobody every event is 9, an opening and one with a bad field too; and so it is where
-- no second is left
abbrev paid_by : Payer → Event → ℕ
paid_by p e = (step_of (with_payer p (talked 40)) e).number

somebody_talks : (paid_by Payer.Caller (Time 1) ≡ 0) × (paid_by Payer.Called (Time 1) ≡ 0) × (paid_by Payer.Far (Time 1) ≡ 0)
somebody_talks = (refl, refl, refl)

nobody_talks : (paid_by Payer.Nobody (Time 1) ≡ 9) × (paid_by Payer.Nobody (Opening 0 8 room) ≡ 9) × (paid_by Payer.Nobody (Time 86401) ≡ 9)
    × (paid_by Payer.Nobody (FromAccess 4 0) ≡ 9) × (paid_by Payer.Nobody Expiry ≡ 9) × ((step_of (with_payer Payer.Nobody (talked 31536000)) (Time 1)).number ≡ 9)
nobody_talks = (refl, refl, refl, refl, refl, refl)

-- at a destination called or far may pay; and outside ANSWERED nobody
abbrev expiry_by : Payer → Call → ℕ
expiry_by p c = (step_of (with_payer p c) Expiry).number

there_pays : (expiry_by Payer.Called (served Idle 40 40) ≡ 16) × (expiry_by Payer.Far (served Idle 40 40) ≡ 16)
    × (expiry_by Payer.Caller (served Idle 40 40) ≡ 9) × (expiry_by Payer.Nobody (served Idle 40 40) ≡ 9)
there_pays = (refl, refl, refl, refl)

abbrev rung : Call
rung = after unopened_call (Opening 0 8 room ∷ Ask 0 room ∷ [])

abbrev rung_there : Call
rung_there = after unopened_call (Opening 1 8 room ∷ Received (plain iam 0 (Absent 0)) ∷ [])

abbrev cleared : Call
cleared = after (talked 40) (FromAccess 4 0 ∷ [])

outside_nobody : (expiry_by Payer.Nobody rung ≡ 16) × (expiry_by Payer.Caller rung ≡ 9) × (expiry_by Payer.Far rung ≡ 9)
    × (expiry_by Payer.Nobody rung_there ≡ 16) × (expiry_by Payer.Called rung_there ≡ 9) × (expiry_by Payer.Far rung_there ≡ 9)
    × (expiry_by Payer.Nobody cleared ≡ 15) × (expiry_by Payer.Caller cleared ≡ 9) × (expiry_by Payer.Called cleared ≡ 9)
outside_nobody = (refl, refl, refl, refl, refl, refl, refl, refl, refl)

-- ---- National and international, 02 #103

-- a room abroad that shares its digits with the one at home
abbrev abroad : Number
abroad = record { nature = International; count = 7; value = 5550123 }

-- its own number is sent as it was opened
abroad_sent : run unopened_call (Opening 0 9 abroad ∷ Ask 1 room ∷ [])
    ≡ line 0 Null Idle 0 0 0 []
    ∷ line 0 Setup WaitSetup 0 0 0 (sends (message iam 0 (Invoke calling_req_setup) (transfer_part + calling_part) abroad absent 0) ∷ [])
    ∷ []
abroad_sent = refl

-- the numbers of an event are held as it brings them
abroad_held : ((after unopened_call (Opening 0 8 room ∷ Ask 0 abroad ∷ [])).side.called ≡ abroad)
    × ((after unopened_call
    (Opening 1 9 room ∷ Received (message iam 0 (Invoke calling_req_setup) (transfer_part + calling_part) abroad absent 0) ∷ [])).side.calling ≡ abroad)
    × ((after (talked 40) (Received (message fac 0 (Invoke called_request) (partial_part + called_part) absent abroad 0) ∷ [])).side.called ≡ abroad)
abroad_held = (refl, refl, refl)

-- "A count of 0 has the bit clear": else 3, and no call holds one
abbrev digitless : Number
digitless = record { nature = International; count = 0; value = 0 }

-- an opened call that holds these
abbrev numbered : Number → Number → Call
numbered own calling =
    record {
      side = record { role = Role.Originating; flags = flags_of 8; own = own; calling = calling; called = absent };
      stand = at Null Idle false false;
      meters = record { caller = 0; called = 0; far = 0; payer = Payer.Nobody; total = 0 };
    }

digitless_refused : run unopened_call (Opening 0 8 digitless ∷ Opening 0 8 room ∷ Ask 0 digitless ∷ Ask 2 digitless ∷ [])
    ≡ line 3 Unopened Idle 0 0 0 []
    ∷ line 0 Null Idle 0 0 0 []
    ∷ line 3 Null Idle 0 0 0 []
    ∷ line 3 Null Idle 0 0 0 []
    ∷ []
digitless_refused = refl

digitless_held : (run (talked_to digitless 8 40) (Time 1 ∷ []) ≡ line 9 Answered Idle 40 0 0 [] ∷ [])
    × (run (numbered digitless absent) (Time 1 ∷ []) ≡ line 9 Null Idle 0 0 0 [] ∷ [])
    × (run (numbered room digitless) (Time 1 ∷ []) ≡ line 9 Null Idle 0 0 0 [] ∷ [])
    × (run (numbered room absent) (Time 1 ∷ []) ≡ line 15 Null Idle 0 0 0 [] ∷ [])
digitless_held = (refl, refl, refl, refl)

-- ---- The second press, 02 #101: "the wait goes on"

-- The rest of the call asked for in transfer mode (case B), 40 s; pressed again for the entire call, and asked by the other exchange: told
-- that it is running. Then the result, with a Duration: it is still the rest of the call that was asked for, and the 40 s stay far's
pressed_again : run unopened_call
    (Opening 1 9 room ∷ Received (plain iam 0 (Absent 0)) ∷ FromAccess 5 0 ∷ Ask 2 absent ∷ Time 40 ∷ Ask 3 absent
    ∷ Received (plain fac 0 (Invoke calling_req_active))
    ∷ Received (message fac 0 (Result called_request) (agreed_parts + calling_part + duration_part) room absent 40) ∷ Time 20 ∷ [])
    ≡ line 0 Null Idle 0 0 0 []
    ∷ line 0 Setup Idle 0 0 0 (does AccessSetup ∷ [])
    ∷ line 0 Answered Idle 0 0 0 (sends (plain anm 0 (Absent 0)) ∷ [])
    ∷ line 0 Answered WaitCalled 0 0 0 (sends (message fac 0 (Invoke called_request) (transfer_part + partial_part) absent absent 0) ∷ [])
    ∷ line 0 Answered WaitCalled 0 0 40 []
    ∷ line 0 Answered WaitCalled 0 0 40 (tells AccessError already_running ∷ [])
    ∷ line 0 Answered WaitCalled 0 0 40 (sends (plain fac 0 (Error already_running)) ∷ [])
    ∷ line 0 Answered Active 0 0 40 (does ChargeCalled ∷ does NotifyAccepted ∷ [])
    ∷ line 0 Answered Active 0 20 40 []
    ∷ []
pressed_again = refl

-- before the answer, in case D
pressed_at_set_up : run unopened_call
    (Opening 1 24 room ∷ Received (plain iam 0 (Absent 0)) ∷ Ask 2 absent ∷ Received (plain fac 0 (Invoke called_request))
    ∷ Received (plain fac 0 (Result called_request)) ∷ FromAccess 5 0 ∷ [])
    ≡ line 0 Null Idle 0 0 0 []
    ∷ line 0 Setup WaitCalled 0 0 0 (sends (message fac 0 (Invoke called_request) called_part absent room 0) ∷ [])
    ∷ line 0 Setup WaitCalled 0 0 0 (tells AccessError already_running ∷ [])
    ∷ line 0 Setup WaitCalled 0 0 0 (sends (plain fac 0 (Error already_running)) ∷ [])
    ∷ line 0 Setup WaitAnswer 0 0 0 (does NotifyAccepted ∷ [])
    ∷ line 0 Answered Active 0 0 0 (sends (plain anm 0 (Absent 0)) ∷ [])
    ∷ []
pressed_at_set_up = refl

-- ---- Why there was no row, 02 #106

abbrev idly : ℕ → Phase → Line
idly n p = line n p Idle 0 0 0 []

-- before the opening 17, and at another one, in NULL, 20, whatever the fields; an opening with a bad field is 3
in_its_time : run unopened_call (Expiry ∷ Time 86401 ∷ Opening 0 32 room ∷ Opening 0 8 room ∷ Opening 9 99 absent ∷ Opening 1 8 room ∷ [])
    ≡ idly 17 Unopened ∷ idly 17 Unopened ∷ idly 3 Unopened ∷ idly 0 Null ∷ idly 20 Null ∷ idly 20 Null ∷ []
in_its_time = refl

-- what an event without a row is told at an originating call in ANSWERED, IDLE
abbrev reason_for : Event → ℕ
reason_for e = (step_of (talked 40) e).number

-- at any time: an IAM; an answer of the own access. In another phase: a basic call; an answer. In another REV state: A and C, an expiry
reasons : (reason_for (Received (plain iam 0 (Absent 0))) ≡ 1) × (reason_for (FromAccess 5 0) ≡ 1) × (reason_for (Ask 0 room) ≡ 15)
    × (reason_for (Received (plain anm 0 (Absent 0))) ≡ 15) × (reason_for (Ask 1 room) ≡ 16) × (reason_for (Ask 3 absent) ≡ 16)
    × (reason_for Expiry ≡ 16)
reasons = (refl, refl, refl, refl, refl, refl, refl)

-- a cleared call: no REV state but IDLE, so never 16
reasons_at_the_end : run (talked 40) (FromAccess 4 0 ∷ Expiry ∷ Received (plain iam 0 (Absent 0)) ∷ [])
    ≡ line 0 Cleared Idle 40 0 0 (does Stop ∷ sends (plain rel normal_clearing (Absent 0)) ∷ [])
    ∷ line 15 Cleared Idle 40 0 0 [] ∷ line 1 Cleared Idle 40 0 0 [] ∷ []
reasons_at_the_end = refl

-- ---- A freed call taken again, 02 #107

-- a slot in use: in SETUP and in ANSWERED an opening is 20, also with a bad field, and the call stays
in_use : run unopened_call
    (Opening 0 8 room ∷ Ask 0 room ∷ Opening 1 8 room ∷ Received (plain anm 0 (Absent 0)) ∷ Time 40 ∷ Opening 0 32 room ∷ [])
    ≡ idly 0 Null
    ∷ line 0 Setup Idle 0 0 0 (sends (plain iam 0 (Absent 0)) ∷ [])
    ∷ idly 20 Setup
    ∷ line 0 Answered Idle 0 0 0 (does ChargeCalling ∷ [])
    ∷ line 0 Answered Idle 40 0 0 []
    ∷ line 20 Answered Idle 40 0 0 []
    ∷ []
in_use = refl

-- the call has cleared: an opening with a bad field is 3 and the cleared call stays; one in range starts anew, here as a destination, with no
-- second left, and another in NULL is 20 ..
abbrev reopened : List Event
reopened = FromAccess 4 0 ∷ Opening 0 32 room ∷ Opening 1 8 room ∷ Opening 0 8 room ∷ []

taken_again : run (talked 40) reopened
    ≡ line 0 Cleared Idle 40 0 0 (does Stop ∷ sends (plain rel normal_clearing (Absent 0)) ∷ [])
    ∷ line 3 Cleared Idle 40 0 0 [] ∷ idly 0 Null ∷ idly 20 Null ∷ []
taken_again = refl

-- .. the total is 0 too: the call is the one that the opening makes of a call that was never opened
nothing_left : (total_of (after (talked 40) (FromAccess 4 0 ∷ [])) ≡ 40) × (total_of (after (talked 40) reopened) ≡ 0)
    × (after (talked 40) reopened ≡ (step_of unopened_call (Opening 1 8 room)).call)
nothing_left = (refl, refl, refl)

-- "first bad field first; a number is one field"
abbrev field : Event → ℕ
field e = (step_of (talked 40) e).field

fields : ((step_of unopened_call (Opening 2 32 absent)).field ≡ 1) × ((step_of unopened_call (Opening 1 32 absent)).field ≡ 2)
    × ((step_of unopened_call (Opening 1 31 absent)).field ≡ 3) × (field (Ask 4 absent) ≡ 1) × (field (Ask 1 absent) ≡ 2) × (field (Ask 2 room) ≡ 2)
    × (field (FromAccess 6 1) ≡ 1) × (field (FromAccess 4 1) ≡ 2) × (field (Time 86401) ≡ 1) × (field (Time 86400) ≡ 0)
fields = (refl, refl, refl, refl, refl, refl, refl, refl, refl, refl)

-- a message: kind, cause, component, operation or error, parts (a number or Duration that they do not name too), then those present
fields_of_a_message : (field (Received (message 6 128 (Unknown 5 9) 128 absent absent 0)) ≡ 1)
    × (field (Received (message fac 128 (Unknown 5 9) 128 absent absent 0)) ≡ 2)
    × (field (Received (message fac 0 (Unknown 5 9) 128 absent absent 0)) ≡ 3)
    × (field (Received (message fac 0 (Invoke 4) 128 absent absent 0)) ≡ 4)
    × (field (Received (message fac 0 (Invoke 3) 4 absent absent 0)) ≡ 5)
    × (field (Received (message fac 0 (Invoke 3) calling_part absent room 0)) ≡ 5)
    × (field (Received (message fac 0 (Invoke 3) calling_part absent absent 7)) ≡ 5)
    × (field (Received (message fac 0 (Invoke 3) (calling_part + called_part) absent absent 0)) ≡ 6)
    × (field (Received (message fac 0 (Invoke 3) (calling_part + called_part) room absent 0)) ≡ 7)
    × (field (Received (message fac 0 (Invoke 3) called_part absent absent 0)) ≡ 6)
    × (field (Received (message fac 0 (Invoke 3) called_part absent room 0)) ≡ 0)
fields_of_a_message = (refl, refl, refl, refl, refl, refl, refl, refl, refl, refl, refl)

-- the ends of each range: 0 where every field is in it
abbrev digits : ℕ → ℕ → Number
digits count value = record { nature = National; count = count; value = value }

ends : (field (Ask 0 (digits 15 999999999999999)) ≡ 0) × (field (Ask 0 (digits 16 0)) ≡ 2) × (field (Ask 0 (digits 7 10000000)) ≡ 2)
    × (field (Ask 3 room) ≡ 2) × (field (FromAccess 0 0) ≡ 1) × (field (FromAccess 2 255) ≡ 0) × (field (FromAccess 1 1) ≡ 2)
    × (field (FromAccess 3 1) ≡ 2) × (field (FromAccess 5 1) ≡ 2)
ends = (refl, refl, refl, refl, refl, refl, refl, refl, refl)

ends_of_a_message : (field (Received (plain 0 0 (Absent 0))) ≡ 1) × (field (Received (plain fac 127 (Absent 0))) ≡ 0)
    × (field (Received (plain fac 0 (Absent 1))) ≡ 4) × (field (Received (plain fac 0 (Invoke 0))) ≡ 4)
    × (field (Received (plain fac 0 (Result 0))) ≡ 4) × (field (Received (plain fac 0 (Result 3))) ≡ 0)
    × (field (Received (plain fac 0 (Result 4))) ≡ 4) × (field (Received (plain fac 0 (Error 255))) ≡ 0)
    × (field (Received (plain fac 0 (Reject 1))) ≡ 4)
    × (field (Received (message fac 0 (Invoke 3) 127 room room 4294967295)) ≡ 0)
    × (field (Received (message fac 0 (Invoke 3) 128 absent absent 0)) ≡ 5)
    × (field (Received (message fac 0 (Invoke 3) called_part room room 0)) ≡ 5)
ends_of_a_message = (refl, refl, refl, refl, refl, refl, refl, refl, refl, refl, refl, refl)

-- ---- STOP in D42 and D52: from an opening the far exchange pays in these states, but a host may hand in a call that the called user pays

abbrev paid_here : RevState → Call
paid_here state =
    record {
      side = record { role = Role.Destination; flags = flags_of 8; own = room; calling = absent; called = absent };
      stand = at Answered state false false;
      meters = record { caller = 0; called = 40; far = 0; payer = Payer.Called; total = 40 };
    }

-- D42: the own user is asked, and her access clears
cleared_while_asked : run (paid_here WaitActiveConf) (FromAccess 4 0 ∷ [])
    ≡ line 0 Cleared Idle 0 40 0 (does Stop ∷ sends (plain rel normal_clearing (Error basic_service_not_provided)) ∷ []) ∷ []
cleared_while_asked = refl

-- D52: the originating exchange is asked, and releases the call with cause 31
released_while_asking : run (paid_here WaitCalled) (Received (plain rel 31 (Absent 0)) ∷ [])
    ≡ line 0 Cleared Idle 0 40 0 (tells AccessError basic_service_not_provided ∷ tells AccessRel 31 ∷ does Stop ∷ []) ∷ []
released_while_asking = refl
