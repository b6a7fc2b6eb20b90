-- Which calls the table of document 01 allows (else 9), and which events have their fields in range (else 3).
-- Assumes nothing.
use Rattle.std.specs.Prelude.{ℕ, zero, suc, Option, Some, None, ◌^◌, Bool, true, false, ◌&&◌, ◌||◌, not, List, [], ◌∷◌, ltb, leb, eqb}
use Rattle.rows.specs.Numbers.{day, calling_part, called_part, duration_part}
use Rattle.rows.specs.Read.{bit}
use Rattle.rows.specs.Telephone.{national}
use Rattle.meters.specs.declared.Meters.{Meters}
use Rattle.meters.specs.declared.Payer.{Payer}
use Rattle.meters.specs.declared.Payer.TheVariants.{Nobody, Caller, Called, Far}
use Rattle.meters.specs.Meters.{within_of, total_within_of, adds_up_of}
use Rattle.rows.specs.declared.Role.{Role}
use Rattle.rows.specs.declared.Role.TheVariants.{Originating, Destination}
use Rattle.rows.specs.declared.Phase.{Phase}
use Rattle.rows.specs.declared.Phase.TheVariants.{Unopened, Null, Setup, Answered, Cleared}
use Rattle.rows.specs.declared.RevState.{RevState}
use Rattle.rows.specs.declared.RevState.TheVariants.{Idle, WaitSetup, WaitActive, WaitAnswer, Active, WaitSetupConf, WaitActiveConf}
use Rattle.rows.specs.declared.RevState.TheVariants.{WaitCalled}
use Rattle.rows.specs.declared.Number.{Number}
use Rattle.rows.specs.declared.Message.{Message}
use Rattle.rows.specs.declared.Call.{Call}
use Rattle.rows.specs.declared.Component.{Component}
use Rattle.rows.specs.declared.Component.TheVariants.{Absent, Invoke, Result, Error, Reject, Unknown}
use Rattle.rows.specs.declared.Side.{Side}
use Rattle.rows.specs.declared.Event.{Event}
use Rattle.rows.specs.declared.Event.TheVariants.{Opening, Ask, Received, FromAccess, Expiry, Time}

-- ---- 9: a call that a host hands in. The table of phases and REV states

-- NONE, NULL, CLEARED: IDLE
abbrev pub idle_only : RevState → Bool
idle_only Idle = true
idle_only WaitSetup = false
idle_only WaitActive = false
idle_only WaitAnswer = false
idle_only Active = false
idle_only WaitSetupConf = false
idle_only WaitActiveConf = false
idle_only WaitCalled = false

-- SETUP, originating: IDLE, WAIT-SETUP, WAIT-ANSWER
abbrev pub originating_setup : RevState → Bool
originating_setup Idle = true
originating_setup WaitSetup = true
originating_setup WaitActive = false
originating_setup WaitAnswer = true
originating_setup Active = false
originating_setup WaitSetupConf = false
originating_setup WaitActiveConf = false
originating_setup WaitCalled = false

-- ANSWERED, originating: IDLE, WAIT-ACTIVE, ACTIVE
abbrev pub originating_answered : RevState → Bool
originating_answered Idle = true
originating_answered WaitSetup = false
originating_answered WaitActive = true
originating_answered WaitAnswer = false
originating_answered Active = true
originating_answered WaitSetupConf = false
originating_answered WaitActiveConf = false
originating_answered WaitCalled = false

-- SETUP, destination: IDLE, WAIT-SETUP-CONF, WAIT-CALLED, WAIT-ANSWER
abbrev pub destination_setup : RevState → Bool
destination_setup Idle = true
destination_setup WaitSetup = false
destination_setup WaitActive = false
destination_setup WaitAnswer = true
destination_setup Active = false
destination_setup WaitSetupConf = true
destination_setup WaitActiveConf = false
destination_setup WaitCalled = true

-- ANSWERED, destination: IDLE, WAIT-ACTIVE-CONF, WAIT-CALLED, ACTIVE
abbrev pub destination_answered : RevState → Bool
destination_answered Idle = true
destination_answered WaitSetup = false
destination_answered WaitActive = false
destination_answered WaitAnswer = false
destination_answered Active = true
destination_answered WaitSetupConf = false
destination_answered WaitActiveConf = true
destination_answered WaitCalled = true

-- the table of phases and REV states
abbrev pub placed_of : Role → Phase → RevState → Bool
placed_of r Unopened s = idle_only s
placed_of r Null s = idle_only s
placed_of Originating Setup s = originating_setup s
placed_of Destination Setup s = destination_setup s
placed_of Originating Answered s = originating_answered s
placed_of Destination Answered s = destination_answered s
placed_of r Cleared s = idle_only s

-- one of two numbers
abbrev pub pickℕ : Bool → ℕ → ℕ → ℕ
pickℕ true a b = a
pickℕ false a b = b

-- ten to the count, up to 15 digits
abbrev pub ten_to : ℕ → ℕ
ten_to n = pickℕ (leb n 15) (10 ^ n) 0

-- 01: a value "below 10 to the count"; 02 #103: "A count of 0 has the bit clear"
abbrev pub in_range : Number → Bool
in_range n = ltb n.value (ten_to n.count) && (national n.nature || leb 1 n.count)

-- 9: "a meter above 0 before ANSWERED"; 02 #104: a total "above 0 before ANSWERED"
abbrev pub unmetered : Meters → Bool
unmetered m = eqb m.caller 0 && eqb m.called 0 && eqb m.far 0 && eqb m.total 0

-- 9: "a payer outside ANSWERED, or in it at a destination none of called and far"
abbrev pub payer_nobody : Payer → Bool
payer_nobody Nobody = true
payer_nobody Caller = false
payer_nobody Called = false
payer_nobody Far = false

abbrev pub payer_there : Payer → Bool
payer_there Nobody = false
payer_there Caller = false
payer_there Called = true
payer_there Far = true

-- 9, from ANSWERED on, by role. 02 #104: "A call handed in with an originating total that differs is refused", that is, differs from the
-- three meters' sum; so it has the sum's limit. A destination's is not compared with its meters, which a Duration sets: "any total above
-- 31,536,000"; and 01: "a destination's caller above 0"
abbrev pub tallied : Role → Meters → Bool
tallied Originating m = adds_up_of m
tallied Destination m = eqb m.caller 0 && total_within_of m

abbrev pub metered_of : Role → Phase → Meters → Bool
metered_of r Unopened m = unmetered m
metered_of r Null m = unmetered m
metered_of r Setup m = unmetered m
metered_of r Answered m = tallied r m
metered_of r Cleared m = tallied r m

-- 02 #108: an ANSWERED originating call "with nobody as payer" is "not a call state"
abbrev pub paying_there : Role → Payer → Bool
paying_there Originating p = not (payer_nobody p)
paying_there Destination p = payer_there p

abbrev pub paying_of : Role → Phase → Payer → Bool
paying_of r Unopened p = payer_nobody p
paying_of r Null p = payer_nobody p
paying_of r Setup p = payer_nobody p
paying_of r Answered p = paying_there r p
paying_of r Cleared p = payer_nobody p

-- 9: "a held number neither absent nor in range"
abbrev pub numbers_held : Side → Bool
numbers_held s = in_range s.own && (in_range s.calling && in_range s.called)

-- a call that step takes: else 9
abbrev pub valid_of : Call → Bool
valid_of c =
    placed_of c.side.role c.stand.phase c.stand.rev && (metered_of c.side.role c.stand.phase c.meters
    && (within_of c.meters && (paying_of c.side.role c.stand.phase c.meters.payer && numbers_held c.side)))

-- ---- 3: a field out of its range. 02 #106: "give the field's ordinal in the body as well, first bad field first; a number is one field".
-- So each kind of record has the list of its body's fields, in order: for each whether it is in range

abbrev pub every_one : List Bool → Bool
every_one [] = true
every_one (b ∷ bs) = b && every_one bs

-- the ordinal of the first that is not, counted from k on; 0 if there is none
abbrev pub first_false : ℕ → List Bool → ℕ
first_false k [] = 0
first_false k (b ∷ bs) = pickℕ b (first_false (suc k) bs) k

-- an ordinal as it is answered: 0, which is none, is None
abbrev pub ordinal : ℕ → Option ℕ
ordinal zero = None
ordinal (suc k) = Some (suc k)

-- "count 1 to 15", value "below 10 to the count", of either nature
abbrev pub number_there : Number → Bool
number_there n = in_range n && leb 1 n.count

-- "or 0 with value 0 where stated"; 02 #103: "A count of 0 has the bit clear"
abbrev pub number_absent : Number → Bool
number_absent n = eqb n.count 0 && (eqb n.value 0 && national n.nature)

abbrev pub number_if : Bool → Number → Bool
number_if b n = (b && number_there n) || (not b && number_absent n)

-- kind 1: role 0 or 1; flags 1 to 16 and their sums; own number
abbrev pub opening_ranges : ℕ → ℕ → Number → List Bool
opening_ranges r f n = leb r 1 ∷ leb f 31 ∷ number_there n ∷ []

-- kind 2: 0 to 3; "called number for 0 and 1, count 0 for 2 and 3"
abbrev pub ask_ranges : ℕ → Number → List Bool
ask_ranges q n = leb q 3 ∷ number_if (leb q 1) n ∷ []

-- kind 3: "component 0 none, 1 invoke, 2 result, 3 error, 4 reject"
abbrev pub code_ok : Component → Bool
code_ok (Absent n) = true
code_ok (Invoke n) = true
code_ok (Result n) = true
code_ok (Error n) = true
code_ok (Reject n) = true
code_ok (Unknown k n) = false

-- "operation (1 SETUP, 2 ACTIVE, 3 CALLED) or error number, else 0"; of a component that is none of these nothing is asked
abbrev pub item_ok : Component → Bool
item_ok (Absent n) = eqb n 0
item_ok (Invoke n) = leb 1 n && leb n 3
item_ok (Result n) = leb 1 n && leb n 3
item_ok (Error n) = true
item_ok (Reject n) = eqb n 0
item_ok (Unknown k n) = true

-- "Part 4 without part 2 is a bad field"; and a number or Duration is there only where a part names it
abbrev pub parts_ok : Message → Bool
parts_ok m =
    (leb m.parts 127 && (bit 2 m.parts || not (bit 4 m.parts))) && ((bit calling_part m.parts || number_absent m.calling)
    && ((bit called_part m.parts || number_absent m.called) && (bit duration_part m.parts || eqb m.duration 0)))

-- a field that stands in the body where its part is there
abbrev pub present_then : Bool → Bool → List Bool → List Bool
present_then true ok rest = ok ∷ rest
present_then false ok rest = rest

-- "then those present": the calling number, the called number, the Duration, of which four bytes may be any
abbrev pub carried_ranges : Message → List Bool
carried_ranges m =
    present_then (bit calling_part m.parts) (number_there m.calling) (present_then (bit called_part m.parts) (number_there m.called)
    (present_then (bit duration_part m.parts) true []))

-- kind 3: message 1 to 5; cause 0 to 127; component; operation or error; parts; what they name
abbrev pub message_ranges : Message → List Bool
message_ranges m =
    (leb 1 m.kind && leb m.kind 5) ∷ leb m.cause 127 ∷ code_ok m.component ∷ item_ok m.component ∷ parts_ok m ∷ carried_ranges m

-- kind 4: 1 to 5; "error number, 0 but for 2"
abbrev pub access_ranges : ℕ → ℕ → List Bool
access_ranges a n = (leb 1 a && leb a 5) ∷ (eqb a 2 || eqb n 0) ∷ []

-- kind 6: 0 to 86,400 seconds, a day
abbrev pub time_ranges : ℕ → List Bool
time_ranges s = leb s day ∷ []

abbrev pub ranges_of : Event → List Bool
ranges_of (Opening r f n) = opening_ranges r f n
ranges_of (Ask q n) = ask_ranges q n
ranges_of (Received m) = message_ranges m
ranges_of (FromAccess a n) = access_ranges a n
ranges_of Expiry = []
ranges_of (Time s) = time_ranges s

-- an event whose fields are in range: else 3 ..
abbrev pub event_ok : Event → Bool
event_ok e = every_one (ranges_of e)

-- .. and the ordinal of the first field that is not, from 1; 0 where all are
abbrev pub bad_field_of : Event → ℕ
bad_field_of e = first_false 1 (ranges_of e)
