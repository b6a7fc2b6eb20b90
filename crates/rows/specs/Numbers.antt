-- The numbers of the papers, each behind one name.
-- Assumes nothing.
use Rattle.std.specs.Prelude.{ℕ}

-- 01, "Numbers given back": a row applied, or why not. 02 #106: "1 stays for an event that has no row in this role at any time"
abbrev pub applied : ℕ
applied = 0

abbrev pub no_row : ℕ
no_row = 1

abbrev pub too_much : ℕ
too_much = 2

abbrev pub bad_field : ℕ
bad_field = 3

abbrev pub part_absent : ℕ
part_absent = 4

abbrev pub not_a_call : ℕ
not_a_call = 9

-- 02 #106, beside 01's "Numbers given back": "15 is for the wrong phase", "16 for the wrong REV state"
abbrev pub wrong_phase : ℕ
wrong_phase = 15

abbrev pub wrong_state : ℕ
wrong_state = 16

-- 02 #106, beside 01's "Numbers given back": "An event before the opening gets 17"
abbrev pub before_opening : ℕ
before_opening = 17

-- 02 #107, beside 01's "Numbers given back": "20 slot in use", "20 in 18's place"
abbrev pub slot_in_use : ℕ
slot_in_use = 20

-- 01, kind 3: messages
abbrev pub iam : ℕ
iam = 1

abbrev pub anm : ℕ
anm = 2

abbrev pub con : ℕ
con = 3

abbrev pub rel : ℕ
rel = 4

abbrev pub fac : ℕ
fac = 5

-- 001, 3.4.2: operation values
abbrev pub calling_req_setup : ℕ
calling_req_setup = 1

abbrev pub calling_req_active : ℕ
calling_req_active = 2

abbrev pub called_request : ℕ
called_request = 3

-- 001, 3.4.2: error values, in the module's order
abbrev pub user_not_subscribed : ℕ
user_not_subscribed = 4

abbrev pub rejected_by_network : ℕ
rejected_by_network = 5

abbrev pub rejected_by_user : ℕ
rejected_by_user = 6

abbrev pub not_available : ℕ
not_available = 7

abbrev pub interaction_not_allowed : ℕ
interaction_not_allowed = 8

abbrev pub basic_service_not_provided : ℕ
basic_service_not_provided = 9

abbrev pub resource_unavailable : ℕ
resource_unavailable = 10

abbrev pub user_ignored : ℕ
user_ignored = 11

abbrev pub already_running : ℕ
already_running = 12

-- Q.850: cause values: normal clearing, facility rejected, recovery on timer expiry
abbrev pub normal_clearing : ℕ
normal_clearing = 16

abbrev pub facility_rejected : ℕ
facility_rejected = 29

abbrev pub timer_expiry : ℕ
timer_expiry = 102

-- 01, kind 3: parts. Transfer is accepted as parts 2 and 4 together
abbrev pub no_part : ℕ
no_part = 0

abbrev pub transfer_part : ℕ
transfer_part = 1

abbrev pub accepted_part : ℕ
accepted_part = 2

abbrev pub as_transfer_part : ℕ
as_transfer_part = 4

abbrev pub agreed_parts : ℕ
agreed_parts = 6

abbrev pub partial_part : ℕ
partial_part = 8

abbrev pub calling_part : ℕ
calling_part = 16

abbrev pub called_part : ℕ
called_part = 32

abbrev pub duration_part : ℕ
duration_part = 64

-- 01, kind 6: a time event has at most a day
abbrev pub day : ℕ
day = 86400
