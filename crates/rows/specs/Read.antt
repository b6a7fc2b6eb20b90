-- What an event says to the tables and to the rows.
-- Assumes nothing.
use Rattle.std.specs.Prelude.{ℕ, ◌/◌, ◌%◌, Bool, true, false, ◌&&◌, ◌||◌, not, eqb, leb}
use Rattle.rows.specs.Numbers.{user_not_subscribed, rejected_by_network, rejected_by_user, not_available, interaction_not_allowed}
use Rattle.rows.specs.Numbers.{basic_service_not_provided, resource_unavailable, user_ignored, already_running, normal_clearing, iam, anm}
use Rattle.rows.specs.Numbers.{con, rel, calling_req_setup, calling_req_active, called_request, calling_part, called_part, accepted_part}
use Rattle.rows.specs.Numbers.{as_transfer_part, partial_part, duration_part}
use Rattle.rows.specs.Telephone.{absent}
use Rattle.rows.specs.declared.Asked.{Asked}
use Rattle.rows.specs.declared.Component.{Component}
use Rattle.rows.specs.declared.Component.TheVariants.{Absent, Invoke, Result, Error, Reject, Unknown}
use Rattle.rows.specs.declared.Correctness.{Correctness}
use Rattle.rows.specs.declared.Correctness.TheVariants.{Correct, Incorrect}
use Rattle.rows.specs.declared.Cue.{Cue}
use Rattle.rows.specs.declared.Event.{Event}
use Rattle.rows.specs.declared.Event.TheVariants.{Opening, Ask, Received, FromAccess, Expiry, Time}
use Rattle.rows.specs.declared.Extent.{Extent}
use Rattle.rows.specs.declared.Extent.TheVariants.{Rest, Entire}
use Rattle.rows.specs.declared.Flags.{Flags}
use Rattle.rows.specs.declared.Heard.{Heard}
use Rattle.rows.specs.declared.Interaction.{Interaction}
use Rattle.rows.specs.declared.Interaction.TheVariants.{Allowed, NotAllowed}
use Rattle.rows.specs.declared.Judged.{Judged}
use Rattle.rows.specs.declared.Judged.TheVariants.{Passed, NotSubscribed, InteractionNotAllowed}
use Rattle.rows.specs.declared.Kind.{Kind}
use Rattle.rows.specs.declared.Kind.TheVariants.{Opens, Asks, Iam, Answer, Rel, Fac, Tells, Expires, Passes}
use Rattle.rows.specs.declared.Message.{Message}
use Rattle.rows.specs.declared.Mode.{Mode}
use Rattle.rows.specs.declared.Mode.TheVariants.{NoTransfer, Transfer}
use Rattle.rows.specs.declared.Reading.{Reading}
use Rattle.rows.specs.declared.Service.{Service}
use Rattle.rows.specs.declared.Service.TheVariants.{OnRequest, Unconditional}
use Rattle.rows.specs.declared.Stand.{Stand}
use Rattle.rows.specs.declared.Terms.{Terms}
use Rattle.rows.specs.declared.Told.{Told}

-- part or flag k, a power of two, is among those of n
abbrev pub bit : ℕ → ℕ → Bool
bit k n = eqb ((n / k) % 2) 1

abbrev pub lowest : ℕ → Bool
lowest n = eqb (n % 2) 1

-- 01, kind 1: 1 transfer, 2 subscription option, 4 subscribed, 8 interaction allowed, 16 case D
abbrev pub flags_of : ℕ → Flags
flags_of n = record { transfer = lowest n; option = bit 2 n; subscribed = bit 4 n; interaction = bit 8 n; unconditional = bit 16 n }

-- 01, kind 2: 0 basic call, 1 A, 2 B, 3 C
abbrev pub asked_of : ℕ → Asked
asked_of n = record { basic = eqb n 0; casea = eqb n 1; caseb = eqb n 2; casec = eqb n 3; reversal = leb 1 n && leb n 3 }

-- 01, kind 4: 1 accept, 2 error, 3 reject, 4 clear, 5 answer without REV
abbrev pub told_of : ℕ → Told
told_of n = record { accepts = eqb n 1; refuses = eqb n 2; rejects = eqb n 3; clears = eqb n 4; answers = eqb n 5 }

-- 01, kind 3: the component, with the operation n of an invoke or a result
abbrev pub heard_by : Bool → Bool → Bool → Bool → Bool → ℕ → Heard
heard_by alone invoke result failure rejection n =
    record {
      alone = alone;
      invoke = invoke;
      invokesetup = invoke && eqb n calling_req_setup;
      invokeactive = invoke && eqb n calling_req_active;
      invokecalled = invoke && eqb n called_request;
      resultsetup = result && eqb n calling_req_setup;
      resultactive = result && eqb n calling_req_active;
      resultcalled = result && eqb n called_request;
      failure = failure;
      rejection = rejection;
    }

abbrev pub heard_of : Component → Heard
heard_of (Absent n) = heard_by true false false false false n
heard_of (Invoke n) = heard_by false true false false false n
heard_of (Result n) = heard_by false false true false false n
heard_of (Error n) = heard_by false false false true false n
heard_of (Reject n) = heard_by false false false false true n
heard_of (Unknown k n) = heard_by false false false false false n

-- 01, kind 3: IAM; ANM or CON; REL; FAC
abbrev pub kind_by : Bool → Bool → Bool → Kind
kind_by true a r = Iam
kind_by false true r = Answer
kind_by false false true = Rel
kind_by false false false = Fac

abbrev pub kind_of : ℕ → Kind
kind_of n = kind_by (eqb n iam) (eqb n anm || eqb n con) (eqb n rel)

abbrev pub error_of : Component → ℕ
error_of (Absent n) = 0
error_of (Invoke n) = 0
error_of (Result n) = 0
error_of (Error n) = n
error_of (Reject n) = 0
error_of (Unknown k n) = 0

abbrev pub plain_of : Kind → ℕ → ℕ → ℕ → ℕ → Reading
plain_of kind item error cause seconds =
    record {
      kind = kind;
      item = item;
      flags = 0;
      component = Absent 0;
      parts = 0;
      error = error;
      cause = cause;
      seconds = seconds;
      own = absent;
      calling = absent;
      called = absent;
    }

abbrev pub read_message : Message → Reading
read_message m =
    record {
      kind = kind_of m.kind;
      item = 0;
      flags = 0;
      component = m.component;
      parts = m.parts;
      error = error_of m.component;
      cause = m.cause;
      seconds = m.duration;
      own = absent;
      calling = m.calling;
      called = m.called;
    }

-- the access gives no cause: "16 if none"
abbrev pub read_of : Event → Reading
read_of (Opening r f n) =
    record {
      kind = Opens;
      item = r;
      flags = f;
      component = Absent 0;
      parts = 0;
      error = 0;
      cause = 0;
      seconds = 0;
      own = n;
      calling = absent;
      called = absent;
    }
read_of (Ask q n) =
    record {
      kind = Asks;
      item = q;
      flags = 0;
      component = Absent 0;
      parts = 0;
      error = 0;
      cause = 0;
      seconds = 0;
      own = absent;
      calling = absent;
      called = n;
    }
read_of (Received m) = read_message m
read_of (FromAccess a n) = plain_of Tells a n normal_clearing 0
read_of Expiry = plain_of Expires 0 0 0 0
read_of (Time s) = plain_of Passes 0 0 0 s

abbrev pub cue_of : Reading → Cue
cue_of r = record { kind = r.kind; asked = asked_of r.item; heard = heard_of r.component; told = told_of r.item }

-- "A valid error is one listed in 001's module" (3.4.2)
abbrev pub listed_of : ℕ → Bool
listed_of n =
    eqb n user_not_subscribed || (eqb n rejected_by_network || (eqb n rejected_by_user || (eqb n not_available || (eqb n interaction_not_allowed
    || (eqb n basic_service_not_provided || (eqb n resource_unavailable || (eqb n user_ignored || eqb n already_running)))))))

-- ---- What the rows look at, in words

abbrev pub interaction_by : Bool → Interaction
interaction_by true = Allowed
interaction_by false = NotAllowed

-- 01: "not subscribed (judged only under flag 2), or interaction not allowed", in this order
abbrev pub judged_by : Bool → Bool → Judged
judged_by true allowed = NotSubscribed
judged_by false true = Passed
judged_by false false = InteractionNotAllowed

abbrev pub mode_by : Bool → Mode
mode_by true = Transfer
mode_by false = NoTransfer

-- "B and C differ at the originating exchange by "partial call only" in the invoke"
abbrev pub extent_by : Bool → Extent
extent_by true = Rest
extent_by false = Entire

abbrev pub service_by : Bool → Service
service_by true = Unconditional
service_by false = OnRequest

abbrev pub correct_by : Bool → Correctness
correct_by true = Correct
correct_by false = Incorrect

-- taken: "It asks for transfer, or accepts it, when its flag says so"; accepted: "No transfer where none was asked, even if the
-- result claims it, or where Transfer Accepted is absent. It is sent only as parts 2 and 4 together"
abbrev pub terms_of : Flags → Stand → Reading → Terms
terms_of flags at r =
    record {
      interaction = interaction_by flags.interaction;
      judged = judged_by (flags.option && not flags.subscribed) flags.interaction;
      mode = mode_by flags.transfer;
      service = service_by flags.unconditional;
      taken = mode_by (flags.transfer && lowest r.parts);
      accepted = mode_by (flags.transfer && (bit accepted_part r.parts && bit as_transfer_part r.parts));
      extent = extent_by (bit partial_part r.parts);
      agreed = mode_by at.agreed;
      asked = extent_by at.rest;
      called = lowest r.parts || bit called_part r.parts;
      calling = bit calling_part r.parts;
      duration = bit duration_part r.parts;
      correct = correct_by (listed_of r.error);
      error = r.error;
      cause = r.cause;
    }
