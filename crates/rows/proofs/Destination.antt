-- THE DESTINATION'S SECONDS: called and far of a destination's call are what its history says, and its caller's meter is 0.
-- Of the meters it uses what their crate promises, Rattle.meters.proofs.Laws; of the rows, their definitions.
-- Assumes nothing.
use mathlib.Core.Path.{◌≡◌, refl, sym, ◌∙◌, ap, subst}
use mathlib.Core.Bool.{Bool, true, false, ◌&&◌, ◌||◌, not}
use mathlib.Core.List.{List, [], ◌∷◌}
use Prim.Native.Nat.{ℕ, ◌+◌, ◌≤◌}
use native.Mathlib.Omega.{arith}
use lib.Dec.{eqb, leb}
use borrow.Author.Tests.{eqb-true, eqb-false, eq-eqb, leb-true}
use Rattle.std.specs.Prelude.{Option, Some, None}
use Rattle.meters.proofs.Laws.{gave, received}
use Rattle.meters.specs.Meters.{new_of, paid_by_of, give_of, received_of}
use Rattle.meters.specs.declared.Meters.{Meters}
use Rattle.meters.specs.declared.Payer.{Payer}
use Rattle.meters.specs.declared.Payer.TheVariants.{Nobody, Called, Far}
use Rattle.rows.specs.Bill.{pick, Step, accepted, is_answered, is_rev, seconds_in, counted, times, sum, answered, result_to, none_opens}
use Rattle.rows.specs.Find.{when, vacant_of, destination_null_of, destination_setup_idle_of, wait_setup_conf_of, setup_wait_called_of}
use Rattle.rows.specs.Find.{destination_wait_answer_of, destination_answered_idle_of, wait_active_conf_of, answered_wait_called_of, active_of}
use Rattle.rows.specs.History.{run, written, history}
use Rattle.rows.specs.Perform.{perform_of}
use Rattle.rows.specs.Promises.{opening_there, asks_c, entire_asked, gives_transfer, uses_duration, duration_in, Use, unused, used, or_else}
use Rattle.rows.specs.Promises.{last_use, seconds_by, seconds_there, is_unused, no_duration}
use Rattle.rows.specs.Read.{bit, lowest, flags_of, heard_of, kind_by, read_of, cue_of, terms_of, error_of, listed_of, interaction_by, judged_by}
use Rattle.rows.specs.Read.{mode_by, extent_by, service_by, correct_by}
use Rattle.rows.specs.Rows
use Rattle.rows.specs.Rows.{plan_of}
use Rattle.rows.specs.Step.{planned, unopened_call, if_in_range, step_of}
use Rattle.rows.specs.Telephone.{absent}
use Rattle.rows.specs.Valid.{payer_there, event_ok}
use Rattle.rows.specs.declared.Call.{Call}
use Rattle.rows.specs.declared.Component.{Component}
use Rattle.rows.specs.declared.Component.TheVariants.{Absent, Invoke, Result, Error, Reject, Unknown}
use Rattle.rows.specs.declared.Correctness.{Correctness}
use Rattle.rows.specs.declared.Correctness.TheVariants.{Correct, Incorrect}
use Rattle.rows.specs.declared.Cue.{Cue}
use Rattle.rows.specs.declared.Event.{Event}
use Rattle.rows.specs.declared.Event.TheVariants.{Opening, Ask, Received, FromAccess, Expiry, Time}
use Rattle.rows.specs.declared.Heard.{Heard}
use Rattle.rows.specs.declared.Interaction.{Interaction}
use Rattle.rows.specs.declared.Interaction.TheVariants.{Allowed, NotAllowed}
use Rattle.rows.specs.declared.Judged.{Judged}
use Rattle.rows.specs.declared.Judged.TheVariants.{Passed, NotSubscribed, InteractionNotAllowed}
use Rattle.rows.specs.declared.Kind.{Kind}
use Rattle.rows.specs.declared.Kind.TheVariants.{Iam, Answer, Rel, Fac}
use Rattle.rows.specs.declared.Message.{Message}
use Rattle.rows.specs.declared.Mode.{Mode}
use Rattle.rows.specs.declared.Mode.TheVariants.{NoTransfer, Transfer}
use Rattle.rows.specs.declared.Nature.TheVariants.{National}
use Rattle.rows.specs.declared.Number.{Number}
use Rattle.rows.specs.declared.Outcome.{Outcome}
use Rattle.rows.specs.declared.Phase.{Phase}
use Rattle.rows.specs.declared.Phase.TheVariants.{Null, Setup, Answered, Cleared}
use Rattle.rows.specs.declared.Plan.{Plan}
use Rattle.rows.specs.declared.RevState.{RevState}
use Rattle.rows.specs.declared.RevState.TheVariants.{Idle, WaitAnswer, Active, WaitSetupConf, WaitActiveConf, WaitCalled}
use Rattle.rows.specs.declared.Service.{Service}
use Rattle.rows.specs.declared.Service.TheVariants.{OnRequest, Unconditional}
use Rattle.rows.specs.declared.Role.TheVariants.{Destination}
use Rattle.rows.specs.declared.Row.{Row}
use Rattle.rows.proofs.Found.{split, fork, guarded}
use Rattle.rows.proofs.Truth.{differ, left, right, neither_left, neither_right}
use Rattle.rows.proofs.Answers.{performed, settled}
use Rattle.rows.proofs.Stays.{not_callers, somebody}
use Rattle.rows.proofs.Whole.{by_kind, Unopening, first_unopening, rest_unopening}

-- ---- The invariant: a call agrees with the request remembered (w) and the seconds that the history says (x)

abbrev at : ℕ → Number → Number → Number → Phase → RevState → Bool → Bool → Meters → Call
at f u v z ph rv a r m =
    record {
      side = record { role = Destination; flags = flags_of f; own = u; calling = v; called = z };
      stand = record { phase = ph; rev = rv; agreed = a; rest = r };
      meters = m;
    }

record Sum (m : Meters) (x : ℕ) : Type 0 where
  caller : m.caller ≡ 0
  both : m.called + m.far ≡ x

record Right (m : Meters) (x : ℕ) : Type 0 where
  there : payer_there m.payer ≡ true
  sums : Sum m x

data Agrees (f : ℕ) : Call → Bool → ℕ → Type 0 where
  null : {u v z : Number} {a r w : Bool} → Agrees f (at f u v z Null Idle a r new_of) w 0
  setup : {u v z : Number} {a r w : Bool} → Agrees f (at f u v z Setup Idle a r new_of) w 0
  asked_a : {u v z : Number} {a r w : Bool} → Agrees f (at f u v z Setup WaitSetupConf a r new_of) w 0
  asked_d : {u v z : Number} {a r w : Bool} → Agrees f (at f u v z Setup WaitCalled a r new_of) w 0
  waits : {u v z : Number} {a r w : Bool} → Agrees f (at f u v z Setup WaitAnswer a r new_of) w 0
  talks : {u v z : Number} {a r w : Bool} {m : Meters} {x : ℕ} → Right m x → Agrees f (at f u v z Answered Idle a r m) w x
  asked_b : {u v z : Number} {a r w : Bool} {m : Meters} {x : ℕ} → Right m x → Agrees f (at f u v z Answered WaitActiveConf a r m) w x
  -- the rest of the call is pending where it was not the entire call that was asked for
  asked : {u v z : Number} {a r : Bool} {m : Meters} {x : ℕ} → Right m x → Agrees f (at f u v z Answered WaitCalled a r m) (not r) x
  turned : {u v z : Number} {a r w : Bool} {m : Meters} {x : ℕ} → Right m x → Agrees f (at f u v z Answered Active a r m) w x
  over : {u v z : Number} {a r w : Bool} {m : Meters} {x : ℕ} → Sum m x → Agrees f (at f u v z Cleared Idle a r m) w x

-- ---- What a step adds, by what its event says: b, it asks for case C; g, it is a result to CALLED that gives transfer

abbrev remembers : Bool → Bool → Step → Bool
remembers b w s = pick (accepted s && (is_answered s.phase && (is_rev Idle s.rev && is_rev WaitCalled s.rev_after))) b w

abbrev uses_by : Bool → Bool → Step → Bool
uses_by g w s =
    accepted s && (is_answered s.phase && (is_rev WaitCalled s.rev && (is_answered s.phase_after
    && (is_rev Active s.rev_after && (g && w)))))

abbrev counts : Bool → Bool → ℕ → Step → ℕ
counts g w x s = pick (uses_by g w s) (duration_in s.event) (pick (counted s) (x + seconds_in s.event) x)

-- an answer to an event keeps the agreement
abbrev Good : ℕ → Bool → Bool → Call → Bool → ℕ → Event → Outcome → Type 0
Good f b g c w x e o = Agrees f o.call (remembers b w (written c e o)) (counts g w x (written c e o))

-- so does a plan; so does a row
abbrev Does : ℕ → Bool → Bool → Call → Bool → ℕ → Event → Plan → Type 0
Does f b g c w x e p = Good f b g c w x e (perform_of c p (read_of e))

abbrev Fine : ℕ → Bool → Bool → Call → Bool → ℕ → Event → Option Row → Type 0
Fine f b g c w x e row = Does f b g c w x e (planned row (terms_of c.side.flags c.stand (read_of e)))

-- ---- What the meters promise

ticks : {m n : Meters} {x : ℕ} (s : ℕ) → Right m x → give_of m s ≡ Some n → Right n (x + s)
ticks {m} {n} {x} s z h =
    let g = gave m n s (somebody Destination m.payer z.there) h in
    let p = not_callers m.payer s z.there in
    record { there = ap payer_there g.payer ∙ z.there; sums = record { caller = omega arith; both = omega arith } }

switches : {m : Meters} {x : ℕ} (p : Payer) → payer_there p ≡ true → Sum m x → Right (paid_by_of m p) x
switches p h z = record { there = h; sums = record { caller = z.caller; both = z.both } }

receives_duration : {m n : Meters} {x : ℕ} (s : ℕ) → Sum m x → received_of m s ≡ Some n → Right n s
receives_duration {m} {n} s z h =
    let g = received m n s h in
    record { there = ap payer_there g.payer; sums = record { caller = g.caller ∙ z.caller; both = omega (arith, g.called, g.far) } }

begins_far : Right (paid_by_of new_of Far) 0
begins_far = record { there = refl; sums = record { caller = refl; both = refl } }

begins_called : Right (paid_by_of new_of Called) 0
begins_called = record { there = refl; sums = record { caller = refl; both = refl } }

fails : {f : ℕ} {u v z : Number} {a r w : Bool} → Agrees f (at f u v z Cleared Idle a r new_of) w 0
fails = over (record { caller = refl; both = refl })

ends : {f : ℕ} {u v z : Number} {a r w : Bool} {m : Meters} {x : ℕ} → Right m x →
    Agrees f (at f u v z Cleared Idle a r (paid_by_of m Nobody)) w x
ends z = over (record { caller = z.sums.caller; both = z.sums.both })

ruleset states = (null, setup, asked_a, asked_d, waits, talks, asked_b, asked, turned, over, fails, ends, begins_far, begins_called)

-- ---- Plans that turn on flags, parts and what is pending

module _ (f : ℕ) (u v z : Number) (a r w b g : Bool) (l : Message) where
  plan_iam : (d : Service) (i : Interaction) (t : Mode) → Does f b g (at f u v z Null Idle a r new_of) w 0 (Received l) (Rows.plain_iam d i t)
  plan_iam OnRequest i t = search states
  plan_iam Unconditional NotAllowed t = search states
  plan_iam Unconditional Allowed NoTransfer = search states
  plan_iam Unconditional Allowed Transfer = search states

  plan_a : (j : Judged) (t : Mode) (c : Bool) → Does f b g (at f u v z Null Idle a r new_of) w 0 (Received l) (Rows.setup_asked j t c)
  plan_a NotSubscribed t c = search states
  plan_a InteractionNotAllowed t c = search states
  plan_a Passed NoTransfer c = search states
  plan_a Passed Transfer true = search states
  plan_a Passed Transfer false = search states

  accepted_d : (t : Mode) (c : Bool) → Does f b g (at f u v z Setup WaitCalled a r new_of) w 0 (Received l) (Rows.unconditional_accepted t c)
  accepted_d NoTransfer c = search states
  accepted_d Transfer true = search states
  accepted_d Transfer false = search states

  module _ {m : Meters} {x : ℕ} (y : Right m x) where
    plan_b : (j : Judged) (t : Mode) (c : Bool) → Does f b g (at f u v z Answered Idle a r m) w x (Received l) (Rows.active_asked j t c)
    plan_b NotSubscribed t c = search states
    plan_b InteractionNotAllowed t c = search states
    plan_b Passed NoTransfer c = search states
    plan_b Passed Transfer true = search states
    plan_b Passed Transfer false = search states

-- cases B and C accepted: what is pending says which, and the Duration is used in case C alone
module _ (f : ℕ) (u v z : Number) (a b : Bool) (l : Message) {m : Meters} {x : ℕ} (y : Right m x) where
  abbrev Answers : Bool → Bool → Plan → Type 0
  Answers t r p = Does f b t (at f u v z Answered WaitCalled a r m) (not r) x (Received l) p

  accepted_bc : (t c r d : Bool) → Answers t r (Rows.called_accepted (extent_by r) (mode_by t) c d)
  accepted_bc false c r d = search states
  accepted_bc true true true d = turned (switches Called refl y.sums)
  accepted_bc true true false true =
      settled (Good f b true (at f u v z Answered WaitCalled a false m) true x (Received l)) (received_of m l.duration) _ _ _
      (λ n h. turned (receives_duration l.duration y.sums h)) (asked y)
  accepted_bc true true false false = search states
  accepted_bc true false true d = search states
  accepted_bc true false false d = search states

  -- or refused
  refused_bc : (t r : Bool) (k : Correctness) (e : ℕ) → Answers t r (Rows.wait_error k e)
  refused_bc t r Correct e = search states
  refused_bc t r Incorrect e = search states

module _ (f : ℕ) (u v z : Number) (a r w b g : Bool) (k n : ℕ) where
  confirmed_a : (t : Mode) → Does f b g (at f u v z Setup WaitSetupConf a r new_of) w 0 (FromAccess k n) (Rows.setup_confirmed t)
  confirmed_a NoTransfer = search states
  confirmed_a Transfer = search states

  refused_a : (x : Correctness) (e c : ℕ) → Does f b g (at f u v z Setup WaitSetupConf a r new_of) w 0 (FromAccess k n) (Rows.setup_refused x e c)
  refused_a Correct e c = search states
  refused_a Incorrect e c = search states

  connected_d : (t : Mode) → Does f b g (at f u v z Setup WaitAnswer a r new_of) w 0 (FromAccess k n) (Rows.unconditional_connected t)
  connected_d NoTransfer = search states
  connected_d Transfer = search states

  module _ {m : Meters} {x : ℕ} (y : Right m x) where
    confirmed-B : (t : Mode) → Does f b g (at f u v z Answered WaitActiveConf a r m) w x (FromAccess k n) (Rows.active_confirmed t)
    confirmed-B NoTransfer = search states
    confirmed-B Transfer = turned (switches Called refl y.sums)

    refused-B : (c : Correctness) (e : ℕ) → Does f b g (at f u v z Answered WaitActiveConf a r m) w x (FromAccess k n) (Rows.active_refused c e)
    refused-B Correct e = search states
    refused-B Incorrect e = search states

-- cases B (p) and C asked for: which of them is what is remembered
module _ (f : ℕ) (u v z : Number) (a r w g : Bool) (q : ℕ) (n : Number) {m : Meters} {x : ℕ} (y : Right m x) where
  plan_called : (p : Bool) (j : Judged) (t : Mode) →
      Does f (not p) g (at f u v z Answered Idle a r m) w x (Ask q n) (Rows.ask_called j (extent_by p) t)
  plan_called p NotSubscribed t = search states
  plan_called p InteractionNotAllowed t = search states
  plan_called true Passed NoTransfer = search states
  plan_called true Passed Transfer = search states
  plan_called false Passed NoTransfer = search states
  plan_called false Passed Transfer = search states

-- ---- Each event in each state

-- a FAC (5) with a result to CALLED that gives transfer, by the rows' own tests
abbrev transferred : ℕ → Message → Bool
transferred f m = lowest f && (bit 2 m.parts && bit 4 m.parts)

abbrev heard_in : ℕ → Event → Bool
heard_in f (Opening r g n) = false
heard_in f (Ask q n) = false
heard_in f (Received m) = eqb m.kind 5 && ((heard_of m.component).resultcalled && transferred f m)
heard_in f (FromAccess a n) = false
heard_in f Expiry = false
heard_in f (Time s) = false

same_tests : (x : Component) → (heard_of x).resultcalled ≡ result_to 3 x
same_tests (Absent n) = refl
same_tests (Invoke n) = refl
same_tests (Result n) = refl
same_tests (Error n) = refl
same_tests (Reject n) = refl
same_tests (Unknown k n) = refl

same_words : (f : ℕ) (e : Event) → heard_in f e ≡ gives_transfer f e
same_words f (Opening r g n) = refl
same_words f (Ask q n) = refl
same_words f (Received m) = ap (λ (b : Bool). eqb m.kind 5 && (b && transferred f m)) (same_tests m.component)
same_words f (FromAccess a n) = refl
same_words f Expiry = refl
same_words f (Time s) = refl

-- an event's row keeps the agreement
abbrev Kept : ℕ → Call → Bool → ℕ → Event → Type 0
Kept f c w x e = Good f (asks_c e) (heard_in f e) c w x e (performed c e)

-- an opening is accepted at a cleared call alone: there another call begins
reopens : (f k h : ℕ) (n : Number) {c : Call} {w : Bool} {x : ℕ} → Agrees f c w x → Unopening (Opening k h n) (performed c (Opening k h n)) →
    Kept f c w x (Opening k h n)
reopens f k h n null u = search states
reopens f k h n setup u = search states
reopens f k h n asked_a u = search states
reopens f k h n asked_d u = search states
reopens f k h n waits u = search states
reopens f k h n (talks y) u = search states
reopens f k h n (asked_b y) u = search states
reopens f k h n (asked y) u = search states
reopens f k h n (turned y) u = search states
reopens f k h n (over y) u = differ (sym u)

-- a request in the answered call: B (2), C (3) or neither
module _ (f q : ℕ) (n u v z : Number) (a r w : Bool) {m : Meters} {x : ℕ} (y : Right m x) where
  abbrev Asks : Bool → Option Row → Type 0
  Asks b row = Fine f b false (at f u v z Answered Idle a r m) w x (Ask q n) row

  asks_called : (i : Bool) → eqb q 2 ≡ i → Asks (eqb q 3) (when i Row.AskPartial (when (eqb q 3) Row.AskEntire None))
  asks_called true h =
      subst (λ (b : Bool). Asks b (Some Row.AskPartial)) (sym (ap (λ (k : ℕ). eqb k 3) (eqb-true q 2 h)))
      (plan_called f u v z a r w false q n y true (judged_by (bit 2 f && not (bit 4 f)) (bit 8 f)) (mode_by (lowest f)))
  asks_called false h =
      fork Asks (eqb q 3) _ _ (plan_called f u v z a r w false q n y false (judged_by (bit 2 f && not (bit 4 f)) (bit 8 f)) (mode_by (lowest f))) (search states)

-- where a further request, A, B or C, is answered that it is running
again : (f q : ℕ) (n : Number) (c : Call) (w : Bool) (x : ℕ) → Fine f (eqb q 3) false c w x (Ask q n) (Some Row.RunningHere) →
    Fine f (eqb q 3) false c w x (Ask q n) None →
    Fine f (eqb q 3) false c w x (Ask q n) (when (leb 1 q && leb q 3) Row.RunningHere None)
again f q n c w x = split (Fine f (eqb q 3) false c w x (Ask q n)) (leb 1 q && leb q 3) _ _

asks : (f q : ℕ) (n : Number) {c : Call} {w : Bool} {x : ℕ} → Agrees f c w x → Kept f c w x (Ask q n)
asks f q n null = search states
asks f q n setup = search states
asks f q n asked_a = search states
asks f q n {c} {w} {x} asked_d = again f q n c w x (search states) (search states)
asks f q n waits = search states
asks f q n {c} {w} (talks {u} {v} {z} {a} {r} y) = asks_called f q n u v z a r w y (eqb q 2) refl
asks f q n {c} {w} {x} (asked_b y) = again f q n c w x (search states) (search states)
asks f q n {c} {w} {x} (asked y) = again f q n c w x (asked y) (asked y)
asks f q n {c} {w} {x} (turned y) = again f q n c w x (search states) (search states)
asks f q n (over y) = search states

-- a message in range that is no IAM, ANM, CON or REL is a FAC
kinds : (P : Kind → Bool → Type 0) (k : ℕ) → 1 ≤ k → k ≤ 5 →
    ((b : Bool) → P Iam b) → ((b : Bool) → P Answer b) → ((b : Bool) → P Rel b) → P Fac true →
    (i a r : Bool) → eqb k 1 ≡ i → (eqb k 2 || eqb k 3) ≡ a → eqb k 4 ≡ r → P (kind_by i a r) (eqb k 5)
kinds P k l u p q s t true a r h i j = p (eqb k 5)
kinds P k l u p q s t false true r h i j = q (eqb k 5)
kinds P k l u p q s t false false true h i j = s (eqb k 5)
kinds P k l u p q s t false false false h i j =
    let n2 = eqb-false k 2 (neither_left (eqb k 2) _ i) in
    let n3 = eqb-false k 3 (neither_right (eqb k 2) _ i) in
    subst (P Fac) (sym (eq-eqb k 5 (omega (arith, eqb-false k 1 h, n2, n3, eqb-false k 4 j)))) t

module _ (f : ℕ) (l : Message) (ok : event_ok (Received l) ≡ true) where
  abbrev word : Heard
  word = heard_of l.component

  abbrev G : Bool
  G = heard_in f (Received l)

  abbrev P : Call → Bool → ℕ → Option Row → Type 0
  P c w x row = Fine f false G c w x (Received l) row

  abbrev K : Call → Bool → ℕ → (Kind → Cue → Option Row) → Kind → Type 0
  K c w x table k = P c w x (table k (cue_of (read_of (Received l))))

  -- where the result to CALLED is what is tested
  abbrev OnResult : Call → Bool → ℕ → Bool → Option Row → Type 0
  OnResult c w x b row = Fine f false (b && transferred f l) c w x (Received l) row

  abbrev OnFac : Call → Bool → ℕ → Kind → Bool → Type 0
  OnFac c w x k b =
      Fine f false (b && (word.resultcalled && transferred f l)) c w x (Received l) (answered_wait_called_of k (cue_of (read_of (Received l))))

  abbrev judged : Judged
  judged = judged_by (bit 2 f && not (bit 4 f)) (bit 8 f)

  receives : {c : Call} {w : Bool} {x : ℕ} → Agrees f c w x → Kept f c w x (Received l)
  receives {c} {w} {x} (null {u} {v} {z} {a} {r}) =
      by_kind l (K c w x destination_null_of)
      (split (P c w x) word.alone _ _ (plan_iam f u v z a r w false G l (service_by (bit 16 f)) (interaction_by (bit 8 f)) (mode_by (lowest f)))
      (split (P c w x) word.invokesetup _ _
      (plan_a f u v z a r w false G l judged (mode_by (lowest f && lowest l.parts)) (bit 16 l.parts)) (search states)))
      (search states) (search states) (search states)
  receives {c} {w} {x} setup = by_kind l (K c w x destination_setup_idle_of) (search states) (search states) (search states) (search states)
  receives {c} {w} {x} asked_a = by_kind l (K c w x wait_setup_conf_of) (search states) (search states) (search states) (search states)
  receives {c} {w} {x} (asked_d {u} {v} {z} {a} {r}) =
      by_kind l (K c w x setup_wait_called_of) (search states) (search states) (search states)
      (split (P c w x) word.invoke _ _ (search states)
      (split (P c w x) word.resultcalled _ _ (accepted_d f u v z a r w false G l (mode_by (transferred f l)) (bit 16 l.parts))
      (split (P c w x) word.failure _ _ (search states) (split (P c w x) word.rejection _ _ (search states) (search states)))))
  receives {c} {w} {x} waits = by_kind l (K c w x destination_wait_answer_of) (search states) (search states) (search states) (search states)
  receives {c} {w} {x} (talks {u} {v} {z} {a} {r} y) =
      by_kind l (K c w x destination_answered_idle_of) (search states) (search states) (search states)
      (split (P c w x) word.invokeactive _ _
      (plan_b f u v z a r w false G l y judged (mode_by (lowest f && lowest l.parts)) (bit 16 l.parts)) (search states))
  receives {c} {w} {x} (asked_b y) =
      by_kind l (K c w x wait_active_conf_of) (search states) (search states) (search states)
      (split (P c w x) word.invoke _ _ (search states) (search states))
  receives {c} {w} {x} (asked {u} {v} {z} {a} {r} y) =
      kinds (OnFac c w x) l.kind (leb-true _ _ (left (leb 1 l.kind) _ (left (leb 1 l.kind && leb l.kind 5) _ ok)))
      (leb-true _ _ (right (leb 1 l.kind) _ (left (leb 1 l.kind && leb l.kind 5) _ ok)))
      (λ b. asked y) (λ b. asked y) (λ b. search states)
      (split (OnResult c w x word.resultcalled) word.invoke _ _ (asked y)
      (fork (OnResult c w x) word.resultcalled _ _
      (accepted_bc f u v z a false l y (transferred f l) (bit 16 l.parts) r (bit 64 l.parts))
      (split (OnResult c w x false) word.failure _ _
      (refused_bc f u v z a false l y false r (correct_by (listed_of (error_of l.component))) (error_of l.component))
      (split (OnResult c w x false) word.rejection _ _ (search states) (asked y)))))
      (eqb l.kind 1) (eqb l.kind 2 || eqb l.kind 3) (eqb l.kind 4) refl refl refl
  receives {c} {w} {x} (turned y) =
      by_kind l (K c w x active_of) (search states) (search states) (search states)
      (split (P c w x) word.invoke _ _ (search states) (search states))
  receives {c} {w} {x} (over y) = by_kind l (K c w x vacant_of) (search states) (search states) (search states) (search states)

tells : (f k n : ℕ) {c : Call} {w : Bool} {x : ℕ} → Agrees f c w x → Kept f c w x (FromAccess k n)
tells f k n null = search states
tells f k n {c} {w} {x} setup =
    split (Fine f false false c w x (FromAccess k n)) (eqb k 5) _ _ (search states)
    (split (Fine f false false c w x (FromAccess k n)) (eqb k 4) _ _ (search states) (search states))
tells f k n {c} {w} {x} (asked_a {u} {v} {z} {a} {r}) =
    split (Fine f false false c w x (FromAccess k n)) (eqb k 1) _ _ (confirmed_a f u v z a r w false false k n (mode_by a))
    (split (Fine f false false c w x (FromAccess k n)) (eqb k 2) _ _ (refused_a f u v z a r w false false k n (correct_by (listed_of n)) n 16)
    (split (Fine f false false c w x (FromAccess k n)) (eqb k 3) _ _ (search states)
    (split (Fine f false false c w x (FromAccess k n)) (eqb k 4) _ _ (search states)
    (split (Fine f false false c w x (FromAccess k n)) (eqb k 5) _ _ (search states) (search states)))))
tells f k n {c} {w} {x} asked_d = split (Fine f false false c w x (FromAccess k n)) (eqb k 4) _ _ (search states) (search states)
tells f k n {c} {w} {x} (waits {u} {v} {z} {a} {r}) =
    split (Fine f false false c w x (FromAccess k n)) (eqb k 5) _ _ (connected_d f u v z a r w false false k n (mode_by a))
    (split (Fine f false false c w x (FromAccess k n)) (eqb k 4) _ _ (search states) (search states))
tells f k n {c} {w} {x} (talks y) = split (Fine f false false c w x (FromAccess k n)) (eqb k 4) _ _ (search states) (search states)
tells f k n {c} {w} {x} (asked_b {u} {v} {z} {a} {r} y) =
    split (Fine f false false c w x (FromAccess k n)) (eqb k 1) _ _ (confirmed-B f u v z a r w false false k n y (mode_by a))
    (split (Fine f false false c w x (FromAccess k n)) (eqb k 2) _ _ (refused-B f u v z a r w false false k n y (correct_by (listed_of n)) n)
    (split (Fine f false false c w x (FromAccess k n)) (eqb k 3) _ _ (search states)
    (split (Fine f false false c w x (FromAccess k n)) (eqb k 4) _ _ (search states) (search states))))
tells f k n {c} {w} {x} (asked y) = split (Fine f false false c w x (FromAccess k n)) (eqb k 4) _ _ (search states) (asked y)
tells f k n {c} {w} {x} (turned y) = split (Fine f false false c w x (FromAccess k n)) (eqb k 4) _ _ (search states) (search states)
tells f k n (over y) = search states

expires : (f : ℕ) {c : Call} {w : Bool} {x : ℕ} → Agrees f c w x → Kept f c w x Expiry
expires f null = search states
expires f setup = search states
expires f asked_a = search states
expires f asked_d = search states
expires f waits = search states
expires f (talks y) = search states
expires f (asked_b y) = search states
expires f (asked y) = search states
expires f (turned y) = search states
expires f (over y) = search states

passes : (f s : ℕ) {c : Call} {w : Bool} {x : ℕ} → Agrees f c w x → Kept f c w x (Time s)
passes f s null = search states
passes f s setup = search states
passes f s asked_a = search states
passes f s asked_d = search states
passes f s waits = search states
passes f s {c} {w} {x} (talks {m = m} y) =
    settled (Good f false false c w x (Time s)) (give_of m s) _ _ _ (λ n h. talks (ticks s y h)) (search states)
passes f s {c} {w} {x} (asked_b {m = m} y) =
    settled (Good f false false c w x (Time s)) (give_of m s) _ _ _ (λ n h. asked_b (ticks s y h)) (search states)
passes f s {c} {w} {x} (asked {m = m} y) =
    settled (Good f false false c w x (Time s)) (give_of m s) _ _ _ (λ n h. asked (ticks s y h)) (asked y)
passes f s {c} {w} {x} (turned {m = m} y) =
    settled (Good f false false c w x (Time s)) (give_of m s) _ _ _ (λ n h. turned (ticks s y h)) (search states)
passes f s (over y) = search states

takes : (f : ℕ) {c : Call} {w : Bool} {x : ℕ} (e : Event) → event_ok e ≡ true → Agrees f c w x → Unopening e (performed c e) → Kept f c w x e
takes f (Opening k h n) o y u = reopens f k h n y u
takes f (Ask q n) o y u = asks f q n y
takes f (Received l) o y u = receives f l o y
takes f (FromAccess k n) o y u = tells f k n y
takes f Expiry o y u = expires f y
takes f (Time s) o y u = passes f s y

keeps : (f : ℕ) {c : Call} {w : Bool} {x : ℕ} (e : Event) → Agrees f c w x → Unopening e (step_of c e) →
    Good f (asks_c e) (gives_transfer f e) c w x e (step_of c e)
keeps f {c} {w} {x} e y =
    guarded (λ (a : Outcome). Unopening e a → Good f (asks_c e) (gives_transfer f e) c w x e a) c e (λ v u. y)
    (λ v. record { one = λ u. y; three = λ k u. y; fifteen = λ u. y; sixteen = λ u. y; seventeen = λ u. y; twenty = λ u. y })
    (λ v o u. subst (λ (g : Bool). Good f (asks_c e) g c w x e (performed c e)) (same_words f e) (takes f e o y u))

-- ---- THE INDUCTION: from a call that agrees, any events among which no opening is accepted lead to one that agrees

abbrev remembered : Bool → List Step → Bool
remembered w [] = w
remembered w (s ∷ h) = remembered (entire_asked w s) h

abbrev count_all : ℕ → Bool → ℕ → List Step → ℕ
count_all f w x [] = x
count_all f w x (s ∷ h) = count_all f (entire_asked w s) (counts (gives_transfer f s.event) w x s) h

reached : (f : ℕ) (es : List Event) {c : Call} {w : Bool} {x : ℕ} → Agrees f c w x → none_opens (history c es) ≡ true →
    Agrees f (run c es) (remembered w (history c es)) (count_all f w x (history c es))
reached f [] y u = y
reached f (e ∷ es) {c} y u =
    reached f es (keeps f e y (first_unopening (written c e (step_of c e)) (history (step_of c e).call es) u))
    (rest_unopening (written c e (step_of c e)) (history (step_of c e).call es) u)

agreed_sum : {f : ℕ} {c : Call} {w : Bool} {x : ℕ} → Agrees f c w x → Sum c.meters x
agreed_sum null = record { caller = refl; both = refl }
agreed_sum setup = record { caller = refl; both = refl }
agreed_sum asked_a = record { caller = refl; both = refl }
agreed_sum asked_d = record { caller = refl; both = refl }
agreed_sum waits = record { caller = refl; both = refl }
agreed_sum (talks y) = y.sums
agreed_sum (asked_b y) = y.sums
agreed_sum (asked y) = y.sums
agreed_sum (turned y) = y.sums
agreed_sum (over y) = y

agreed_role : {f : ℕ} {c : Call} {w : Bool} {x : ℕ} → Agrees f c w x → c.side.role ≡ Destination
agreed_role null = refl
agreed_role setup = refl
agreed_role asked_a = refl
agreed_role asked_d = refl
agreed_role waits = refl
agreed_role (talks y) = refl
agreed_role (asked_b y) = refl
agreed_role (asked y) = refl
agreed_role (turned y) = refl
agreed_role (over y) = refl

-- ---- THE BRIDGE: what is counted step by step is the last Duration and the seconds since. Lists alone

abbrev from : ℕ → List Step → Use → ℕ
from x h unused = x + answered h
from x h (used d since) = d + answered since

step_from : (x d n : ℕ) (h : List Step) (s : Step) (b c : Bool) (u : Use) → times (s ∷ h) ≡ pick c (n ∷ times h) (times h) →
    from (pick b d (pick c (x + n) x)) h u ≡ from x (s ∷ h) (or_else u (pick b (used d h) unused))
step_from x d n h s b c (used e k) t = refl
step_from x d n h s true c unused t = refl
step_from x d n h s false true unused t = omega (arith, ap sum t)
step_from x d n h s false false unused t = omega (arith, ap sum t)

counted_from : (f : ℕ) (w : Bool) (x : ℕ) (h : List Step) → count_all f w x h ≡ from x h (last_use f w h)
counted_from f w x [] = omega arith
counted_from f w x (s ∷ h) =
    counted_from f (entire_asked w s) _ h
    ∙ step_from x (duration_in s.event) (seconds_in s.event) h s (uses_duration f w s) (counted s) (last_use f (entire_asked w s) h) refl

from_nothing : (h : List Step) (u : Use) → from 0 h u ≡ seconds_by h u
from_nothing h unused = omega arith
from_nothing h (used d since) = refl

-- ---- THE THEOREMS

opened : (f : ℕ) (own : Number) (b : Bool) → (if_in_range b unopened_call (Opening 1 f own)).number ≡ 0 →
    Agrees f (if_in_range b unopened_call (Opening 1 f own)).call false 0
opened f own true e = null
opened f own false e = absurd (omega arith)

module _ (f : ℕ) (own : Number) (e : (opening_there f own).number ≡ 0) (es : List Event)
    (u : none_opens (history (opening_there f own).call es) ≡ true) where
  from_opening : Agrees f (run (opening_there f own).call es) (remembered false (history (opening_there f own).call es))
      (count_all f false 0 (history (opening_there f own).call es))
  from_opening = reached f es (opened f own (event_ok (Opening 1 f own)) e) u

-- For a destination's call from its latest opening, after any events since: called and far together are the answered seconds, or from the
-- last Duration used on, that Duration and the answered seconds since, as the history alone says.
pub destination_seconds : (f : ℕ) (own : Number) → (opening_there f own).number ≡ 0 → (es : List Event) →
    none_opens (history (opening_there f own).call es) ≡ true →
    (run (opening_there f own).call es).meters.called + (run (opening_there f own).call es).meters.far
    ≡ seconds_there f (history (opening_there f own).call es)
destination_seconds f own e es u =
    let h : List Step = history (opening_there f own).call es in
    (agreed_sum (from_opening f own e es u)).both ∙ (counted_from f false 0 h ∙ from_nothing h (last_use f false h))

unused_answered : (h : List Step) (u : Use) → is_unused u ≡ true → seconds_by h u ≡ answered h
unused_answered h unused e = refl
unused_answered h (used d since) e = cc

-- Where the history used no Duration, called and far together are the answered seconds.
pub destination_answered_lem : (f : ℕ) (own : Number) → (opening_there f own).number ≡ 0 → (es : List Event) →
    none_opens (history (opening_there f own).call es) ≡ true → no_duration f (history (opening_there f own).call es) ≡ true →
    (run (opening_there f own).call es).meters.called + (run (opening_there f own).call es).meters.far
    ≡ answered (history (opening_there f own).call es)
destination_answered_lem f own e es u n =
    let h : List Step = history (opening_there f own).call es in
    destination_seconds f own e es u ∙ unused_answered h (last_use f false h) n

-- The caller's meter at a destination stays 0.
pub destination_caller : (f : ℕ) (own : Number) → (opening_there f own).number ≡ 0 → (es : List Event) →
    none_opens (history (opening_there f own).call es) ≡ true → (run (opening_there f own).call es).meters.caller ≡ 0
destination_caller f own e es u = (agreed_sum (from_opening f own e es u)).caller

-- What the meters of a destination's call (c) show of its history: f are the opening's flags, h the steps after it.
pub record ShowsThere (c : Call) (f : ℕ) (h : List Step) : Type 0 where
  -- the call is a destination's
  pub role : c.side.role ≡ Destination
  -- the caller pays at the other exchange
  pub caller : c.meters.caller ≡ 0
  -- the others add up to the answered seconds, or to the last Duration used and the answered seconds since
  pub both : c.meters.called + c.meters.far ≡ seconds_there f h

pub shown_there : (f : ℕ) (own : Number) → (opening_there f own).number ≡ 0 → (es : List Event) →
    none_opens (history (opening_there f own).call es) ≡ true →
    ShowsThere (run (opening_there f own).call es) f (history (opening_there f own).call es)
shown_there f own e es u =
    record {
      role = agreed_role (from_opening f own e es u);
      caller = destination_caller f own e es u;
      both = destination_seconds f own e es u;
    }

-- Such an opening is one whose fields are in range: flags to 31, an own number.
pub opens_there_in_range : (f : ℕ) (own : Number) → event_ok (Opening 1 f own) ≡ true → (opening_there f own).number ≡ 0
opens_there_in_range f own e = ap (λ (b : Bool). (if_in_range b unopened_call (Opening 1 f own)).number) e

-- ---- Worked histories: an IAM, an answer, 40 s; a request; a result with transfer and Duration 35; 20 s

abbrev room : Number
room = record { nature = National; count = 7; value = 5550123 }

abbrev requested : ℕ → List Step
requested q =
    history (opening_there 9 room).call
    (Received (record { kind = 1; cause = 0; component = Absent 0; parts = 0; calling = absent; called = absent; duration = 0 })
    ∷ FromAccess 5 0 ∷ Time 40 ∷ Ask q absent
    ∷ Received (record { kind = 5; cause = 0; component = Result 3; parts = 86; calling = room; called = absent; duration = 35 })
    ∷ Time 20 ∷ [])

-- case C: the Duration and what came after it; case B: all the answered seconds
entire_call : (seconds_there 9 (requested 3) ≡ 55) × (no_duration 9 (requested 3) ≡ false)
entire_call = (refl, refl)

rest_of_call : (seconds_there 9 (requested 2) ≡ 60) × (no_duration 9 (requested 2) ≡ true)
rest_of_call = (refl, refl)
