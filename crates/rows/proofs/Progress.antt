-- PROGRESS: time that fits is accepted in ANSWERED, and an event that reverse charging waits for makes it take effect.
-- Assumes nothing.
use mathlib.Core.Path.{◌≡◌, refl, sym, ◌∙◌, ap, subst}
use mathlib.Core.Bool.{Bool, true, false, ◌&&◌, ◌||◌, not}
use Prim.Native.Nat.{ℕ, ◌+◌, ◌≤◌}
use native.Mathlib.Omega.{arith}
use lib.Dec.{eqb, leb}
use borrow.Author.Tests.{eqb-true, leb-true, le-leb}
use Rattle.std.specs.Prelude.{Option, Some, None}
use Rattle.meters.proofs.Laws.{fits, gave_fits, too_much, entire_fits, duration_fits}
use Rattle.meters.specs.Meters.{limit, sum_of, give_of}
use Rattle.meters.specs.declared.Meters.{Meters}
use Rattle.meters.specs.declared.Payer.TheVariants.{Nobody, Called, Far}
use Rattle.rows.specs.Bill.{result_to, invoke_of, is_answered}
use Rattle.rows.specs.Perform.{settled_of, perform_of}
use Rattle.rows.specs.Promises.{sent, holding, is_answer, is_facility, bare, setup_turns, answered_turns}
use Rattle.rows.specs.Promises.{called_turns, setup_told, answered_told, message_turns, access_turns, takes_effect, InEffect}
use Rattle.rows.specs.Read.{bit, lowest, interaction_by, mode_by, extent_by}
use Rattle.rows.specs.Rows
use Rattle.rows.specs.Step.{total_of, takes_of, is_opening, step_of}
use Rattle.rows.specs.Valid.{placed_of, valid_of, event_ok}
use Rattle.rows.specs.declared.Call.{Call}
use Rattle.rows.specs.declared.Component.{Component}
use Rattle.rows.specs.declared.Component.TheVariants.{Absent, Invoke, Result, Error, Reject, Unknown}
use Rattle.rows.specs.declared.Event.{Event}
use Rattle.rows.specs.declared.Event.TheVariants.{Opening, Ask, Received, FromAccess, Expiry, Time}
use Rattle.rows.specs.declared.Extent.TheVariants.{Entire}
use Rattle.rows.specs.declared.Flags.{Flags}
use Rattle.rows.specs.declared.Interaction.TheVariants.{Allowed}
use Rattle.rows.specs.declared.Message.{Message}
use Rattle.rows.specs.declared.Mode.{Mode}
use Rattle.rows.specs.declared.Mode.TheVariants.{NoTransfer, Transfer}
use Rattle.rows.specs.declared.Number.{Number}
use Rattle.rows.specs.declared.Outcome.{Outcome}
use Rattle.rows.specs.declared.Phase.{Phase}
use Rattle.rows.specs.declared.Phase.TheVariants.{Unopened, Null, Setup, Answered, Cleared}
use Rattle.rows.specs.declared.Plan.{Plan}
use Rattle.rows.specs.declared.Reading.{Reading}
use Rattle.rows.specs.declared.RevState.{RevState}
use Rattle.rows.specs.declared.RevState.TheVariants.{Idle, WaitSetup, WaitActive, WaitAnswer, Active, WaitSetupConf, WaitActiveConf}
use Rattle.rows.specs.declared.RevState.TheVariants.{WaitCalled}
use Rattle.rows.specs.declared.Role.{Role}
use Rattle.rows.specs.declared.Role.TheVariants.{Originating, Destination}
use Rattle.rows.proofs.Answers.{row_decides, opened_then, is_unopened}
use Rattle.rows.proofs.Payers.{answered_paid}
use Rattle.rows.proofs.Placed.{placed}
use Rattle.rows.proofs.Stays.{valid_metered, within_limit}
use Rattle.rows.proofs.Truth.{differ, left, right, both, either}

-- ---- What 9 leaves of a call: its place in the table, and at a destination no caller's seconds

pub valid_place : (c : Call) → valid_of c ≡ true → placed_of c.side.role c.stand.phase c.stand.rev ≡ true
valid_place c v = left _ _ v

-- ---- Time

-- the number given back where the meters' answer decides it
abbrev number_by : Option Meters → ℕ
number_by (Some n) = 0
number_by None = 2

settled_number : (x : Option Meters) (c : Call) (p : Plan) (r : Reading) → (settled_of x c p r).number ≡ number_by x
settled_number (Some n) c p r = refl
settled_number None c p r = refl

-- a call at an exchange, in a phase and REV state
abbrev pub standing : Role → Flags → Phase → RevState → Bool → Bool → Meters → Number → Number → Number → Call
standing r f ph rv a b m u v w = holding r f (record { phase = ph; rev = rv; agreed = a; rest = b }) m u v w

module _ (f : Flags) (a b : Bool) (m : Meters) (u v w : Number) (s : ℕ) where
  -- in every place that ANSWERED has
  counts : (r : Role) (ph : Phase) (rv : RevState) → placed_of r ph rv ≡ true → is_answered ph ≡ true →
      (takes_of (standing r f ph rv a b m u v w) (Time s)).number ≡ number_by (give_of m s)
  counts =
      placed (λ (r : Role) (ph : Phase) (rv : RevState). is_answered ph ≡ true → (takes_of (standing r f ph rv a b m u v w) (Time s)).number ≡ number_by (give_of m s))
      (λ r i. differ i) (λ r i. differ i) (λ r i. differ i)
      differ differ differ (λ i. settled_number (give_of m s) _ _ _) (λ i. settled_number (give_of m s) _ _ _) (λ i. settled_number (give_of m s) _ _ _)
      differ differ differ differ (λ i. settled_number (give_of m s) _ _ _) (λ i. settled_number (give_of m s) _ _ _) (λ i. settled_number (give_of m s) _ _ _) (λ i. settled_number (give_of m s) _ _ _)

-- a time in range, at a call in ANSWERED: the meters decide
time_number : (c : Call) (s : ℕ) → valid_of c ≡ true → c.stand.phase ≡ Answered → s ≤ 86400 →
    (step_of c (Time s)).number ≡ number_by (give_of c.meters s)
time_number c s v h d =
    ap (λ (o : Outcome). o.number)
    (row_decides c (Time s) v (opened_then is_answered c.stand.phase refl (ap is_answered h)) refl (both (le-leb s 86400 d) refl))
    ∙ counts c.side.flags c.stand.agreed c.stand.rest c.meters c.side.own c.side.calling c.side.called s
    c.side.role c.stand.phase c.stand.rev (valid_place c v) (ap is_answered h)

-- 2 is given exactly where the sum or the total would pass the limit ..
too_much_exactly : (m : Meters) (s : ℕ) → (m.payer ≡ Nobody → ⊥) → (x : Option Meters) → give_of m s ≡ x → eqb (number_by x) 2 ≡ not (fits m s)
too_much_exactly m s p (Some n) e = sym (ap not (gave_fits m n s p e))
too_much_exactly m s p None e = sym (ap not (too_much m s e))

pub time_two_exactly : (c : Call) (s : ℕ) → valid_of c ≡ true → c.stand.phase ≡ Answered → s ≤ 86400 →
    eqb (step_of c (Time s)).number 2 ≡ not (leb (sum_of c.meters + s) limit && leb (total_of c + s) limit)
time_two_exactly c s v h d =
    ap (λ (n : ℕ). eqb n 2) (time_number c s v h d)
    ∙ too_much_exactly c.meters s (answered_paid c v (ap is_answered h)) (give_of c.meters s) refl

-- .. and else it is accepted
fitting : (m : Meters) (s : ℕ) → fits m s ≡ true → (x : Option Meters) → give_of m s ≡ x → number_by x ≡ 0
fitting m s f (Some n) e = refl
fitting m s f None e = differ (sym (too_much m s e) ∙ f)

pub time_accepted : (c : Call) (s : ℕ) → valid_of c ≡ true → c.stand.phase ≡ Answered → s ≤ 86400 →
    sum_of c.meters + s ≤ limit → total_of c + s ≤ limit → (step_of c (Time s)).number ≡ 0
time_accepted c s v h d l t =
    time_number c s v h d ∙ fitting c.meters s (both (le-leb _ _ l) (le-leb _ _ t)) (give_of c.meters s) refl

-- ---- Plans that lead to ACTIVE do

module _ (c : Call) (r : Reading) where
  abbrev Turns : Plan → Type 0
  Turns p = InEffect (perform_of c p r)

  -- with transfer and without
  either_way : (p : Mode → Plan) → Turns (p Transfer) → Turns (p NoTransfer) → (t : Bool) → Turns (p (mode_by t))
  either_way p x y true = x
  either_way p x y false = y

  at_answer : (t : Bool) → Turns (Rows.accepted_at_answer (mode_by t))
  at_answer = either_way Rows.accepted_at_answer (record { number = refl; phase = refl; rev = refl }) (record { number = refl; phase = refl; rev = refl })

  in_call_lem : (t : Bool) → Turns (Rows.accepted_in_call (mode_by t))
  in_call_lem = either_way Rows.accepted_in_call (record { number = refl; phase = refl; rev = refl }) (record { number = refl; phase = refl; rev = refl })

  setup_confirmed_lem : (t : Bool) → Turns (Rows.setup_confirmed (mode_by t))
  setup_confirmed_lem = either_way Rows.setup_confirmed (record { number = refl; phase = refl; rev = refl }) (record { number = refl; phase = refl; rev = refl })

  unconditional_connected_lem : (t : Bool) → Turns (Rows.unconditional_connected (mode_by t))
  unconditional_connected_lem = either_way Rows.unconditional_connected (record { number = refl; phase = refl; rev = refl }) (record { number = refl; phase = refl; rev = refl })

  active_confirmed_lem : (t : Bool) → Turns (Rows.active_confirmed (mode_by t))
  active_confirmed_lem = either_way Rows.active_confirmed (record { number = refl; phase = refl; rev = refl }) (record { number = refl; phase = refl; rev = refl })

  -- interaction allowed, transfer taken, called number or transfer requested, partial. Case C moves what was within the limit
  called_asked_lem : (sum_of c.meters ≤ limit) × (total_of c ≤ limit) → (i t e p : Bool) → (i && e) ≡ true → Turns (Rows.called_asked (interaction_by i) (extent_by p) (mode_by t) e)
  called_asked_lem l false t e p h = differ h
  called_asked_lem l true t false p h = differ h
  called_asked_lem l true false true true h = record { number = refl; phase = refl; rev = refl }
  called_asked_lem l true true true true h = record { number = refl; phase = refl; rev = refl }
  called_asked_lem l true false true false h =
      entire_fits (λ (x : Option Meters). InEffect (settled_of x c (Rows.called_asked Allowed Entire NoTransfer true) r)) c.meters Called c.meters.caller 0
      (omega arith) l.0 l.1
      (λ n. record { number = refl; phase = refl; rev = refl })
  called_asked_lem l true true true false h =
      entire_fits (λ (x : Option Meters). InEffect (settled_of x c (Rows.called_asked Allowed Entire Transfer true) r)) c.meters Far 0 c.meters.caller
      (omega arith) l.0 l.1
      (λ n. record { number = refl; phase = refl; rev = refl })

  -- in transfer mode, calling number there, for the rest of the call, Duration there
  called_accepted_lem : (c.meters.caller ≡ 0) × (total_of c ≤ limit) → (t n b d : Bool) → (not t || (n && (b || (d && leb r.seconds limit)))) ≡ true → Turns (Rows.called_accepted (extent_by b) (mode_by t) n d)
  called_accepted_lem z false n b d h = record { number = refl; phase = refl; rev = refl }
  called_accepted_lem z true true true d h = record { number = refl; phase = refl; rev = refl }
  called_accepted_lem z true true false true h =
      duration_fits (λ (x : Option Meters). InEffect (settled_of x c (Rows.called_accepted Entire Transfer true true) r)) c.meters r.seconds
      (omega (arith, z.0, leb-true r.seconds limit h)) z.1 (λ n. record { number = refl; phase = refl; rev = refl })
  called_accepted_lem z true true false false h = differ h
  called_accepted_lem z true false b d h = differ h

-- ---- What a message is, by its tests

-- the message with another kind and component
abbrev pub with_these : Message → ℕ → Component → Event
with_these m k x = Received (sent k m.cause x m.parts m.calling m.called m.duration)

an_answer : (P : ℕ → Type 0) (k : ℕ) → (eqb k 2 || eqb k 3) ≡ true → P 2 → P 3 → P k
an_answer P k h x y =
    either (eqb k 2) (eqb k 3) h (λ z. subst P (sym (eqb-true k 2 z)) x) (λ z. subst P (sym (eqb-true k 3 z)) y)

pub a_facility : (P : ℕ → Type 0) (k : ℕ) → eqb k 5 ≡ true → P 5 → P k
a_facility P k h x = subst P (sym (eqb-true k 5 h)) x

pub a_result : (P : Component → Type 0) (k : ℕ) (x : Component) → result_to k x ≡ true → P (Result k) → P x
a_result P k (Absent n) h y = differ h
a_result P k (Invoke n) h y = differ h
a_result P k (Result n) h y = subst (λ (j : ℕ). P (Result j)) (sym (eqb-true n k h)) y
a_result P k (Error n) h y = differ h
a_result P k (Reject n) h y = differ h
a_result P k (Unknown c n) h y = differ h

an_invoke : (P : Component → Type 0) (k : ℕ) (x : Component) → invoke_of k x ≡ true → P (Invoke k) → P x
an_invoke P k (Absent n) h y = differ h
an_invoke P k (Invoke n) h y = subst (λ (j : ℕ). P (Invoke j)) (sym (eqb-true n k h)) y
an_invoke P k (Result n) h y = differ h
an_invoke P k (Error n) h y = differ h
an_invoke P k (Reject n) h y = differ h
an_invoke P k (Unknown c n) h y = differ h

no_component_lem : (P : Component → Type 0) (x : Component) → bare x ≡ true → ((n : ℕ) → P (Absent n)) → P x
no_component_lem P (Absent n) h y = y n
no_component_lem P (Invoke n) h y = differ h
no_component_lem P (Result n) h y = differ h
no_component_lem P (Error n) h y = differ h
no_component_lem P (Reject n) h y = differ h
no_component_lem P (Unknown c n) h y = differ h

-- ---- In each place

module _ (f : Flags) (a b : Bool) (mt : Meters) (u v w : Number) where
  module _ (m : Message) where
    abbrev Leads : Role → Phase → RevState → ℕ → Component → Type 0
    Leads r ph rv k x = InEffect (takes_of (standing r f ph rv a b mt u v w) (with_these m k x))

    -- transfer accepted, of what was asked for
    abbrev transferred : Bool
    transferred = f.transfer && (bit 2 m.parts && bit 4 m.parts)

    in_setup : (rv : RevState) → setup_turns rv m ≡ true → InEffect (takes_of (standing Originating f Setup rv a b mt u v w) (Received m))
    in_setup Idle h = differ h
    in_setup WaitSetup h =
        a_result (Leads Originating Setup WaitSetup m.kind) 1 m.component (right (is_answer m) _ h)
        (an_answer (λ (k : ℕ). Leads Originating Setup WaitSetup k (Result 1)) m.kind (left _ _ h) (at_answer _ _ transferred) (at_answer _ _ transferred))
    in_setup WaitActive h = differ h
    in_setup WaitAnswer h =
        no_component_lem (Leads Originating Setup WaitAnswer m.kind) m.component (right (is_answer m) _ h)
        (λ n. an_answer (λ (k : ℕ). Leads Originating Setup WaitAnswer k (Absent n)) m.kind (left _ _ h) (at_answer _ _ a) (at_answer _ _ a))
    in_setup Active h = differ h
    in_setup WaitSetupConf h = differ h
    in_setup WaitActiveConf h = differ h
    in_setup WaitCalled h = differ h

    in-answered : (sum_of mt ≤ limit) × (mt.total ≤ limit) → (rv : RevState) → answered_turns rv f m ≡ true →
        InEffect (takes_of (standing Originating f Answered rv a b mt u v w) (Received m))
    in-answered l Idle h =
        a_facility (λ (k : ℕ). Leads Originating Answered Idle k m.component) m.kind (left _ _ h)
        (an_invoke (Leads Originating Answered Idle 5) 3 m.component (left _ _ (right (is_facility m) _ h))
        (called_asked_lem _ _ l f.interaction (f.transfer && lowest m.parts) (lowest m.parts || bit 32 m.parts) (bit 8 m.parts)
        (right (invoke_of 3 m.component) _ (right (is_facility m) _ h))))
    in-answered l WaitSetup h = differ h
    in-answered l WaitActive h =
        a_facility (λ (k : ℕ). Leads Originating Answered WaitActive k m.component) m.kind (left _ _ h)
        (a_result (Leads Originating Answered WaitActive 5) 2 m.component (right (is_facility m) _ h) (in_call_lem _ _ transferred))
    in-answered l WaitAnswer h = differ h
    in-answered l Active h = differ h
    in-answered l WaitSetupConf h = differ h
    in-answered l WaitActiveConf h = differ h
    in-answered l WaitCalled h = differ h

    at-the-called : (mt.caller ≡ 0) × (mt.total ≤ limit) → (rv : RevState) → called_turns rv f b m ≡ true →
        InEffect (takes_of (standing Destination f Answered rv a b mt u v w) (Received m))
    at-the-called z Idle h = differ h
    at-the-called z WaitSetup h = differ h
    at-the-called z WaitActive h = differ h
    at-the-called z WaitAnswer h = differ h
    at-the-called z Active h = differ h
    at-the-called z WaitSetupConf h = differ h
    at-the-called z WaitActiveConf h = differ h
    at-the-called z WaitCalled h =
        a_facility (λ (k : ℕ). Leads Destination Answered WaitCalled k m.component) m.kind (left _ _ h)
        (a_result (Leads Destination Answered WaitCalled 5) 3 m.component (left _ _ (right (is_facility m) _ h))
        (called_accepted_lem _ _ z transferred (bit 16 m.parts) b (bit 64 m.parts) (right (result_to 3 m.component) _ (right (is_facility m) _ h))))

    by_message : (r : Role) (ph : Phase) (rv : RevState) → valid_of (standing r f ph rv a b mt u v w) ≡ true → message_turns r ph rv f b m ≡ true →
        InEffect (takes_of (standing r f ph rv a b mt u v w) (Received m))
    by_message r Unopened rv k h = differ h
    by_message r Null rv k h = differ h
    by_message Originating Setup rv k h = in_setup rv h
    by_message Destination Setup rv k h = differ h
    by_message Originating Answered rv k h = in-answered (within_limit (standing Originating f Answered rv a b mt u v w) k) rv h
    by_message Destination Answered rv k h =
        at-the-called (
          eqb-true mt.caller 0 (left (eqb mt.caller 0) _ (valid_metered (standing Destination f Answered rv a b mt u v w) k)),
          (within_limit (standing Destination f Answered rv a b mt u v w) k).1,
        )
        rv h
    by_message r Cleared rv k h = differ h

  -- what the own access tells
  module _ (n : ℕ) where
    abbrev Told : Phase → RevState → ℕ → Type 0
    Told ph rv k = InEffect (takes_of (standing Destination f ph rv a b mt u v w) (FromAccess k n))

    told-in-setup : (rv : RevState) (k : ℕ) → setup_told rv k ≡ true → Told Setup rv k
    told-in-setup Idle k h = differ h
    told-in-setup WaitSetup k h = differ h
    told-in-setup WaitActive k h = differ h
    told-in-setup WaitAnswer k h = subst (Told Setup WaitAnswer) (sym (eqb-true k 5 h)) (unconditional_connected_lem _ _ a)
    told-in-setup Active k h = differ h
    told-in-setup WaitSetupConf k h = subst (Told Setup WaitSetupConf) (sym (eqb-true k 1 h)) (setup_confirmed_lem _ _ a)
    told-in-setup WaitActiveConf k h = differ h
    told-in-setup WaitCalled k h = differ h

    told-in-answered : (rv : RevState) (k : ℕ) → answered_told rv k ≡ true → Told Answered rv k
    told-in-answered Idle k h = differ h
    told-in-answered WaitSetup k h = differ h
    told-in-answered WaitActive k h = differ h
    told-in-answered WaitAnswer k h = differ h
    told-in-answered Active k h = differ h
    told-in-answered WaitSetupConf k h = differ h
    told-in-answered WaitActiveConf k h = subst (Told Answered WaitActiveConf) (sym (eqb-true k 1 h)) (active_confirmed_lem _ _ a)
    told-in-answered WaitCalled k h = differ h

    by-access : (r : Role) (ph : Phase) (rv : RevState) (k : ℕ) → access_turns r ph rv k ≡ true →
        InEffect (takes_of (standing r f ph rv a b mt u v w) (FromAccess k n))
    by-access r Unopened rv k h = differ h
    by-access r Null rv k h = differ h
    by-access Originating Setup rv k h = differ h
    by-access Destination Setup rv k h = told-in-setup rv k h
    by-access Originating Answered rv k h = differ h
    by-access Destination Answered rv k h = told-in-answered rv k h
    by-access r Cleared rv k h = differ h

takes_effect_lem : (c : Call) (e : Event) → valid_of c ≡ true → takes_effect c e ≡ true → InEffect (takes_of c e)
takes_effect_lem c (Opening r f n) v h = differ h
takes_effect_lem c (Ask q n) v h = differ h
takes_effect_lem c (Received m) v h =
    by_message c.side.flags c.stand.agreed c.stand.rest c.meters c.side.own c.side.calling c.side.called m
    c.side.role c.stand.phase c.stand.rev v h
takes_effect_lem c (FromAccess k n) v h =
    by-access c.side.flags c.stand.agreed c.stand.rest c.meters c.side.own c.side.calling c.side.called n
    c.side.role c.stand.phase c.stand.rev k h
takes_effect_lem c Expiry v h = differ h
takes_effect_lem c (Time s) v h = differ h

-- none of them stands before the opening, or is one
pub effect_opened : (c : Call) (e : Event) → takes_effect c e ≡ true → is_unopened c.stand.phase ≡ false
effect_opened c (Opening r f n) h = differ h
effect_opened c (Ask q n) h = differ h
effect_opened c (Received m) h =
    opened_then (λ p. message_turns c.side.role p c.stand.rev c.side.flags c.stand.rest m) c.stand.phase refl h
effect_opened c (FromAccess k n) h = opened_then (λ p. access_turns c.side.role p c.stand.rev k) c.stand.phase refl h
effect_opened c Expiry h = differ h
effect_opened c (Time s) h = differ h

effect_later : (c : Call) (e : Event) → takes_effect c e ≡ true → is_opening e ≡ false
effect_later c (Opening r f n) h = differ h
effect_later c (Ask q n) h = refl
effect_later c (Received m) h = refl
effect_later c (FromAccess k n) h = refl
effect_later c Expiry h = refl
effect_later c (Time s) h = refl

-- each row that leads to ACTIVE does so where its needed parts are there and no limit is passed
pub reversal_takes_effect : (c : Call) (e : Event) → valid_of c ≡ true → event_ok e ≡ true → takes_effect c e ≡ true → InEffect (step_of c e)
reversal_takes_effect c e v k h = subst InEffect (sym (row_decides c e v (effect_opened c e h) (effect_later c e h) k)) (takes_effect_lem c e v h)
