-- A CLEARING CLEARS, and who is charged at a destination once its own user's word puts reverse charging in effect.
-- Assumes nothing.
use mathlib.Core.Path.{◌≡◌, refl, sym, ◌∙◌, ap, subst}
use mathlib.Core.Bool.{Bool, true, false, ◌&&◌, ◌||◌, not}
use Prim.Native.Nat.{ℕ}
use native.Mathlib.Omega.{arith}
use lib.Dec.{eqb, leb}
use borrow.Author.Tests.{eqb-true}
use Rattle.meters.proofs.Laws.{received, is, is_that}
use Rattle.meters.specs.Meters.{received_of, change_of}
use Rattle.meters.specs.declared.Change.{Change}
use Rattle.meters.specs.declared.Meters.{Meters}
use Rattle.rows.specs.Bill.{bit_at, result_to}
use Rattle.rows.specs.Perform.{stand_of, settled_of, perform_if, perform_of}
use Rattle.rows.specs.Promises.{place_in, is_facility, called_turns, setup_told, answered_told, message_turns, access_turns}
use Rattle.rows.specs.Promises.{takes_effect, in_call, Clears, charged_by}
use Rattle.rows.specs.Read.{bit, kind_of, read_of, mode_by, extent_by}
use Rattle.rows.specs.Rows
use Rattle.rows.specs.Step.{takes_of, step_of}
use Rattle.rows.specs.Valid.{placed_of, valid_of, event_ok}
use Rattle.rows.specs.declared.Call.{Call}
use Rattle.rows.specs.declared.Component.{Component}
use Rattle.rows.specs.declared.Event.{Event}
use Rattle.rows.specs.declared.Event.TheVariants.{Received, FromAccess}
use Rattle.rows.specs.declared.Extent.TheVariants.{Entire}
use Rattle.rows.specs.declared.Flags.{Flags}
use Rattle.rows.specs.declared.Kind.{Kind}
use Rattle.rows.specs.declared.Message.{Message}
use Rattle.rows.specs.declared.Mode.TheVariants.{Transfer}
use Rattle.rows.specs.declared.Number.{Number}
use Rattle.rows.specs.declared.Outcome.{Outcome}
use Rattle.rows.specs.declared.Phase.{Phase}
use Rattle.rows.specs.declared.Phase.TheVariants.{Unopened, Null, Setup, Answered, Cleared}
use Rattle.rows.specs.declared.Plan.{Plan}
use Rattle.rows.specs.declared.Reading.{Reading}
use Rattle.rows.specs.declared.RevState.{RevState}
use Rattle.rows.specs.declared.RevState.TheVariants.{Idle, WaitSetup, WaitActive, WaitAnswer, Active, WaitSetupConf}
use Rattle.rows.specs.declared.RevState.TheVariants.{WaitActiveConf, WaitCalled}
use Rattle.rows.specs.declared.Role.{Role}
use Rattle.rows.specs.declared.Role.TheVariants.{Originating, Destination}
use Rattle.rows.proofs.Answers.{plan_for, row_decides, opened_then, has_plan, settled}
use Rattle.rows.proofs.Found.{implies, so, Test, holds, is_kind}
use Rattle.rows.proofs.Placed.{placed}
use Rattle.rows.proofs.Progress.{valid_place, standing, with_these, a_facility, a_result, effect_opened, reversal_takes_effect}
use Rattle.rows.proofs.Truth.{differ, left, right}

abbrev is_destination : Role → Bool
is_destination Originating = false
is_destination Destination = true

-- ---- SETUP and ANSWERED: a REL with any component, or the own access's clearing, clears

module _ (f : Flags) (a b : Bool) (mt : Meters) (u v w : Number) where
  abbrev Over : Role → Phase → RevState → Event → Type 0
  Over r ph rv e = Clears (takes_of (standing r f ph rv a b mt u v w) e)

  cleared_here : (n : ℕ) (r : Role) (ph : Phase) (rv : RevState) → placed_of r ph rv ≡ true → in_call ph ≡ true → Over r ph rv (FromAccess 4 n)
  cleared_here n =
      placed (λ (r : Role) (ph : Phase) (rv : RevState). in_call ph ≡ true → Over r ph rv (FromAccess 4 n))
      (λ r i. differ i) (λ r i. differ i) (λ r i. differ i)
      (λ i. record { number = refl; phase = refl }) (λ i. record { number = refl; phase = refl }) (λ i. record { number = refl; phase = refl })
      (λ i. record { number = refl; phase = refl }) (λ i. record { number = refl; phase = refl }) (λ i. record { number = refl; phase = refl })
      (λ i. record { number = refl; phase = refl }) (λ i. record { number = refl; phase = refl }) (λ i. record { number = refl; phase = refl })
      (λ i. record { number = refl; phase = refl }) (λ i. record { number = refl; phase = refl }) (λ i. record { number = refl; phase = refl })
      (λ i. record { number = refl; phase = refl }) (λ i. record { number = refl; phase = refl })

pub access_clears : (c : Call) (n : ℕ) → valid_of c ≡ true → event_ok (FromAccess 4 n) ≡ true → in_call c.stand.phase ≡ true →
    Clears (step_of c (FromAccess 4 n))
access_clears c n v k i =
    subst Clears (sym (row_decides c (FromAccess 4 n) v (opened_then in_call c.stand.phase refl i) refl k))
    (cleared_here c.side.flags c.stand.agreed c.stand.rest c.meters c.side.own c.side.calling c.side.called n
    c.side.role c.stand.phase c.stand.rev (valid_place c v) i)

abbrev is_rel : Kind → Bool
is_rel k = is_kind Kind.Rel k

abbrev ends_all : Test
ends_all r now k p =
    implies (placed_of r now.phase now.rev) (implies (in_call now.phase) (implies (is_rel k)
    (eqb p.number 0 && (eqb (place_in (stand_of p.next now).phase) 4 && is Change.NobodyPays p.change))))

top : (p : Phase) → eqb (place_in p) 4 ≡ true → p ≡ Cleared
top Unopened h = differ h
top Null h = differ h
top Setup h = differ h
top Answered h = differ h
top Cleared h = refl

ends : (c : Call) (p : Plan) (r : Reading) → eqb p.number 0 ≡ true → p.change ≡ Change.NobodyPays → (stand_of p.next c.stand).phase ≡ Cleared →
    Clears (perform_of c p r)
ends c p r a b d =
    subst (λ (x : Bool). Clears (perform_if x c p r)) (sym a)
    (subst (λ (x : Change). Clears (settled_of (change_of x c.meters r.seconds) c p r)) (sym b) (record { number = refl; phase = d }))

rel_kind : (k : ℕ) → eqb k 4 ≡ true → is_rel (kind_of k) ≡ true
rel_kind k h = subst (λ (j : ℕ). is_rel (kind_of j) ≡ true) (sym (eqb-true k 4 h)) refl

not_one : (n : ℕ) → eqb n 0 ≡ true → eqb n 1 ≡ false
not_one n h = ap (λ (k : ℕ). eqb k 1) (eqb-true n 0 h)

pub rel_clears : (c : Call) (m : Message) → valid_of c ≡ true → event_ok (Received m) ≡ true → in_call c.stand.phase ≡ true →
    eqb m.kind 4 ≡ true → Clears (step_of c (Received m))
rel_clears c m v k i h =
    let z = so _ _ (so _ _ (so _ _ (holds ends_all (λ e t a b. refl) c (Received m)) (valid_place c v)) i) (rel_kind m.kind h) in
    let y = right (eqb (plan_for c (Received m)).number 0) _ z in
    subst Clears (sym (row_decides c (Received m) v (opened_then in_call c.stand.phase refl i) refl k ∙ has_plan c (Received m) (not_one (plan_for c (Received m)).number (left (eqb (plan_for c (Received m)).number 0) _ z))))
    (ends c (plan_for c (Received m)) (read_of (Received m)) (left _ _ z)
    (sym (is_that Change.NobodyPays _ (right (eqb (place_in (stand_of (plan_for c (Received m)).next c.stand).phase) 4) _ y))) (top _ (left _ _ y)))

-- ---- Who is charged at the destination

module _ (f : Flags) (b : Bool) (mt : Meters) (u v w : Number) (n : ℕ) where
  abbrev Charges : Phase → RevState → Bool → ℕ → Type 0
  Charges ph rv a k =
      (takes_of (standing Destination f ph rv a b mt u v w) (FromAccess k n)).call.meters.payer ≡ charged_by a ph mt.payer

  setup_charges : (rv : RevState) (a : Bool) (k : ℕ) → setup_told rv k ≡ true → Charges Setup rv a k
  setup_charges Idle a k h = differ h
  setup_charges WaitSetup a k h = differ h
  setup_charges WaitActive a k h = differ h
  setup_charges WaitAnswer true k h = subst (Charges Setup WaitAnswer true) (sym (eqb-true k 5 h)) refl
  setup_charges WaitAnswer false k h = subst (Charges Setup WaitAnswer false) (sym (eqb-true k 5 h)) refl
  setup_charges Active a k h = differ h
  setup_charges WaitSetupConf true k h = subst (Charges Setup WaitSetupConf true) (sym (eqb-true k 1 h)) refl
  setup_charges WaitSetupConf false k h = subst (Charges Setup WaitSetupConf false) (sym (eqb-true k 1 h)) refl
  setup_charges WaitActiveConf a k h = differ h
  setup_charges WaitCalled a k h = differ h

  answered_charges : (rv : RevState) (a : Bool) (k : ℕ) → answered_told rv k ≡ true → Charges Answered rv a k
  answered_charges Idle a k h = differ h
  answered_charges WaitSetup a k h = differ h
  answered_charges WaitActive a k h = differ h
  answered_charges WaitAnswer a k h = differ h
  answered_charges Active a k h = differ h
  answered_charges WaitSetupConf a k h = differ h
  answered_charges WaitActiveConf true k h = subst (Charges Answered WaitActiveConf true) (sym (eqb-true k 1 h)) refl
  answered_charges WaitActiveConf false k h = subst (Charges Answered WaitActiveConf false) (sym (eqb-true k 1 h)) refl
  answered_charges WaitCalled a k h = differ h

  charges : (r : Role) (ph : Phase) (rv : RevState) (a : Bool) (k : ℕ) → access_turns r ph rv k ≡ true →
      (takes_of (standing r f ph rv a b mt u v w) (FromAccess k n)).call.meters.payer ≡ charged_by a ph mt.payer
  charges r Unopened rv a k h = differ h
  charges r Null rv a k h = differ h
  charges Originating Setup rv a k h = differ h
  charges Destination Setup rv a k h = setup_charges rv a k h
  charges Originating Answered rv a k h = differ h
  charges Destination Answered rv a k h = answered_charges rv a k h
  charges r Cleared rv a k h = differ h

pub charged_there : (c : Call) (k n : ℕ) → valid_of c ≡ true → event_ok (FromAccess k n) ≡ true → takes_effect c (FromAccess k n) ≡ true →
    (step_of c (FromAccess k n)).call.meters.payer ≡ charged_by c.stand.agreed c.stand.phase c.meters.payer
charged_there c k n v o h =
    ap (λ (x : Outcome). x.call.meters.payer) (row_decides c (FromAccess k n) v (effect_opened c (FromAccess k n) h) refl o)
    ∙ charges c.side.flags c.stand.rest c.meters c.side.own c.side.calling c.side.called n c.side.role c.stand.phase
    c.stand.rev c.stand.agreed k h

-- ---- The same where the other exchange's result puts it in effect (D45 to D47)

module _ (c : Call) (r : Reading) where
  -- who is charged, if the row applied
  abbrev Charged : Bool → Outcome → Type 0
  Charged t o = o.number ≡ 0 → o.call.meters.payer ≡ charged_by t Answered c.meters.payer

  accepted_charges : (t n b d : Bool) → (not t || (n && (b || (d && leb r.seconds 31536000)))) ≡ true →
      Charged t (perform_of c (Rows.called_accepted (extent_by b) (mode_by t) n d) r)
  accepted_charges false n b d h = λ z. refl
  accepted_charges true true true d h = λ z. refl
  accepted_charges true true false true h =
      settled (Charged true) (received_of c.meters r.seconds) c (Rows.called_accepted Entire Transfer true true) r
      (λ n e z. let g = received c.meters n r.seconds e in g.payer)
      (λ z. absurd (omega (arith, z)))
  accepted_charges true true false false h = λ z. differ h
  accepted_charges true false b d h = λ z. differ h

module _ (f : Flags) (a b : Bool) (mt : Meters) (u v w : Number) (m : Message) where
  abbrev transferred : Bool
  transferred = f.transfer && (bit 2 m.parts && bit 4 m.parts)

  abbrev here : Phase → RevState → Call
  here ph rv = standing Destination f ph rv a b mt u v w

  abbrev Told : RevState → ℕ → Component → Type 0
  Told rv k x =
      Charged (here Answered rv) (read_of (Received m)) transferred
      (takes_of (here Answered rv) (with_these m k x))

  by_result : (rv : RevState) → called_turns rv f b m ≡ true → Told rv m.kind m.component
  by_result Idle h = differ h
  by_result WaitSetup h = differ h
  by_result WaitActive h = differ h
  by_result WaitAnswer h = differ h
  by_result Active h = differ h
  by_result WaitSetupConf h = differ h
  by_result WaitActiveConf h = differ h
  by_result WaitCalled h =
      a_facility (λ (k : ℕ). Told WaitCalled k m.component) m.kind (left _ _ h)
      (a_result (Told WaitCalled 5) 3 m.component (left _ _ (right (is_facility m) _ h))
      (accepted_charges _ _ transferred (bit 16 m.parts) b (bit 64 m.parts)
      (right (result_to 3 m.component) _ (right (is_facility m) _ h))))

  at_destination : (r : Role) (ph : Phase) (rv : RevState) → r ≡ Destination → message_turns r ph rv f b m ≡ true →
      (takes_of (standing r f ph rv a b mt u v w) (Received m)).number ≡ 0 →
      (takes_of (standing r f ph rv a b mt u v w) (Received m)).call.meters.payer ≡ charged_by transferred Answered mt.payer
  at_destination r Unopened rv e h = differ h
  at_destination r Null rv e h = differ h
  at_destination Originating Setup rv e h = let z : false ≡ true = ap is_destination e in differ z
  at_destination Destination Setup rv e h = differ h
  at_destination Originating Answered rv e h = let z : false ≡ true = ap is_destination e in differ z
  at_destination Destination Answered rv e h = by_result rv h
  at_destination r Cleared rv e h = differ h

pub charged_by_result : (c : Call) (m : Message) → c.side.role ≡ Destination → valid_of c ≡ true → event_ok (Received m) ≡ true →
    takes_effect c (Received m) ≡ true →
    (step_of c (Received m)).call.meters.payer
    ≡ charged_by (c.side.flags.transfer && (bit_at 2 m.parts && bit_at 4 m.parts)) Answered c.meters.payer
charged_by_result c m r v o h =
    let e = row_decides c (Received m) v (effect_opened c (Received m) h) refl o in
    ap (λ (x : Outcome). x.call.meters.payer) e
    ∙ at_destination c.side.flags c.stand.agreed c.stand.rest c.meters c.side.own c.side.calling c.side.called m
    c.side.role c.stand.phase c.stand.rev r h
    (sym (ap (λ (x : Outcome). x.number) e) ∙ (reversal_takes_effect c (Received m) v o h).number)
