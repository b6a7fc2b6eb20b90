-- WHICH REQUESTS HAVE A ROW: a request of the own user, and a message of the other exchange with an invoke, is told that there is none where
-- the papers have no row for it; and is answered by the error 12 only where that is due. One test each, computed: every request or invoke
-- in range, at every place that 01 allows.
-- Assumes nothing.
use mathlib.Core.Path.{◌≡◌, refl, sym, ◌∙◌, ap, subst}
use mathlib.Core.Bool.{Bool, true, false, ◌&&◌, ◌||◌, not}
use Prim.Native.Nat.{ℕ}
use native.Mathlib.Omega.{arith}
use lib.Dec.{T, eqb, leb}
use borrow.Author.Tests.{eqb-true, leb-true}
use Rattle.std.specs.Prelude.{Option}
use Rattle.meters.specs.Meters.{change_of}
use Rattle.rows.specs.Find.{row_for_of}
use Rattle.rows.specs.Perform.{note_of, no_note, perform_if, perform_of}
use Rattle.rows.specs.Promises.{sent, is_facility, is_invoke, error_is, tells_running, asks_reversal, says_no_row, request_has_row, invoke_has_row}
use Rattle.rows.specs.Read.{read_of, cue_of, terms_of}
use Rattle.rows.specs.Step.{if_row, takes_of, is_opening, if_timely, if_call, step_of}
use Rattle.rows.specs.Valid.{valid_of, event_ok}
use Rattle.rows.specs.Why.{is_row}
use Rattle.rows.specs.declared.Call.{Call}
use Rattle.rows.specs.declared.Component.{Component}
use Rattle.rows.specs.declared.Component.TheVariants.{Invoke}
use Rattle.rows.specs.declared.Event.{Event}
use Rattle.rows.specs.declared.Event.TheVariants.{Ask, Received}
use Rattle.rows.specs.declared.Message.{Message}
use Rattle.rows.specs.declared.Note.{Note}
use Rattle.rows.specs.declared.Number.{Number}
use Rattle.rows.specs.declared.Outcome.{Outcome}
use Rattle.rows.specs.declared.Phase.{Phase}
use Rattle.rows.specs.declared.Phase.TheVariants.{Unopened, Null, Setup, Answered, Cleared}
use Rattle.rows.specs.declared.Plan.{Plan}
use Rattle.rows.specs.declared.Reading.{Reading}
use Rattle.rows.specs.declared.RevState.{RevState}
use Rattle.rows.specs.declared.Role.{Role}
use Rattle.rows.specs.declared.Row.{Row}
use Rattle.rows.specs.declared.Terms.{Terms}
use Rattle.rows.proofs.Answers.{plan_for, performed, settled, by_why, has_plan, refused_or_performed, is_unopened}
use Rattle.rows.proofs.Below.{every, below}
use Rattle.rows.proofs.Found.{implies, so, row_plans, wherever, at_place}
use Rattle.rows.proofs.Progress.{valid_place, with_these}
use Rattle.rows.proofs.Ranges.{message_in_range}
use Rattle.rows.proofs.Running.{any_invoke}
use Rattle.rows.proofs.Truth.{differ, either, left, right}

is_true : (b : Bool) → T b → b ≡ true
is_true true t = refl
is_true false t = absurd t

-- ---- No row is said exactly where the plan has 1: the meters refuse with 2, and no row's plan has another number than 0 and 4

-- 1 unless there is a row
abbrev one_unless : Bool → Plan → Bool
one_unless true p = eqb p.number 0 || eqb p.number 4
one_unless false p = eqb p.number 1

abbrev Said : Outcome → Bool → Type 0
Said o b = says_no_row o.number ≡ b

-- a plan of a row
of_a_row_lem : (c : Call) (p : Plan) (r : Reading) (b : Bool) → eqb p.number 0 ≡ b → (b || eqb p.number 4) ≡ true → Said (perform_if b c p r) false
of_a_row_lem c p r true h i =
    settled (λ (o : Outcome). Said o false) (change_of p.change c.meters r.seconds) c p r (λ n d. refl) refl
of_a_row_lem c p r false h i = ap says_no_row (eqb-true p.number 4 i)

zero_or_four : (n : ℕ) → (eqb n 0 || eqb n 4) ≡ true → eqb n 1 ≡ false
zero_or_four n h =
    either (eqb n 0) (eqb n 4) h (λ i. ap (λ (k : ℕ). eqb k 1) (eqb-true n 0 i)) (λ i. ap (λ (k : ℕ). eqb k 1) (eqb-true n 4 i))

module _ (c : Call) (e : Event) where
  abbrev found : Option Row
  found = row_for_of c.side.role c.stand.phase c.stand.rev (cue_of (read_of e))

  abbrev terms : Terms
  terms = terms_of c.side.flags c.stand (read_of e)

  no_plan : (b : Bool) → is_row found ≡ b → eqb (plan_for c e).number 1 ≡ true → Said (if_row b found c (read_of e)) true
  no_plan true h w = differ (sym (zero_or_four (plan_for c e).number (row_plans c.side.role c.stand.phase c.stand.rev (cue_of (read_of e)) terms h)) ∙ w)
  no_plan false h w = by_why (λ (n : ℕ). says_no_row n ≡ true) c.side.role c.stand.phase (cue_of (read_of e)) refl refl refl

  by_the_table : (h : Bool) → one_unless h (plan_for c e) ≡ true → Said (takes_of c e) (not h)
  by_the_table true w =
      subst (λ (o : Outcome). Said o false) (sym (has_plan c e (zero_or_four (plan_for c e).number w)))
      (of_a_row_lem c (plan_for c e) (read_of e) (eqb (plan_for c e).number 0) refl w)
  by_the_table false w = no_plan (is_row found) refl w

  -- before the opening it is 17
  in_time_lem : (h : Bool) (p : Phase) → (is_unopened p ≡ true → h ≡ false) → is_opening e ≡ false → event_ok e ≡ true →
      one_unless h (plan_for c e) ≡ true → Said (if_timely p (is_opening e) c e) (not h)
  in_time_lem h Unopened u o k w = rw (u refl, o) refl
  in_time_lem h Null u o k w = rw (o, k) (by_the_table h w)
  in_time_lem h Setup u o k w = rw (o, k) (by_the_table h w)
  in_time_lem h Answered u o k w = rw (o, k) (by_the_table h w)
  in_time_lem h Cleared u o k w = rw k (by_the_table h w)

-- ---- A test of the plan that every request, and every invoke in range, finds: computed once, at every place

of_plan : (g : Role → Phase → RevState → Plan → Bool) (c : Call) (e : Event) → valid_of c ≡ true →
    ((t : Terms) → wherever g (cue_of (read_of e)) t ≡ true) → g c.side.role c.stand.phase c.stand.rev (plan_for c e) ≡ true
of_plan g c e v w =
    let t = terms_of c.side.flags c.stand (read_of e) in
    at_place g (cue_of (read_of e)) t (w t) c.side.role c.stand.phase c.stand.rev (valid_place c v)

each_request : (g : ℕ → Role → Phase → RevState → Plan → Bool) (n : Number) →
    ((t : Terms) → T (every (λ j. wherever (g j) (cue_of (read_of (Ask j n))) t) 4)) →
    (c : Call) (q : ℕ) → valid_of c ≡ true → event_ok (Ask q n) ≡ true →
    g q c.side.role c.stand.phase c.stand.rev (plan_for c (Ask q n)) ≡ true
each_request g n w c q v k =
    of_plan (g q) c (Ask q n) v
    (λ t. is_true _ (below (λ j. wherever (g j) (cue_of (read_of (Ask j n))) t) 4 (w t) q (omega (arith, leb-true q 3 (left (leb q 3) _ k)))))

-- of the message k with the operation n
abbrev invoke_test : (ℕ → ℕ → Role → Phase → RevState → Plan → Bool) → Message → Terms → ℕ → ℕ → Bool
invoke_test g m t j n = implies (leb 1 j) (wherever (g j n) (cue_of (read_of (with_these m j (Invoke n)))) t)

each_invoke : (g : ℕ → ℕ → Role → Phase → RevState → Plan → Bool) (m : Message) →
    ((t : Terms) → T (every (λ j. every (invoke_test g m t j) 4) 6)) →
    (c : Call) (n : ℕ) → valid_of c ≡ true → event_ok (with_these m m.kind (Invoke n)) ≡ true →
    g m.kind n c.side.role c.stand.phase c.stand.rev (plan_for c (with_these m m.kind (Invoke n))) ≡ true
each_invoke g m w c n v o =
    let fields = message_in_range (sent m.kind m.cause (Invoke n) m.parts m.calling m.called m.duration) o in
    let range = fields.kind in
    let ops = fields.item in
    of_plan (g m.kind n) c (with_these m m.kind (Invoke n)) v
    (λ t. so (leb 1 m.kind) _
    (is_true _ (below (invoke_test g m t m.kind) 4
    (below (λ j. every (invoke_test g m t j) 4) 6 (w t) m.kind (omega (arith, leb-true m.kind 5 (right (leb 1 m.kind) _ range)))) n
    (omega (arith, leb-true n 3 (right (leb 1 n) _ ops)))))
    (left (leb 1 m.kind) _ range))

-- ---- So no row is said exactly where there is none

no_row_exactly : (c : Call) (e : Event) (f : Phase → Bool) → valid_of c ≡ true → is_opening e ≡ false → event_ok e ≡ true → f Unopened ≡ false →
    one_unless (f c.stand.phase) (plan_for c e) ≡ true → says_no_row (step_of c e).number ≡ not (f c.stand.phase)
no_row_exactly c e f v o k u w =
    subst (λ (b : Bool). Said (if_call b c e) (not (f c.stand.phase))) (sym v)
    (in_time_lem c e (f c.stand.phase) c.stand.phase (at_first c.stand.phase) o k w)
  where
    at_first : (p : Phase) → is_unopened p ≡ true → f p ≡ false
    at_first Unopened h = u
    at_first Null h = differ h
    at_first Setup h = differ h
    at_first Answered h = differ h
    at_first Cleared h = differ h

pub request_no_row_exactly : (c : Call) (q : ℕ) (n : Number) → valid_of c ≡ true → event_ok (Ask q n) ≡ true →
    says_no_row (step_of c (Ask q n)).number ≡ not (request_has_row c.side.role c.stand.phase c.stand.rev q)
request_no_row_exactly c q n v k =
    no_row_exactly c (Ask q n) (λ p. request_has_row c.side.role p c.stand.rev q) v refl k refl
    (each_request (λ j r p s. one_unless (request_has_row r p s j)) n (λ t. tt) c q v k)

pub invoke_no_row_exactly : (c : Call) (m : Message) → valid_of c ≡ true → event_ok (Received m) ≡ true → is_invoke m.component ≡ true →
    says_no_row (step_of c (Received m)).number ≡ not (invoke_has_row c.side.role c.stand.phase c.stand.rev m.kind m.component)
invoke_no_row_exactly c m v k h =
    any_invoke Exact m.component h
    (λ n o. no_row_exactly c (with_these m m.kind (Invoke n)) (λ p. invoke_has_row c.side.role p c.stand.rev m.kind (Invoke n)) v refl o refl
    (each_invoke (λ j i r p s. one_unless (invoke_has_row r p s j (Invoke i))) m (λ t. tt) c n v o)) k
  where
    Exact : Component → Type 0
    Exact x =
        event_ok (with_these m m.kind x) ≡ true →
        says_no_row (step_of c (with_these m m.kind x)).number
        ≡ not (invoke_has_row c.side.role c.stand.phase c.stand.rev m.kind x)

-- ---- 12 only where it is running

-- what an answer says, its plan has: a refusal says nothing
carried : (P : Note → Bool) → P no_note ≡ false → (c : Call) (p : Plan) (r : Reading) → P (perform_of c p r).note ≡ true →
    P (note_of p.error p.cause p.component p.parts c.side.own c.meters.caller) ≡ true
carried P z c p r = outcome (eqb p.number 0)
  where
    outcome : (b : Bool) → P (perform_if b c p r).note ≡ true →
        P (note_of p.error p.cause p.component p.parts c.side.own c.meters.caller) ≡ true
    outcome true =
        settled
        (λ (o : Outcome). P o.note ≡ true → P (note_of p.error p.cause p.component p.parts c.side.own c.meters.caller) ≡ true)
        (change_of p.change c.meters r.seconds) c p r (λ n d h. h) (λ h. differ (sym z ∙ h))
    outcome false = λ h. differ (sym z ∙ h)

-- and a step that says something carried out its plan
noted : (c : Call) (e : Event) (P : Note → Bool) → P no_note ≡ false → P (step_of c e).note ≡ true → P (performed c e).note ≡ true
noted c e P z =
    let w : P no_note ≡ true → P (performed c e).note ≡ true = λ h. differ (sym z ∙ h) in
    refused_or_performed (λ (o : Outcome). P o.note ≡ true → P (performed c e).note ≡ true) c e w
    (record { one = w; three = λ k. w; fifteen = w; sixteen = w; seventeen = w; twenty = w }) (λ h. h)

pub told_only_running : (c : Call) (q : ℕ) (n : Number) → valid_of c ≡ true → event_ok (Ask q n) ≡ true →
    eqb (step_of c (Ask q n)).note.error 12 ≡ true → (tells_running c.stand.rev && asks_reversal q) ≡ true
told_only_running c q n v k h =
    so (eqb (plan_for c (Ask q n)).error 12) _
    (each_request (λ j r p s x. implies (eqb x.error 12) (tells_running s && asks_reversal j)) n (λ t. tt) c q v k)
    (carried (λ (x : Note). eqb x.error 12) refl c (plan_for c (Ask q n)) (read_of (Ask q n))
    (noted c (Ask q n) (λ (x : Note). eqb x.error 12) refl h))

pub sent_only_running : (c : Call) (m : Message) → valid_of c ≡ true → event_ok (Received m) ≡ true → is_invoke m.component ≡ true →
    error_is 12 (step_of c (Received m)).note.component ≡ true → (is_facility m && tells_running c.stand.rev) ≡ true
sent_only_running c m v k i h = any_invoke Only m.component i (λ n o y. only n o y) k h
  where
    Only : Component → Type 0
    Only x =
        event_ok (with_these m m.kind x) ≡ true → error_is 12 (step_of c (with_these m m.kind x)).note.component ≡ true →
        (is_facility m && tells_running c.stand.rev) ≡ true

    only : (n : ℕ) → Only (Invoke n)
    only n o y =
        let e = with_these m m.kind (Invoke n) in
        so (error_is 12 (plan_for c e).component) _
        (each_invoke (λ j z r p s x. implies (error_is 12 x.component) (eqb j 5 && tells_running s)) m (λ t. tt) c n v o)
        (carried (λ (x : Note). error_is 12 x.component) refl c (plan_for c e) (read_of e)
        (noted c e (λ (x : Note). error_is 12 x.component) refl y))
