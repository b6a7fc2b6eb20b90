-- WHY A REFUSAL: each answer comes about in one of six ways, and its number says which.
-- Assumes nothing.
use mathlib.Core.Path.{◌≡◌, refl, sym, ◌∙◌, ap, subst}
use mathlib.Core.Bool.{Bool, true, false, ◌&&◌, ◌||◌}
use mathlib.Core.Logic.{◌↔◌, ◌⊎◌, inl, inr}
use Prim.Native.Nat.{ℕ}
use lib.Dec.{eqb}
use borrow.Author.Tests.{eqb-true, eq-eqb}
use Rattle.std.specs.Prelude.{Option, None}
use Rattle.meters.specs.Meters.{change_of}
use Rattle.rows.specs.Bill.{an_opening}
use Rattle.rows.specs.Find.{row_for_of}
use Rattle.rows.specs.Perform.{refused_at, refused_of, perform_if}
use Rattle.rows.specs.Read.{asked_of, told_of, heard_of, kind_of, read_of, cue_of, terms_of}
use Rattle.rows.specs.Reasons.{Vacant, Timely, Looked, row_at, HasRowIn, Never, OnlyElsewhere, OtherState, reason, SameComponent}
use Rattle.rows.specs.Reasons.{no_component_lem, an_invoke, a_result}
use Rattle.rows.specs.Reasons.{an_error, a_reject, SameEvent, an_opening_lem, a_request, a_message, an_access, an_expiry, a_time}
use Rattle.rows.specs.Step.{if_row, taken_by, if_in_range, is_opening, untimely_of, in_time, if_timely, if_call, step_of, may_open}
use Rattle.rows.specs.Valid.{pickℕ, placed_of, valid_of, event_ok, bad_field_of}
use Rattle.rows.specs.Why.{is_row, some_state, some_phase, row_in, row_ever, why_of}
use Rattle.rows.specs.declared.Call.{Call}
use Rattle.rows.specs.declared.Component.{Component}
use Rattle.rows.specs.declared.Cue.{Cue}
use Rattle.rows.specs.declared.Event.{Event}
use Rattle.rows.specs.declared.Event.TheVariants.{Opening, Ask, Received, FromAccess, Expiry, Time}
use Rattle.rows.specs.declared.Heard.{Heard}
use Rattle.rows.specs.declared.Number.{Number}
use Rattle.rows.specs.declared.Outcome.{Outcome}
use Rattle.rows.specs.declared.Phase.{Phase}
use Rattle.rows.specs.declared.Phase.TheVariants.{Unopened, Null, Setup, Answered, Cleared}
use Rattle.rows.specs.declared.Plan.{Plan}
use Rattle.rows.specs.declared.Reading.{Reading}
use Rattle.rows.specs.declared.RevState.{RevState}
use Rattle.rows.specs.declared.RevState.TheVariants.{Idle, WaitSetup, WaitActive, WaitAnswer, Active, WaitSetupConf, WaitActiveConf}
use Rattle.rows.specs.declared.RevState.TheVariants.{WaitCalled}
use Rattle.rows.specs.declared.Role.{Role}
use Rattle.rows.specs.declared.Role.TheVariants.{Originating, Destination}
use Rattle.rows.specs.declared.Row.{Row}
use Rattle.rows.proofs.Answers.{plan_for, performed, settled, row_or_none, by_why, is_unopened, row_decides}
use Rattle.rows.proofs.Found.{row_plans}
use Rattle.rows.proofs.Progress.{valid_place}
use Rattle.rows.proofs.Truth.{both, differ, either, left, or_true, right}
use Rattle.rows.proofs.Whole.{after_clearing}

-- ---- In its time: the test, and what it says

is_false : (b : Bool) → (b ≡ true → ⊥) → b ≡ false
is_false true h = absurd (h refl)
is_false false h = refl

pub not_equal : {A : Type 0} (n m : ℕ) → eqb n m ≡ false → n ≡ m → A
not_equal n m h i = differ (sym h ∙ eq-eqb n m i)

pub vacant_is : (p : Phase) → may_open p ≡ true → Vacant p
vacant_is Unopened h = inl refl
vacant_is Null h = differ h
vacant_is Setup h = differ h
vacant_is Answered h = differ h
vacant_is Cleared h = inr refl

pub vacant_may : (p : Phase) → Vacant p → may_open p ≡ true
vacant_may p (inl h) = ap may_open h
vacant_may p (inr h) = ap may_open h

-- what the test of the time says, and what follows from it
abbrev InTime : Phase → Bool → Type 0
InTime p b = (b ≡ true → Vacant p) × (b ≡ false → p ≡ Unopened → ⊥)

in_its_time : (p : Phase) (b : Bool) → untimely_of p b ≡ 0 → InTime p b
in_its_time Unopened true t = (λ h. inl refl, λ h. differ (sym h))
in_its_time Unopened false t = not_equal 17 0 refl t
in_its_time Null true t = not_equal 20 0 refl t
in_its_time Null false t = (λ h. differ h, λ h i. differ (ap is_unopened i))
in_its_time Setup true t = not_equal 20 0 refl t
in_its_time Setup false t = (λ h. differ h, λ h i. differ (ap is_unopened i))
in_its_time Answered true t = not_equal 20 0 refl t
in_its_time Answered false t = (λ h. differ h, λ h i. differ (ap is_unopened i))
in_its_time Cleared b t = (λ h. inr refl, λ h i. differ (ap is_unopened i))

time_test : (p : Phase) (b : Bool) → InTime p b → untimely_of p b ≡ 0
time_test Unopened true w = refl
time_test Unopened false w = absurd (w.1 refl refl)
time_test Null true w = differ (vacant_may Null (w.0 refl))
time_test Null false w = refl
time_test Setup true w = differ (vacant_may Setup (w.0 refl))
time_test Setup false w = refl
time_test Answered true w = differ (vacant_may Answered (w.0 refl))
time_test Answered false w = refl
time_test Cleared b w = refl

in_use_20 : (p : Phase) → may_open p ≡ false → untimely_of p true ≡ 20
in_use_20 Unopened h = differ (sym h)
in_use_20 Null h = refl
in_use_20 Setup h = refl
in_use_20 Answered h = refl
in_use_20 Cleared h = differ (sym h)

-- ---- The six ways

pub data Way (c : Call) (e : Event) : Outcome → Type 0 where
  no_call : valid_of c ≡ false → Way c e (refused_of 9 c)
  too_early : valid_of c ≡ true → c.stand.phase ≡ Unopened → is_opening e ≡ false → Way c e (refused_of 17 c)
  in_use : valid_of c ≡ true → may_open c.stand.phase ≡ false → is_opening e ≡ true → Way c e (refused_of 20 c)
  out_of_range : valid_of c ≡ true → Timely c e → event_ok e ≡ false → Way c e (refused_at 3 (bad_field_of e) c)
  no_row : Looked c e → is_row (row_at c.side.role c.stand.phase c.stand.rev e) ≡ false →
      Way c e (refused_of (why_of c.side.role c.stand.phase (cue_of (read_of e))) c)
  a_row : Looked c e → is_row (row_at c.side.role c.stand.phase c.stand.rev e) ≡ true → Way c e (performed c e)

module _ (c : Call) (e : Event) where
  abbrev row : Option Row
  row = row_at c.side.role c.stand.phase c.stand.rev e

  by_row : Looked c e → (b : Bool) → is_row row ≡ b → Way c e (if_row b row c (read_of e))
  by_row l true h = a_row l h
  by_row l false h = no_row l h

  by_range : valid_of c ≡ true → Timely c e → (b : Bool) → event_ok e ≡ b → Way c e (if_in_range b c e)
  by_range v t true h = by_row (record { valid = v; timely = t; ranged = h }) (is_row row) refl
  by_range v t false h = out_of_range v t h

  -- the test of the time passed
  timely : (p : Phase) (b : Bool) → c.stand.phase ≡ p → is_opening e ≡ b → untimely_of p b ≡ 0 → Timely c e
  timely p b h i t =
      in_its_time c.stand.phase (is_opening e) (ap (λ (x : Phase). untimely_of x (is_opening e)) h ∙ ap (untimely_of p) i ∙ t)

  by_time : valid_of c ≡ true → (p : Phase) (b : Bool) → c.stand.phase ≡ p → is_opening e ≡ b → Way c e (if_timely p b c e)
  by_time v Unopened true h i = by_range v (timely Unopened true h i refl) (event_ok e) refl
  by_time v Unopened false h i = too_early v h i
  by_time v Null true h i = in_use v (ap may_open h) i
  by_time v Null false h i = by_range v (timely Null false h i refl) (event_ok e) refl
  by_time v Setup true h i = in_use v (ap may_open h) i
  by_time v Setup false h i = by_range v (timely Setup false h i refl) (event_ok e) refl
  by_time v Answered true h i = in_use v (ap may_open h) i
  by_time v Answered false h i = by_range v (timely Answered false h i refl) (event_ok e) refl
  by_time v Cleared b h i = by_range v (timely Cleared b h i refl) (event_ok e) refl

  by_call : (b : Bool) → valid_of c ≡ b → Way c e (if_call b c e)
  by_call true h = by_time h c.stand.phase (is_opening e) refl refl
  by_call false h = no_call h

  pub way : Way c e (step_of c e)
  way = by_call (valid_of c) refl

-- ---- What a row gives: 0, 2 or 4, and no field

abbrev pub of_a_row : ℕ → Bool
of_a_row n = eqb n 0 || (eqb n 2 || eqb n 4)

performed_number : (c : Call) (p : Plan) (r : Reading) (b : Bool) → eqb p.number 0 ≡ b → (b || eqb p.number 4) ≡ true →
    of_a_row (perform_if b c p r).number ≡ true
performed_number c p r true h i =
    settled (λ (o : Outcome). of_a_row o.number ≡ true) (change_of p.change c.meters r.seconds) c p r (λ n d. refl) refl
performed_number c p r false h i = ap of_a_row (eqb-true p.number 4 i)

row_number : (c : Call) (e : Event) → is_row (row c e) ≡ true → of_a_row (performed c e).number ≡ true
row_number c e h =
    performed_number c (plan_for c e) (read_of e) (eqb (plan_for c e).number 0) refl
    (row_plans c.side.role c.stand.phase c.stand.rev (cue_of (read_of e)) (terms_of c.side.flags c.stand (read_of e)) h)

performed_field : (c : Call) (p : Plan) (r : Reading) (b : Bool) → (perform_if b c p r).field ≡ 0
performed_field c p r true =
    settled (λ (o : Outcome). o.field ≡ 0) (change_of p.change c.meters r.seconds) c p r (λ n d. refl) refl
performed_field c p r false = refl

not_of_a_row : {A : Type 0} (n m : ℕ) → of_a_row n ≡ true → of_a_row m ≡ false → n ≡ m → A
not_of_a_row n m h i j = differ (sym i ∙ sym (ap of_a_row j) ∙ h)

-- one of 1, 15 and 16, so none of the others
abbrev a_reason : ℕ → Bool
a_reason n = eqb n 1 || (eqb n 15 || eqb n 16)

why_a_reason : (r : Role) (p : Phase) (e : Cue) → a_reason (why_of r p e) ≡ true
why_a_reason r p e = by_why (λ (n : ℕ). a_reason n ≡ true) r p e refl refl refl

pub not_a_reason : {A : Type 0} (r : Role) (p : Phase) (e : Cue) (m : ℕ) → a_reason m ≡ false → why_of r p e ≡ m → A
not_a_reason r p e m h i = differ (sym h ∙ sym (ap a_reason i) ∙ why_a_reason r p e)

-- what follows from a number that no row gives, by the ways that may give it
module _ (c : Call) (e : Event) (n : ℕ) (q : of_a_row n ≡ false) {A : Type 0} (nine : valid_of c ≡ false → 9 ≡ n → A)
    (early : valid_of c ≡ true → c.stand.phase ≡ Unopened → is_opening e ≡ false → 17 ≡ n → A)
    (again : valid_of c ≡ true → may_open c.stand.phase ≡ false → is_opening e ≡ true → 20 ≡ n → A)
    (bad : valid_of c ≡ true → Timely c e → event_ok e ≡ false → 3 ≡ n → A)
    (missing : Looked c e → is_row (row c e) ≡ false → why_of c.side.role c.stand.phase (cue_of (read_of e)) ≡ n → A) where
  by_way : {o : Outcome} → Way c e o → o.number ≡ n → A
  by_way (no_call v) h = nine v h
  by_way (too_early v u i) h = early v u i h
  by_way (in_use v u i) h = again v u i h
  by_way (out_of_range v t k) h = bad v t k h
  by_way (no_row l w) h = missing l w h
  by_way (a_row l w) h = not_of_a_row (performed c e).number n (row_number c e w) q h

  by_number : (step_of c e).number ≡ n → A
  by_number = by_way (way c e)

-- ---- 17, 20 and 3

pub seventeen_exactly : (c : Call) (e : Event) →
    ((step_of c e).number ≡ 17) ↔ ((valid_of c ≡ true) × (c.stand.phase ≡ Unopened) × (is_opening e ≡ false))
seventeen_exactly c e = (
  by_number c e 17 refl (λ v. not_equal 9 17 refl) (λ v u i h. (v, u, i)) (λ v u i. not_equal 20 17 refl) (λ v t k. not_equal 3 17 refl)
      (λ l w. not_a_reason c.side.role c.stand.phase (cue_of (read_of e)) 17 refl),
  given,
)
  where
    given : (valid_of c ≡ true) × (c.stand.phase ≡ Unopened) × (is_opening e ≡ false) → (step_of c e).number ≡ 17
    given (v, u, i) =
        ap (λ (b : Bool). (if_call b c e).number) v ∙ ap (λ (p : Phase). (if_timely p (is_opening e) c e).number) u
        ∙ ap (λ (b : Bool). (if_timely Unopened b c e).number) i

pub twenty_exactly : (c : Call) (e : Event) →
    ((step_of c e).number ≡ 20)
    ↔ ((valid_of c ≡ true) × (c.stand.phase ≡ Unopened → ⊥) × (c.stand.phase ≡ Cleared → ⊥) × (is_opening e ≡ true))
twenty_exactly c e = (
  by_number c e 20 refl (λ v. not_equal 9 20 refl) (λ v u i. not_equal 17 20 refl)
      (λ v u i h. (v, λ p. differ (sym u ∙ ap may_open p), λ p. differ (sym u ∙ ap may_open p), i)) (λ v t k. not_equal 3 20 refl)
      (λ l w. not_a_reason c.side.role c.stand.phase (cue_of (read_of e)) 20 refl),
  given,
)
  where
    neither : (c.stand.phase ≡ Unopened → ⊥) → (c.stand.phase ≡ Cleared → ⊥) → Vacant c.stand.phase → ⊥
    neither u w (inl h) = u h
    neither u w (inr h) = w h

    given : (valid_of c ≡ true) × (c.stand.phase ≡ Unopened → ⊥) × (c.stand.phase ≡ Cleared → ⊥) × (is_opening e ≡ true) →
        (step_of c e).number ≡ 20
    given (v, u, w, i) =
        ap (λ (b : Bool). (if_call b c e).number) v ∙ ap (λ (b : Bool). (if_timely c.stand.phase b c e).number) i
        ∙ ap (λ (n : ℕ). (in_time (eqb n 0) n c e).number)
        (in_use_20 c.stand.phase (is_false (may_open c.stand.phase) (λ h. neither u w (vacant_is c.stand.phase h))))

-- timely: nothing but the fields and the tables is left to judge
pub timely_step : (c : Call) (e : Event) → valid_of c ≡ true → Timely c e → step_of c e ≡ if_in_range (event_ok e) c e
timely_step c e v t =
    ap (λ (b : Bool). if_call b c e) v ∙ ap (λ (n : ℕ). in_time (eqb n 0) n c e) (time_test c.stand.phase (is_opening e) t)

pub three_exactly : (c : Call) (e : Event) → ((step_of c e).number ≡ 3) ↔ ((valid_of c ≡ true) × Timely c e × (event_ok e ≡ false))
three_exactly c e = (
  by_number c e 3 refl (λ v. not_equal 9 3 refl) (λ v u i. not_equal 17 3 refl) (λ v u i. not_equal 20 3 refl) (λ v t k h. (v, t, k))
      (λ l w. not_a_reason c.side.role c.stand.phase (cue_of (read_of e)) 3 refl),
  given,
)
  where
    given : (valid_of c ≡ true) × Timely c e × (event_ok e ≡ false) → (step_of c e).number ≡ 3
    given (v, t, k) = ap (λ (o : Outcome). o.number) (timely_step c e v t) ∙ ap (λ (b : Bool). (if_in_range b c e).number) k

-- the ordinal is told beside 3, and 0 beside every other number
pub three_tells : (c : Call) (e : Event) → (step_of c e).number ≡ 3 → (step_of c e).field ≡ bad_field_of e
three_tells c e = told (way c e)
  where
    told : {o : Outcome} → Way c e o → o.number ≡ 3 → o.field ≡ bad_field_of e
    told (no_call v) h = not_equal 9 3 refl h
    told (too_early v u i) h = not_equal 17 3 refl h
    told (in_use v u i) h = not_equal 20 3 refl h
    told (out_of_range v t k) h = refl
    told (no_row l w) h = not_a_reason c.side.role c.stand.phase (cue_of (read_of e)) 3 refl h
    told (a_row l w) h = not_of_a_row (performed c e).number 3 (row_number c e w) refl h

pub else_no_field : (c : Call) (e : Event) → ((step_of c e).number ≡ 3 → ⊥) → (step_of c e).field ≡ 0
else_no_field c e = told (way c e)
  where
    told : {o : Outcome} → Way c e o → (o.number ≡ 3 → ⊥) → o.field ≡ 0
    told (no_call v) h = refl
    told (too_early v u i) h = refl
    told (in_use v u i) h = refl
    told (out_of_range v t k) h = absurd (h refl)
    told (no_row l w) h = refl
    told (a_row l w) h = performed_field c (plan_for c e) (read_of e) (eqb (plan_for c e).number 0)

-- ---- A row in a phase, and at any time: the tests and what they say

or_left : (a b : Bool) → a ≡ true → (a || b) ≡ true
or_left true b h = refl
or_left false b h = differ h

some_state_lem : (f : RevState → Bool) (s : RevState) → f s ≡ true → some_state f ≡ true
some_state_lem f Idle h = or_left _ _ h
some_state_lem f WaitSetup h = or_true (f Idle) _ (or_left _ _ h)
some_state_lem f WaitActive h = or_true (f Idle) _ (or_true (f WaitSetup) _ (or_left _ _ h))
some_state_lem f WaitAnswer h = or_true (f Idle) _ (or_true (f WaitSetup) _ (or_true (f WaitActive) _ (or_left _ _ h)))
some_state_lem f Active h = or_true (f Idle) _ (or_true (f WaitSetup) _ (or_true (f WaitActive) _ (or_true (f WaitAnswer) _ (or_left _ _ h))))
some_state_lem f WaitSetupConf h =
    or_true (f Idle) _ (or_true (f WaitSetup) _ (or_true (f WaitActive) _ (or_true (f WaitAnswer) _ (or_true (f Active) _ (or_left _ _ h)))))
some_state_lem f WaitActiveConf h =
    or_true (f Idle) _
    (or_true (f WaitSetup) _ (or_true (f WaitActive) _ (or_true (f WaitAnswer) _ (or_true (f Active) _ (or_true (f WaitSetupConf) _ (or_left _ _ h))))))
some_state_lem f WaitCalled h =
    or_true (f Idle) _
    (or_true (f WaitSetup) _
    (or_true (f WaitActive) _ (or_true (f WaitAnswer) _ (or_true (f Active) _ (or_true (f WaitSetupConf) _ (or_true (f WaitActiveConf) _ h))))))

which_state : (f : RevState → Bool) → some_state f ≡ true → (s : RevState) × (f s ≡ true)
which_state f h =
    either (f Idle) _ h (λ i. (Idle, i)) (λ h.
    either (f WaitSetup) _ h (λ i. (WaitSetup, i)) (λ h.
    either (f WaitActive) _ h (λ i. (WaitActive, i)) (λ h.
    either (f WaitAnswer) _ h (λ i. (WaitAnswer, i)) (λ h.
    either (f Active) _ h (λ i. (Active, i)) (λ h.
    either (f WaitSetupConf) _ h (λ i. (WaitSetupConf, i)) (λ h.
    either (f WaitActiveConf) _ h (λ i. (WaitActiveConf, i)) (λ i. (WaitCalled, i))))))))

some_phase_lem : (f : Phase → Bool) (p : Phase) → f p ≡ true → some_phase f ≡ true
some_phase_lem f Unopened h = or_left _ _ h
some_phase_lem f Null h = or_true (f Unopened) _ (or_left _ _ h)
some_phase_lem f Setup h = or_true (f Unopened) _ (or_true (f Null) _ (or_left _ _ h))
some_phase_lem f Answered h = or_true (f Unopened) _ (or_true (f Null) _ (or_true (f Setup) _ (or_left _ _ h)))
some_phase_lem f Cleared h = or_true (f Unopened) _ (or_true (f Null) _ (or_true (f Setup) _ (or_true (f Answered) _ h)))

which_phase : (f : Phase → Bool) → some_phase f ≡ true → (p : Phase) × (f p ≡ true)
which_phase f h =
    either (f Unopened) _ h (λ i. (Unopened, i)) (λ h.
    either (f Null) _ h (λ i. (Null, i)) (λ h.
    either (f Setup) _ h (λ i. (Setup, i)) (λ h. either (f Answered) _ h (λ i. (Answered, i)) (λ i. (Cleared, i)))))

is_row_lem : (x : Option Row) → (x ≡ None → ⊥) → is_row x ≡ true
is_row_lem x = row_or_none (λ (y : Option Row). (y ≡ None → ⊥) → is_row y ≡ true) x (λ h i. h) (λ i. absurd (i refl))

not_none : (x : Option Row) → is_row x ≡ true → x ≡ None → ⊥
not_none x h i = differ (sym (ap is_row i) ∙ h)

is_none : (x : Option Row) → is_row x ≡ false → x ≡ None
is_none x = row_or_none (λ (y : Option Row). is_row y ≡ false → y ≡ None) x (λ h i. differ (sym i ∙ h)) (λ i. refl)

module _ (r : Role) (e : Event) where
  abbrev cue : Cue
  cue = cue_of (read_of e)

  has : (p : Phase) → row_in r p cue ≡ true → HasRowIn r p e
  has p h =
      let w = which_state (λ s. placed_of r p s && is_row (row_at r p s e)) h in
      record { rev = w.0; placed = left (placed_of r p w.0) _ w.1; row = not_none _ (right (placed_of r p w.0) _ w.1) }

  found : (p : Phase) → HasRowIn r p e → row_in r p cue ≡ true
  found p h = some_state_lem (λ s. placed_of r p s && is_row (row_at r p s e)) h.rev (both h.placed (is_row_lem _ h.row))

  ever : (p : Phase) → HasRowIn r p e → row_ever r cue ≡ true
  ever p h = some_phase_lem (λ q. row_in r q cue) p (found p h)

  sometime : row_ever r cue ≡ true → (q : Phase) × HasRowIn r q e
  sometime h = let w = which_phase (λ q. row_in r q cue) h in (w.0, has w.0 w.1)

  none : (p : Phase) → row_in r p cue ≡ false → HasRowIn r p e → ⊥
  none p h i = differ (sym h ∙ found p i)

  -- the number, by what the tables have
  sixteen : (p : Phase) (b : Bool) → row_in r p cue ≡ b → pickℕ b 16 (pickℕ (row_ever r cue) 15 1) ≡ 16 → HasRowIn r p e
  sixteen p true h i = has p h
  sixteen p false h i = other (row_ever r cue) i
    where
      other : (d : Bool) → pickℕ d 15 1 ≡ 16 → HasRowIn r p e
      other true j = not_equal 15 16 refl j
      other false j = not_equal 1 16 refl j

  fifteen : (p : Phase) (b d : Bool) → row_in r p cue ≡ b → row_ever r cue ≡ d → pickℕ b 16 (pickℕ d 15 1) ≡ 15 → OnlyElsewhere r p e
  fifteen p true d h k i = not_equal 16 15 refl i
  fifteen p false true h k i = (none p h, sometime k)
  fifteen p false false h k i = not_equal 1 15 refl i

  one : (p : Phase) (b d : Bool) → row_in r p cue ≡ b → row_ever r cue ≡ d → pickℕ b 16 (pickℕ d 15 1) ≡ 1 → Never r e
  one p true d h k i = not_equal 16 1 refl i
  one p false true h k i = not_equal 15 1 refl i
  one p false false h k i = λ q w. differ (sym k ∙ ever q w)

-- ---- 1, 15 and 16

module _ (c : Call) (e : Event) where
  abbrev R : Role
  R = c.side.role

  abbrev P : Phase
  P = c.stand.phase

  -- a call's own place is one that 01 allows
  here : Looked c e → is_row (row c e) ≡ true → HasRowIn R P e
  here l h = record { rev = c.stand.rev; placed = valid_place c l.valid; row = not_none _ h }

  -- where nothing was found the number is what the tables have
  unfound : Looked c e → is_row (row c e) ≡ false → (step_of c e).number ≡ why_of R P (cue_of (read_of e))
  unfound l h =
      ap (λ (o : Outcome). o.number) (timely_step c e l.valid l.timely) ∙ ap (λ (b : Bool). (if_in_range b c e).number) l.ranged
      ∙ ap (λ (b : Bool). (if_row b (row c e) c (read_of e)).number) h

  pub one_exactly : ((step_of c e).number ≡ 1) ↔ (Looked c e × Never R e)
  one_exactly = (
    by_number c e 1 refl (λ v. not_equal 9 1 refl) (λ v u i. not_equal 17 1 refl) (λ v u i. not_equal 20 1 refl) (λ v t k. not_equal 3 1 refl)
        (λ l w h. (l, one R e P (row_in R P (cue_of (read_of e))) (row_ever R (cue_of (read_of e))) refl refl h)),
    given,
  )
    where
      given : Looked c e × Never R e → (step_of c e).number ≡ 1
      given (l, n) =
          unfound l (is_false (is_row (row c e)) (λ h. n P (here l h)))
          ∙ ap (λ (b : Bool). pickℕ b 16 (pickℕ (row_ever R (cue_of (read_of e))) 15 1)) (is_false (row_in R P (cue_of (read_of e))) (λ h. n P (has R e P h)))
          ∙ ap (λ (b : Bool). pickℕ b 15 1)
          (is_false (row_ever R (cue_of (read_of e))) (λ h. let w = sometime R e h in n w.0 w.1))

  pub fifteen_exactly : ((step_of c e).number ≡ 15) ↔ (Looked c e × OnlyElsewhere R P e)
  fifteen_exactly = (
    by_number c e 15 refl (λ v. not_equal 9 15 refl) (λ v u i. not_equal 17 15 refl) (λ v u i. not_equal 20 15 refl) (λ v t k. not_equal 3 15 refl)
        (λ l w h. (l, fifteen R e P (row_in R P (cue_of (read_of e))) (row_ever R (cue_of (read_of e))) refl refl h)),
    given,
  )
    where
      given : Looked c e × OnlyElsewhere R P e → (step_of c e).number ≡ 15
      given (l, (n, (q, w))) =
          unfound l (is_false (is_row (row c e)) (λ h. n (here l h)))
          ∙ ap (λ (b : Bool). pickℕ b 16 (pickℕ (row_ever R (cue_of (read_of e))) 15 1)) (is_false (row_in R P (cue_of (read_of e))) (λ h. n (has R e P h)))
          ∙ ap (λ (b : Bool). pickℕ b 15 1) (ever R e q w)

  pub sixteen_exactly : ((step_of c e).number ≡ 16) ↔ (Looked c e × OtherState R P c.stand.rev e)
  sixteen_exactly = (
    by_number c e 16 refl (λ v. not_equal 9 16 refl) (λ v u i. not_equal 17 16 refl) (λ v u i. not_equal 20 16 refl) (λ v t k. not_equal 3 16 refl)
        (λ l w h. (l, (is_none _ w, sixteen R e P (row_in R P (cue_of (read_of e))) refl h))),
    given,
  )
    where
      given : Looked c e × OtherState R P c.stand.rev e → (step_of c e).number ≡ 16
      given (l, (w, i)) =
          unfound l (ap is_row w) ∙ ap (λ (b : Bool). pickℕ b 16 (pickℕ (row_ever R (cue_of (read_of e))) 15 1)) (found R e P i)

-- ---- What the reason depends on

-- by the time of the event (17, 20 or 0), whether a row was found, and else why
abbrev reason_at : ℕ → Bool → ℕ → ℕ
reason_at u w n = pickℕ (eqb u 0) (pickℕ w 0 n) u

row_no_reason : (n : ℕ) → of_a_row n ≡ true → reason n ≡ 0
row_no_reason n h =
    either (eqb n 0) _ h (λ i. ap reason (eqb-true n 0 i)) (λ h.
    either (eqb n 2) _ h (λ i. ap reason (eqb-true n 2 i)) (λ i. ap reason (eqb-true n 4 i)))

abbrev reason_by : Role → Phase → RevState → Cue → Bool → ℕ
reason_by r p s q o = reason_at (untimely_of p o) (is_row (row_for_of r p s q)) (why_of r p q)

module _ (c : Call) (e : Event) (v : valid_of c ≡ true) (k : event_ok e ≡ true) where
  of_the_row : (b : Bool) → is_row (row c e) ≡ b →
      reason (if_row b (row c e) c (read_of e)).number ≡ pickℕ b 0 (why_of c.side.role c.stand.phase (cue_of (read_of e)))
  of_the_row true h = row_no_reason (performed c e).number (row_number c e h)
  of_the_row false h = by_why (λ (n : ℕ). reason n ≡ n) c.side.role c.stand.phase (cue_of (read_of e)) refl refl refl

  ranged_reason : reason (if_in_range (event_ok e) c e).number ≡ pickℕ (is_row (row c e)) 0 (why_of c.side.role c.stand.phase (cue_of (read_of e)))
  ranged_reason = ap (λ (b : Bool). reason (if_in_range b c e).number) k ∙ of_the_row (is_row (row c e)) refl

  timed_reason : (p : Phase) (b : Bool) →
      reason (if_timely p b c e).number
      ≡ reason_at (untimely_of p b) (is_row (row c e)) (why_of c.side.role c.stand.phase (cue_of (read_of e)))
  timed_reason Unopened true = ranged_reason
  timed_reason Unopened false = refl
  timed_reason Null true = refl
  timed_reason Null false = ranged_reason
  timed_reason Setup true = refl
  timed_reason Setup false = ranged_reason
  timed_reason Answered true = refl
  timed_reason Answered false = ranged_reason
  timed_reason Cleared b = ranged_reason

  by_place : reason (step_of c e).number ≡ reason_by c.side.role c.stand.phase c.stand.rev (cue_of (read_of e)) (is_opening e)
  by_place = ap (λ (b : Bool). reason (if_call b c e).number) v ∙ timed_reason c.stand.phase (is_opening e)

-- an opening's role and flags are not looked at
opening_reason : (r : Role) (p : Phase) (s : RevState) (k f : ℕ) (n : Number) →
    reason_by r p s (cue_of (read_of (Opening k f n))) true ≡ pickℕ (may_open p) 0 20
opening_reason Originating Unopened s k f n = refl
opening_reason Originating Null s k f n = refl
opening_reason Originating Setup s k f n = refl
opening_reason Originating Answered s k f n = refl
opening_reason Originating Cleared s k f n = refl
opening_reason Destination Unopened s k f n = refl
opening_reason Destination Null s k f n = refl
opening_reason Destination Setup s k f n = refl
opening_reason Destination Answered s k f n = refl
opening_reason Destination Cleared s k f n = refl

same_heard : {x y : Component} → SameComponent x y → heard_of x ≡ heard_of y
same_heard no_component_lem = refl
same_heard an_invoke = refl
same_heard a_result = refl
same_heard an_error = refl
same_heard a_reject = refl

same_by : (r : Role) (p : Phase) (s : RevState) {e f : Event} → SameEvent e f →
    reason_by r p s (cue_of (read_of e)) (is_opening e) ≡ reason_by r p s (cue_of (read_of f)) (is_opening f)
same_by r p s (an_opening_lem {r = k} {f = g} {r' = k'} {f' = g'} {n = n} {n' = n'}) = opening_reason r p s k g n ∙ sym (opening_reason r p s k' g' n')
same_by r p s a_request = refl
same_by r p s (a_message {k = k} w) =
    ap (λ (h : Heard). reason_by r p s (record { kind = kind_of k; asked = asked_of 0; heard = h; told = told_of 0 }) false) (same_heard w)
same_by r p s an_access = refl
same_by r p s an_expiry = refl
same_by r p s a_time = refl

pub same_reason : (c d : Call) (e f : Event) → c.side.role ≡ d.side.role → c.stand.phase ≡ d.stand.phase → c.stand.rev ≡ d.stand.rev →
    valid_of c ≡ true → valid_of d ≡ true → event_ok e ≡ true → event_ok f ≡ true → SameEvent e f →
    reason (step_of c e).number ≡ reason (step_of d f).number
same_reason c d e f r p s v w k l z =
    by_place c e v k
    ∙ ap (λ (x : Role). reason_by x c.stand.phase c.stand.rev (cue_of (read_of e)) (is_opening e)) r
    ∙ ap (λ (x : Phase). reason_by d.side.role x c.stand.rev (cue_of (read_of e)) (is_opening e)) p
    ∙ ap (λ (x : RevState). reason_by d.side.role d.stand.phase x (cue_of (read_of e)) (is_opening e)) s
    ∙ same_by d.side.role d.stand.phase d.stand.rev z
    ∙ sym (by_place d f w l)

-- ---- A cleared call

-- the bill's test of an opening is the rows'
same_opening : (e : Event) → an_opening e ≡ is_opening e
same_opening (Opening r f n) = refl
same_opening (Ask q n) = refl
same_opening (Received m) = refl
same_opening (FromAccess a n) = refl
same_opening Expiry = refl
same_opening (Time s) = refl

module _ (e : Event) (o : is_opening e ≡ false) where
  no_opening : {A : Type 0} → an_opening e ≡ true → A
  no_opening h = differ (sym o ∙ sym (same_opening e) ∙ h)

  -- no event but an opening has a row there ..
  none_cleared : (r : Role) (s : RevState) → row_at r Cleared s e ≡ None
  none_cleared Originating s = after_clearing (λ (x : Option Row). x ≡ None) e no_opening refl
  none_cleared Destination s = after_clearing (λ (x : Option Row). x ≡ None) e no_opening refl

  -- .. in any REV state
  none_in_cleared : (r : Role) → row_in r Cleared (cue_of (read_of e)) ≡ false
  none_in_cleared Originating =
      after_clearing (λ (x : Option Row). some_state (λ s. placed_of Originating Cleared s && is_row x) ≡ false) e no_opening refl
  none_in_cleared Destination =
      after_clearing (λ (x : Option Row). some_state (λ s. placed_of Destination Cleared s && is_row x) ≡ false) e no_opening refl

pub cleared_refuses : (c : Call) (e : Event) → valid_of c ≡ true → event_ok e ≡ true → is_opening e ≡ false → c.stand.phase ≡ Cleared →
    ((step_of c e).number ≡ 15) ⊎ ((step_of c e).number ≡ 1)
cleared_refuses c e v k o p =
    subst (λ (a : Outcome). (a.number ≡ 15) ⊎ (a.number ≡ 1)) (sym refused) (fifteen-or-one (row_ever c.side.role (cue_of (read_of e))))
  where
    refused : step_of c e ≡ refused_of (pickℕ (row_ever c.side.role (cue_of (read_of e))) 15 1) c
    refused =
        row_decides c e v (ap is_unopened p) o k
        ∙ ap (λ (x : Option Row). taken_by x c (read_of e))
        (ap (λ (q : Phase). row_at c.side.role q c.stand.rev e) p ∙ none_cleared e o c.side.role c.stand.rev)
        ∙ ap (λ (q : Phase). refused_of (why_of c.side.role q (cue_of (read_of e))) c) p
        ∙ ap (λ (b : Bool). refused_of (pickℕ b 16 (pickℕ (row_ever c.side.role (cue_of (read_of e))) 15 1)) c) (none_in_cleared e o c.side.role)

    fifteen-or-one : (b : Bool) → (pickℕ b 15 1 ≡ 15) ⊎ (pickℕ b 15 1 ≡ 1)
    fifteen-or-one true = inl refl
    fifteen-or-one false = inr refl
