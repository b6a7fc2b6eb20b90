-- What holds of the refusals and of the row's own answer holds of the step.
-- Assumes nothing.
use mathlib.Core.Path.{◌≡◌, refl, sym, ◌∙◌, ap}
use mathlib.Core.Bool.{Bool, true, false}
use Prim.Native.Nat.{ℕ}
use lib.Dec.{eqb}
use Rattle.std.specs.Prelude.{Option, Some, None}
use Rattle.meters.specs.declared.Meters.{Meters}
use Rattle.rows.specs.Find.{row_for_of}
use Rattle.rows.specs.Perform.{refused_at, refused_of, follows_of, settled_of, perform_of}
use Rattle.rows.specs.Promises.{place_in}
use Rattle.rows.specs.Read.{read_of, cue_of, terms_of}
use Rattle.rows.specs.Step.{planned, if_row, takes_of, if_in_range, is_opening, untimely_of, in_time, if_timely, if_call, step_of}
use Rattle.rows.specs.Valid.{pickℕ, valid_of, event_ok, bad_field_of}
use Rattle.rows.specs.Why.{is_row, row_in, row_ever, why_of}
use Rattle.rows.specs.declared.Call.{Call}
use Rattle.rows.specs.declared.Cue.{Cue}
use Rattle.rows.specs.declared.Event.{Event}
use Rattle.rows.specs.declared.Outcome.{Outcome}
use Rattle.rows.specs.declared.Phase.{Phase}
use Rattle.rows.specs.declared.Phase.TheVariants.{Unopened, Null, Setup, Answered, Cleared}
use Rattle.rows.specs.declared.Plan.{Plan}
use Rattle.rows.specs.declared.Reading.{Reading}
use Rattle.rows.specs.declared.Role.{Role}
use Rattle.rows.specs.declared.Row.{Row}
use Rattle.rows.specs.declared.Terms.{Terms}
use Rattle.rows.proofs.Truth.{differ}

-- 2 is a refusal; else the meters that follow are those of the change
pub settled : (P : Outcome → Type 0) (x : Option Meters) (c : Call) (p : Plan) (r : Reading) →
    ((n : Meters) → x ≡ Some n → P (follows_of c p r n)) → P (refused_of 2 c) → P (settled_of x c p r)
settled P (Some n) c p r h i = h n refl
settled P None c p r h i = i

-- the plan of the row that an event finds, and what comes of it
abbrev pub plan_for : Call → Event → Plan
plan_for c e = planned (row_for_of c.side.role c.stand.phase c.stand.rev (cue_of (read_of e))) (terms_of c.side.flags c.stand (read_of e))

abbrev pub performed : Call → Event → Outcome
performed c e = perform_of c (plan_for c e) (read_of e)

-- a row is there, or there is none
pub row_or_none : (P : Option Row → Type 0) (x : Option Row) → (is_row x ≡ true → P x) → P None → P x
row_or_none P (Some row) h n = h refl
row_or_none P None h n = n

-- what is refused before a plan is carried out
pub record Refusing (P : Outcome → Type 0) (c : Call) : Type 0 where
  pub one : P (refused_of 1 c)
  pub three : (k : ℕ) → P (refused_at 3 k c)
  pub fifteen : P (refused_of 15 c)
  pub sixteen : P (refused_of 16 c)
  pub seventeen : P (refused_of 17 c)
  pub twenty : P (refused_of 20 c)

-- where no row was found it is one of three numbers
pub by_why : (P : ℕ → Type 0) (r : Role) (p : Phase) (e : Cue) → P 1 → P 15 → P 16 → P (why_of r p e)
by_why P r p e x y z = go (row_in r p e) (row_ever r e)
  where
    go : (a b : Bool) → P (pickℕ a 16 (pickℕ b 15 1))
    go true b = z
    go false true = y
    go false false = x

module _ (P : Outcome → Type 0) (c : Call) (e : Event) (j : Refusing P c) where
  pub if_row_lem : P (performed c e) → P (takes_of c e)
  if_row_lem h = go (is_row found)
    where
      found : Option Row
      found = row_for_of c.side.role c.stand.phase c.stand.rev (cue_of (read_of e))

      go : (b : Bool) → P (if_row b found c (read_of e))
      go true = h
      go false = by_why (λ (n : ℕ). P (refused_of n c)) c.side.role c.stand.phase (cue_of (read_of e)) j.one j.fifteen j.sixteen

  pub if_ranged : (b : Bool) → (b ≡ true → P (performed c e)) → P (if_in_range b c e)
  if_ranged true h = if_row_lem (h refl)
  if_ranged false h = j.three (bad_field_of e)

  pub if_timely_lem : (p : Phase) (b : Bool) → (event_ok e ≡ true → P (performed c e)) → P (if_timely p b c e)
  if_timely_lem Unopened true h = if_ranged (event_ok e) h
  if_timely_lem Unopened false h = j.seventeen
  if_timely_lem Null true h = j.twenty
  if_timely_lem Null false h = if_ranged (event_ok e) h
  if_timely_lem Setup true h = j.twenty
  if_timely_lem Setup false h = if_ranged (event_ok e) h
  if_timely_lem Answered true h = j.twenty
  if_timely_lem Answered false h = if_ranged (event_ok e) h
  if_timely_lem Cleared b h = if_ranged (event_ok e) h

-- one of these, or 9, or what comes of the plan
module _ (P : Outcome → Type 0) (c : Call) (e : Event) (nine : P (refused_of 9 c)) (j : Refusing P c) (performs : P (performed c e)) where
  of_a_call : (b : Bool) → P (if_call b c e)
  of_a_call true = if_timely_lem P c e j c.stand.phase (is_opening e) (λ k. performs)
  of_a_call false = nine

  pub refused_or_performed : P (step_of c e)
  refused_or_performed = of_a_call (valid_of c)

-- 01's NONE
abbrev pub is_unopened : Phase → Bool
is_unopened p = eqb (place_in p) 0

-- what is no opening is in its time once the call was opened
later_timely : (p : Phase) → is_unopened p ≡ false → untimely_of p false ≡ 0
later_timely Unopened u = differ (sym u)
later_timely Null u = refl
later_timely Setup u = refl
later_timely Answered u = refl
later_timely Cleared u = refl

-- a valid call, and an event in its time and in range: the row decides
pub timely_decides : (c : Call) (e : Event) → valid_of c ≡ true → untimely_of c.stand.phase (is_opening e) ≡ 0 → event_ok e ≡ true →
    step_of c e ≡ takes_of c e
timely_decides c e v u k =
    ap (λ (b : Bool). if_call b c e) v ∙ ap (λ (n : ℕ). in_time (eqb n 0) n c e) u ∙ ap (λ (b : Bool). if_in_range b c e) k

-- so for one that is no opening, at a call that was opened
pub row_decides : (c : Call) (e : Event) → valid_of c ≡ true → is_unopened c.stand.phase ≡ false → is_opening e ≡ false → event_ok e ≡ true →
    step_of c e ≡ takes_of c e
row_decides c e v u o k = timely_decides c e v (ap (untimely_of c.stand.phase) o ∙ later_timely c.stand.phase u) k

-- where something holds that does not hold before the opening, the call was opened
pub opened_then : (f : Phase → Bool) (p : Phase) → f Unopened ≡ false → f p ≡ true → is_unopened p ≡ false
opened_then f Unopened h i = differ (sym h ∙ i)
opened_then f Null h i = refl
opened_then f Setup h i = refl
opened_then f Answered h i = refl
opened_then f Cleared h i = refl

-- a plan that does not refuse for want of a row is a row's, and it is carried out
pub has_plan : (c : Call) (e : Event) → eqb (plan_for c e).number 1 ≡ false → takes_of c e ≡ performed c e
has_plan c e =
    row_or_none (λ (x : Option Row). eqb (planned x terms).number 1 ≡ false → if_row (is_row x) x c (read_of e) ≡ perform_of c (planned x terms) (read_of e)) found
    (λ h i. ap (λ (b : Bool). if_row b found c (read_of e)) h) (λ i. differ (sym i))
  where
    terms : Terms
    terms = terms_of c.side.flags c.stand (read_of e)

    found : Option Row
    found = row_for_of c.side.role c.stand.phase c.stand.rev (cue_of (read_of e))
