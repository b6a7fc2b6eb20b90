-- AN OPENING STARTS ANEW (02 #107): where it may take a call, the answer and the call that follows are those of a call that was never opened.
-- Assumes nothing.
use mathlib.Core.Path.{◌≡◌, refl, sym, ◌∙◌, ap, subst}
use mathlib.Core.Bool.{Bool, true, false}
use mathlib.Core.Logic.{◌↔◌}
use Prim.Native.Nat.{ℕ}
use Rattle.std.specs.Prelude.{Option, Some}
use Rattle.rows.specs.Find.{row_for_of}
use Rattle.rows.specs.Promises.{AsFresh}
use Rattle.rows.specs.Read.{read_of, cue_of}
use Rattle.rows.specs.Reasons.{Timely, Looked}
use Rattle.rows.specs.Step.{unopened_call, taken_by, takes_of, if_in_range, is_opening, step_of, may_open, free_of}
use Rattle.rows.specs.Valid.{valid_of, event_ok}
use Rattle.rows.specs.declared.Call.{Call}
use Rattle.rows.specs.declared.Event.{Event}
use Rattle.rows.specs.declared.Event.TheVariants.{Opening, Ask, Received, FromAccess, Expiry, Time}
use Rattle.rows.specs.declared.Number.{Number}
use Rattle.rows.specs.declared.Outcome.{Outcome}
use Rattle.rows.specs.declared.Phase.{Phase}
use Rattle.rows.specs.declared.Phase.TheVariants.{Unopened, Null, Setup, Answered, Cleared}
use Rattle.rows.specs.declared.RevState.{RevState}
use Rattle.rows.specs.declared.Role.{Role}
use Rattle.rows.specs.declared.Role.TheVariants.{Originating, Destination}
use Rattle.rows.specs.declared.Row.{Row}
use Rattle.rows.proofs.Reasons.{Way, no_call, too_early, in_use, out_of_range, no_row, a_row, way, not_equal, not_a_reason}
use Rattle.rows.proofs.Reasons.{vacant_is, vacant_may, timely_step}
use Rattle.rows.proofs.Truth.{both, differ, left, right}

-- the opening's row, in either role, before the opening and after the clearing
the_row : (r : Role) (p : Phase) (s : RevState) (k f : ℕ) (n : Number) → may_open p ≡ true →
    row_for_of r p s (cue_of (read_of (Opening k f n))) ≡ Some Row.Opened
the_row Originating Unopened s k f n h = refl
the_row Originating Null s k f n h = differ h
the_row Originating Setup s k f n h = differ h
the_row Originating Answered s k f n h = differ h
the_row Originating Cleared s k f n h = refl
the_row Destination Unopened s k f n h = refl
the_row Destination Null s k f n h = differ h
the_row Destination Setup s k f n h = differ h
the_row Destination Answered s k f n h = differ h
the_row Destination Cleared s k f n h = refl

module _ (c : Call) (k f : ℕ) (n : Number) where
  -- its plan takes nothing from the call
  takes_anew : may_open c.stand.phase ≡ true → takes_of c (Opening k f n) ≡ takes_of unopened_call (Opening k f n)
  takes_anew h = ap (λ (x : Option Row). taken_by x c (read_of (Opening k f n))) (the_row c.side.role c.stand.phase c.stand.rev k f n h)

  in_time_lem : may_open c.stand.phase ≡ true → Timely c (Opening k f n)
  in_time_lem h = (λ i. vacant_is c.stand.phase h, λ i. differ (sym i))

  ranged : free_of c ≡ true → step_of c (Opening k f n) ≡ if_in_range (event_ok (Opening k f n)) c (Opening k f n)
  ranged h = timely_step c (Opening k f n) (left (valid_of c) _ h) (in_time_lem (right (valid_of c) _ h))

  -- the same but for the call of a refusal
  alike : may_open c.stand.phase ≡ true → (b : Bool) → AsFresh (if_in_range b c (Opening k f n)) (if_in_range b unopened_call (Opening k f n))
  alike h true =
      subst (λ (o : Outcome). AsFresh o (takes_of unopened_call (Opening k f n))) (sym (takes_anew h))
      (record {
        number = refl;
        field = refl;
        note = refl;
        first = refl;
        second = refl;
        third = refl;
        fourth = refl;
        whole = λ z. refl;
      })
  alike h false =
      record {
        number = refl;
        field = refl;
        note = refl;
        first = refl;
        second = refl;
        third = refl;
        fourth = refl;
        whole = λ z. not_equal 3 0 refl z;
      }

  pub starts_anew : free_of c ≡ true → AsFresh (step_of c (Opening k f n)) (step_of unopened_call (Opening k f n))
  starts_anew h =
      subst (λ (o : Outcome). AsFresh o (step_of unopened_call (Opening k f n))) (sym (ranged h))
      (alike (right (valid_of c) _ h) (event_ok (Opening k f n)))

pub opening_starts_anew : (c : Call) (e : Event) → free_of c ≡ true → is_opening e ≡ true → AsFresh (step_of c e) (step_of unopened_call e)
opening_starts_anew c (Opening k f n) h i = starts_anew c k f n h
opening_starts_anew c (Ask q n) h i = differ i
opening_starts_anew c (Received m) h i = differ i
opening_starts_anew c (FromAccess a n) h i = differ i
opening_starts_anew c Expiry h i = differ i
opening_starts_anew c (Time s) h i = differ i

-- ---- Which calls are free

-- an opening that was accepted came in its time and in range, at a call that is one
pub accepted_looked : (c : Call) (k f : ℕ) (n : Number) → (step_of c (Opening k f n)).number ≡ 0 → Looked c (Opening k f n)
accepted_looked c k f n = by_way (way c (Opening k f n))
  where
    by_way : {o : Outcome} → Way c (Opening k f n) o → o.number ≡ 0 → Looked c (Opening k f n)
    by_way (no_call v) h = not_equal 9 0 refl h
    by_way (too_early v u i) h = not_equal 17 0 refl h
    by_way (in_use v u i) h = not_equal 20 0 refl h
    by_way (out_of_range v t b) h = not_equal 3 0 refl h
    by_way (no_row l w) h = not_a_reason c.side.role c.stand.phase (cue_of (read_of (Opening k f n))) 0 refl h
    by_way (a_row l w) h = l

-- so at a free call
pub accepted_free : (c : Call) (k f : ℕ) (n : Number) → (step_of c (Opening k f n)).number ≡ 0 → free_of c ≡ true
accepted_free c k f n h =
    let l = accepted_looked c k f n h in
    both l.valid (vacant_may c.stand.phase (l.timely.0 refl))

pub free_exactly : (c : Call) (k f : ℕ) (n : Number) → event_ok (Opening k f n) ≡ true →
    (free_of c ≡ true) ↔ ((step_of c (Opening k f n)).number ≡ 0)
free_exactly c k f n i = (
  λ h. (starts_anew c k f n h).number ∙ ap (λ (b : Bool). (if_in_range b unopened_call (Opening k f n)).number) i,
  accepted_free c k f n,
)
