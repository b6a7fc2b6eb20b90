-- No call's own answer is 19, so that number says that there is no such slot, and nothing else. It rests on the theorem of the rows that says
-- which numbers a call gives back (`never_given`).
-- Assumes nothing.
use mathlib.Core.Path.{◌≡◌, refl, sym, ap, ◌∙◌}
use mathlib.Core.Bool.{Bool, true, false}
use mathlib.Core.List.{List}
use mathlib.Core.Logic.{◌↔◌}
use Prim.Native.Nat.{ℕ, ◌<◌}
use lib.Dec.{ltb}
use lib.ListN.{length, get_or}
use borrow.Author.Tests.{ltb-true, ltb-false}
use Rattle.rows.specs.Step.{unopened_call, step_of}
use Rattle.rows.specs.declared.Call.{Call}
use Rattle.rows.specs.declared.Event.{Event}
use Rattle.rows.specs.declared.Outcome.{Outcome}
use Rattle.rows.proofs.Theorems.{never_given}
use Rattle.board.specs.Numbers.{slots}
use Rattle.board.specs.Row.{answer_at}
use Rattle.board.proofs.Laws.{at_place, answer_is, past_63, past_the_end}

pub never_nineteen : (c : Call) (e : Event) → (step_of c e).number ≡ 19 → ⊥
never_nineteen = never_given 19 refl

pub nineteen_exactly : (cs : List Call) (i : ℕ) (e : Event) → ((answer_at cs i e).number ≡ 19) ↔ ((i < slots) × (i < length cs) → ⊥)
nineteen_exactly cs i e = (
  λ h (s, l). never_nineteen (get_or cs i unopened_call) e (sym (ap (λ (o : Outcome). o.number) (answer_is cs i e (get_or cs i unopened_call) s (at_place cs i unopened_call l))) ∙ h),
  given (ltb i slots) (ltb i (length cs)) refl refl,
)
  where
    given : (a b : Bool) → ltb i slots ≡ a → ltb i (length cs) ≡ b → ((i < slots) × (i < length cs) → ⊥) → (answer_at cs i e).number ≡ 19
    given true true s l n = absurd (n (ltb-true i slots s, ltb-true i (length cs) l))
    given true false s l n = ap (λ (o : Outcome). o.number) (past_the_end cs i e (ltb-false i (length cs) l)).0
    given false b s l n = ap (λ (o : Outcome). o.number) (past_63 cs i e (ltb-false i slots s)).0
