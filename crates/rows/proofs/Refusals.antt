-- A REFUSAL CHANGES NOTHING: any answer but 0 has no action, and the call as it stood. And no answer has a number but those that `given`
-- names.
-- Assumes nothing.
use mathlib.Core.Path.{◌≡◌, refl, sym, ◌∙◌, ap}
use mathlib.Core.Bool.{Bool, true, false}
use Prim.Native.Nat.{ℕ}
use lib.Dec.{eqb}
use Rattle.meters.specs.Meters.{change_of}
use Rattle.rows.specs.Perform.{refused_at, perform_if}
use Rattle.rows.specs.Promises.{NothingDone, given}
use Rattle.rows.specs.Read.{read_of}
use Rattle.rows.specs.Step.{step_of}
use Rattle.rows.specs.declared.Call.{Call}
use Rattle.rows.specs.declared.Event.{Event}
use Rattle.rows.specs.declared.Outcome.{Outcome}
use Rattle.rows.proofs.Answers.{plan_for, settled}
use Rattle.rows.proofs.Found.{Test, holds, guarded, stepped}
use Rattle.rows.proofs.Truth.{differ}

refused : (n k : ℕ) (c : Call) → NothingDone c (refused_at n k c)
refused n k c = record { call = refl; first = refl; second = refl; third = refl; fourth = refl }

abbrev Keeps : Call → Outcome → Type 0
Keeps c o = (o.number ≡ 0 → ⊥) → NothingDone c o

pub refusal_changes_nothing : (c : Call) (e : Event) → ((step_of c e).number ≡ 0 → ⊥) → NothingDone c (step_of c e)
refusal_changes_nothing c e = stepped (Keeps c) c e (λ v z. refused 9 0 c) (λ n k v p q z. refused n k c) (λ n d z. absurd (z refl))

-- and it is the one answer that has its number and its field
pub refusal_is : (c : Call) (e : Event) → ((step_of c e).number ≡ 0 → ⊥) → step_of c e ≡ refused_at (step_of c e).number (step_of c e).field c
refusal_is c e =
    stepped (λ (o : Outcome). (o.number ≡ 0 → ⊥) → o ≡ refused_at o.number o.field c) c e
    (λ v z. refl) (λ n k v p q z. refl) (λ n d z. absurd (z refl))

-- ---- Which numbers are given: those of the refusals, those of the plans, and the meters' 2

abbrev Given : Outcome → Type 0
Given o = given o.number ≡ true

abbrev plans_give : Test
plans_give r now k p = given p.number

performs : (c : Call) (e : Event) (b : Bool) → eqb (plan_for c e).number 0 ≡ b → Given (perform_if b c (plan_for c e) (read_of e))
performs c e true r =
    settled Given (change_of (plan_for c e).change c.meters (read_of e).seconds) c (plan_for c e) (read_of e) (λ n h. refl) refl
performs c e false r = holds plans_give (λ e t a b. refl) c e

pub all_given : (c : Call) (e : Event) → Given (step_of c e)
all_given c e =
    guarded Given c e (λ v. refl)
    (λ v. record { one = refl; three = λ k. refl; fifteen = refl; sixteen = refl; seventeen = refl; twenty = refl })
    (λ v o. performs c e (eqb (plan_for c e).number 0) refl)

pub never_given : (n : ℕ) → given n ≡ false → (c : Call) (e : Event) → (step_of c e).number ≡ n → ⊥
never_given n g c e h = differ (sym g ∙ sym (ap given h) ∙ all_given c e)

pub never_eighteen : (c : Call) (e : Event) → (step_of c e).number ≡ 18 → ⊥
never_eighteen = never_given 18 refl
