-- The contracts of the functions that a host calls, as the prover has them from the sources: each asks for nothing, and says just this. A
-- contract that asks for more or says less is refused here.
-- Assumes nothing.
use mathlib.Core.Path.{◌≡◌, refl}
use seplogic.Ra.Ura.{Ura}
use base.Logic.{SProp, emp}
use contract.Lifetimes.{Lfts}
use contract.Monad.{Fun, fact}
use denote.Triple.Clauses.{Ended}
use denote.Triple.Entry.{Args, Res}
use denote.Triple.Spec.{SpecAt, exits}
use types.Logic.{Logic}
use prog.Memory.{Memory}
use prog.Routine.{Routine}
use Rattle.rows.specs.Perform.{refused_of}
use Rattle.rows.specs.Step.{free_of, step_of, total_of, unopened_call}
use Rattle.rows.specs.Telephone.{same_number}
use Rattle.rows.specs.contracts.Call.is_free as is_free
use Rattle.rows.specs.contracts.Call.refused as refused
use Rattle.rows.specs.contracts.Call.step as step
use Rattle.rows.specs.contracts.Call.total as total
use Rattle.rows.specs.contracts.Call.unopened as unopened
use Rattle.rows.specs.contracts.Outcome.after as after
use Rattle.rows.specs.contracts.telephone.same_number as same_number

module _ {M : Type 1} {𝓤 : Ura M} (𝓛 : Logic 𝓤) (mem : Memory → SProp 𝓤) (run : Routine → Fun 𝓤) where
  -- The contract that asks for nothing and says P of the result.
  abbrev pub Promises : (T : Ended) (κs : Lfts T.signature.lifetimes) (a : Args T.signature κs) →
      (Res T.signature κs → Type 0) → SpecAt 𝓤 T.signature κs
  Promises T κs a P =
      record {
        ghost = Unit {0};
        requires = λ _. emp 𝓤;
        ensures = λ _ r. exits 𝓛 T.signature T.kept κs a (λ last. fact 𝓤 (P r));
      }

  -- a.0 is the call, a.1.0 the event
  pub step_says : (κs : Lfts 0) (a : Args step.signature κs) →
      step.spec 𝓛 mem run κs a ≡ Promises step.ended κs a (λ out. out ≡ step_of a.0 a.1.0)
  step_says κs a = refl

  -- a.0 is the call, a.1.0 the number
  pub refused_says : (κs : Lfts 0) (a : Args refused.signature κs) →
      refused.spec 𝓛 mem run κs a ≡ Promises refused.ended κs a (λ out. out ≡ refused_of a.1.0 a.0)
  refused_says κs a = refl

  pub unopened_says : (κs : Lfts 0) (a : Args unopened.signature κs) →
      unopened.spec 𝓛 mem run κs a ≡ Promises unopened.ended κs a (λ out. out ≡ unopened_call)
  unopened_says κs a = refl

  -- a.0 is the call
  pub total_says : (κs : Lfts 0) (a : Args total.signature κs) →
      total.spec 𝓛 mem run κs a ≡ Promises total.ended κs a (λ out. out ≡ total_of a.0)
  total_says κs a = refl

  -- a.0 is the call
  pub is_free_says : (κs : Lfts 0) (a : Args is_free.signature κs) →
      is_free.spec 𝓛 mem run κs a ≡ Promises is_free.ended κs a (λ out. out ≡ free_of a.0)
  is_free_says κs a = refl

  -- a.0 is the answer
  pub after_says : (κs : Lfts 0) (a : Args after.signature κs) →
      after.spec 𝓛 mem run κs a ≡ Promises after.ended κs a (λ out. out ≡ a.0.call)
  after_says κs a = refl

  -- a.0 and a.1.0 are the numbers
  pub same_number_says : (κs : Lfts 0) (a : Args same_number.signature κs) →
      same_number.spec 𝓛 mem run κs a ≡ Promises same_number.ended κs a (λ out. out ≡ same_number a.0 a.1.0)
  same_number_says κs a = refl
