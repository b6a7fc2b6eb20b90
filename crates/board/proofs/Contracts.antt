-- The contracts of the functions that a host calls, as the prover has them from the sources, in the words of Same.antt: each asks for
-- nothing, and says just this. A contract that asks for more or says less is refused here.
-- Assumes nothing.
use mathlib.Core.Path.{◌≡◌, refl}
use seplogic.Ra.Ura.{Ura}
use base.Logic.{SProp, emp}
use contract.Lifetimes.{Lfts}
use contract.Monad.{Fun, fact}
use denote.Triple.Clauses.{Ended}
use denote.Triple.End.{Outs}
use denote.Triple.Entry.{Args, Res}
use denote.Triple.Spec.{SpecAt, exits}
use types.Logic.{Logic}
use prog.Memory.{Memory}
use prog.Routine.{Routine}
use Rattle.board.specs.Row.{no_slot, free_number, free_slot}
use Rattle.board.proofs.Same.{Stepped, Asked}
use Rattle.board.specs.contracts.free_number as number
use Rattle.board.specs.contracts.free_slot as slot
use Rattle.board.specs.contracts.lowest_free as lowest-free
use Rattle.board.specs.contracts.no_slot as no_slot
use Rattle.board.specs.contracts.step_slot as step-slot

module _ {M : Type 1} {𝓤 : Ura M} (𝓛 : Logic 𝓤) (mem : Memory → SProp 𝓤) (run : Routine → Fun 𝓤) where
  -- The contract that asks for nothing and says P of the result and of the parameters as they are left.
  abbrev pub Promises : (T : Ended) (κs : Lfts T.signature.lifetimes) (a : Args T.signature κs) →
      (Res T.signature κs → Outs κs T.signature.params T.kept → Type 0) → SpecAt 𝓤 T.signature κs
  Promises T κs a P =
      record {
        ghost = Unit {0};
        requires = λ _. emp 𝓤;
        ensures = λ _ r. exits 𝓛 T.signature T.kept κs a (λ last. fact 𝓤 (P r last));
      }

  -- a.0 is the row, a.1.0 the slot, a.1.1.0 the event
  pub step_slot_says : (κs : Lfts 1) (a : Args step-slot.signature κs) →
      step-slot.spec 𝓛 mem run κs a
      ≡ Promises step-slot.ended κs a (λ out last. Stepped a.0.now a.1.0 a.1.1.0 out last.0.now)
  step_slot_says κs a = refl

  pub no_slot_says : (κs : Lfts 0) (a : Args no_slot.signature κs) →
      no_slot.spec 𝓛 mem run κs a ≡ Promises no_slot.ended κs a (λ out last. out ≡ no_slot)
  no_slot_says κs a = refl

  -- a.0 is the row
  pub lowest_free_says : (κs : Lfts 1) (a : Args lowest-free.signature κs) →
      lowest-free.spec 𝓛 mem run κs a ≡ Promises lowest-free.ended κs a (λ out last. Asked a.0.now out)
  lowest_free_says κs a = refl

  -- a.0 is the answer
  pub number_says : (κs : Lfts 0) (a : Args number.signature κs) →
      number.spec 𝓛 mem run κs a ≡ Promises number.ended κs a (λ out last. out ≡ free_number a.0)
  number_says κs a = refl

  pub slot_says : (κs : Lfts 0) (a : Args slot.signature κs) →
      slot.spec 𝓛 mem run κs a ≡ Promises slot.ended κs a (λ out last. out ≡ free_slot a.0)
  slot_says κs a = refl
