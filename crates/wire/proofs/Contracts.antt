-- The contracts of the functions that a host calls, as the prover has them from the sources, in the words of Same.antt: each asks for
-- nothing, and says just this. A contract that asks for more or says less is refused here.
-- Assumes nothing.
use mathlib.Core.Path.{◌≡◌, refl}
use seplogic.Ra.Ura.{Ura}
use base.Logic.{SProp, emp}
use contract.Lifetimes.{Lfts}
use contract.Monad.{Fun, fact}
use denote.Triple.Clauses.{Ended}
use denote.Triple.End.{Outs}
use denote.Triple.Entry.{Args, Res}
use denote.Triple.Spec.{SpecAt, exits}
use types.Logic.{Logic}
use prog.Memory.{Memory}
use prog.Routine.{Routine}
use Rattle.wire.specs.Elements.{element_of, sequence_of}
use Rattle.wire.specs.Grammar.{component_of}
use Rattle.wire.specs.Parameters.{framed_of, parameter_of, Bounded, told_of}
use Rattle.wire.specs.Texts.{component_text, parameter_text}
use Rattle.wire.proofs.Same.{Wrote}
use Rattle.wire.specs.contracts.components.read_component as read-component
use Rattle.wire.specs.contracts.elements.element as element
use Rattle.wire.specs.contracts.elements.sequence as sequence
use Rattle.wire.specs.contracts.parameters.framed as framed
use Rattle.wire.specs.contracts.parameters.read_parameter as read-parameter
use Rattle.wire.specs.contracts.writer.write_component as write-component
use Rattle.wire.specs.contracts.writer.write_parameter as write-parameter

module _ {M : Type 1} {𝓤 : Ura M} (𝓛 : Logic 𝓤) (mem : Memory → SProp 𝓤) (run : Routine → Fun 𝓤) where
  -- The contract that asks for nothing and says P of the result and of the parameters as they are left.
  abbrev pub Promises : (T : Ended) (κs : Lfts T.signature.lifetimes) (a : Args T.signature κs) →
      (Res T.signature κs → Outs κs T.signature.params T.kept → Type 0) → SpecAt 𝓤 T.signature κs
  Promises T κs a P =
      record {
        ghost = Unit {0};
        requires = λ _. emp 𝓤;
        ensures = λ _ r. exits 𝓛 T.signature T.kept κs a (λ last. fact 𝓤 (P r last));
      }

  -- the bytes, and the place
  pub read_component_says : (κs : Lfts 1) (a : Args read-component.signature κs) →
      read-component.spec 𝓛 mem run κs a ≡ Promises read-component.ended κs a (λ r _. r ≡ component_of a.0.now a.1.0)
  read_component_says κs a = refl

  pub framed_says : (κs : Lfts 1) (a : Args framed.signature κs) →
      framed.spec 𝓛 mem run κs a ≡ Promises framed.ended κs a (λ r _. (r ≡ framed_of a.0.now) × Bounded a.0.now r)
  framed_says κs a = refl

  pub read_parameter_says : (κs : Lfts 1) (a : Args read-parameter.signature κs) →
      read-parameter.spec 𝓛 mem run κs a ≡ Promises read-parameter.ended κs a (λ r _. r ≡ told_of (parameter_of a.0.now))
  read_parameter_says κs a = refl

  -- the bytes, the place, the holder's end, the levels left, and how many tags are known
  pub element_says : (κs : Lfts 1) (a : Args element.signature κs) →
      element.spec 𝓛 mem run κs a
      ≡ Promises element.ended κs a (λ r _. r ≡ element_of a.0.now a.1.0 a.1.1.0 a.1.1.1.0 a.1.1.1.1.0)
  element_says κs a = refl

  pub sequence_says : (κs : Lfts 1) (a : Args sequence.signature κs) →
      sequence.spec 𝓛 mem run κs a
      ≡ Promises sequence.ended κs a (λ r _. r ≡ sequence_of a.0.now a.1.0 a.1.1.0 a.1.1.1.0 a.1.1.1.1.0)
  sequence_says κs a = refl

  -- the component, and the buffer
  pub write_component_says : (κs : Lfts 1) (a : Args write-component.signature κs) →
      write-component.spec 𝓛 mem run κs a
      ≡ Promises write-component.ended κs a (λ w last. Wrote a.0 (component_text a.0) a.1.0.now w last.1.0.now)
  write_component_says κs a = refl

  pub write_parameter_says : (κs : Lfts 1) (a : Args write-parameter.signature κs) →
      write-parameter.spec 𝓛 mem run κs a
      ≡ Promises write-parameter.ended κs a (λ w last. Wrote a.0 (parameter_text a.0) a.1.0.now w last.1.0.now)
  write_parameter_says κs a = refl
