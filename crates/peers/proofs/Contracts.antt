-- The contracts of the functions that a host calls, as the prover has them from the sources, in the words of Same.antt: each asks for
-- nothing, and says just this. A contract that asks for more or says less is refused here.
-- Assumes nothing.
use mathlib.Core.Path.{◌≡◌, refl}
use seplogic.Ra.Ura.{Ura}
use base.Logic.{SProp, emp}
use contract.Lifetimes.{Lfts}
use contract.Monad.{Fun, fact}
use denote.Triple.Clauses.{Ended}
use denote.Triple.End.{Outs}
use denote.Triple.Entry.{Args, Res}
use denote.Triple.Spec.{SpecAt, exits}
use types.Logic.{Logic}
use prog.Memory.{Memory}
use prog.Routine.{Routine}
use Rattle.peers.specs.Messages.{heard_of, received_of, alone_of, carried_of, sent_of}
use Rattle.peers.proofs.Same.{Entered, Parametered, Sent}
use Rattle.peers.specs.contracts.messages.alone as alone
use Rattle.peers.specs.contracts.messages.carried as carried
use Rattle.peers.specs.contracts.messages.heard as heard
use Rattle.peers.specs.contracts.messages.received as received
use Rattle.peers.specs.contracts.messages.sent as sent
use Rattle.peers.specs.contracts.messages.write_sent as write-sent
use Rattle.peers.specs.contracts.parameters.rev_read_parameter as rev-read-parameter
use Rattle.peers.specs.contracts.parameters.rev_write_parameter as rev-write-parameter

module _ {M : Type 1} {𝓤 : Ura M} (𝓛 : Logic 𝓤) (mem : Memory → SProp 𝓤) (run : Routine → Fun 𝓤) where
  -- The contract that asks for nothing and says P of the result and of the parameters as they are left.
  abbrev pub Promises : (T : Ended) (κs : Lfts T.signature.lifetimes) (a : Args T.signature κs) →
      (Res T.signature κs → Outs κs T.signature.params T.kept → Type 0) → SpecAt 𝓤 T.signature κs
  Promises T κs a P =
      record {
        ghost = Unit {0};
        requires = λ _. emp 𝓤;
        ensures = λ _ r. exits 𝓛 T.signature T.kept κs a (λ last. fact 𝓤 (P r last));
      }

  -- a.0 is the parameter, then message and cause, then the buffer
  pub rev_read_parameter_says : (κs : Lfts 2) (a : Args rev-read-parameter.signature κs) →
      rev-read-parameter.spec 𝓛 mem run κs a
      ≡ Promises rev-read-parameter.ended κs a
      (λ r last. Entered a.0.now a.1.0 a.1.1.0 a.1.1.1.0.now r last.1.1.1.0.now)
  rev_read_parameter_says κs a = refl

  -- a.0 is the entry, a.1.0 the buffer
  pub rev_write_parameter_says : (κs : Lfts 2) (a : Args rev-write-parameter.signature κs) →
      rev-write-parameter.spec 𝓛 mem run κs a
      ≡ Promises rev-write-parameter.ended κs a (λ r last. Parametered a.0.now a.1.0.now r last.1.0.now)
  rev_write_parameter_says κs a = refl

  -- a.0 is the note, a.1.0 the identifier, then the buffer
  pub write_sent_says : (κs : Lfts 1) (a : Args write-sent.signature κs) →
      write-sent.spec 𝓛 mem run κs a
      ≡ Promises write-sent.ended κs a (λ w last. Sent a.0 a.1.0 a.1.1.0.now w last.1.1.0.now)
  write_sent_says κs a = refl

  -- message, cause, component
  pub heard_says : (κs : Lfts 0) (a : Args heard.signature κs) →
      heard.spec 𝓛 mem run κs a ≡ Promises heard.ended κs a (λ r last. r ≡ heard_of a.0 a.1.0 a.1.1.0)
  heard_says κs a = refl

  pub received_says : (κs : Lfts 0) (a : Args received.signature κs) →
      received.spec 𝓛 mem run κs a ≡ Promises received.ended κs a (λ r last. r ≡ received_of a.0 a.1.0 a.1.1.0)
  received_says κs a = refl

  pub alone_says : (κs : Lfts 0) (a : Args alone.signature κs) →
      alone.spec 𝓛 mem run κs a ≡ Promises alone.ended κs a (λ r last. r ≡ alone_of a.0 a.1.0)
  alone_says κs a = refl

  -- the message or the note, and the identifier
  pub carried_says : (κs : Lfts 0) (a : Args carried.signature κs) →
      carried.spec 𝓛 mem run κs a ≡ Promises carried.ended κs a (λ r last. r ≡ carried_of a.0 a.1.0)
  carried_says κs a = refl

  pub sent_says : (κs : Lfts 0) (a : Args sent.signature κs) →
      sent.spec 𝓛 mem run κs a ≡ Promises sent.ended κs a (λ r last. r ≡ sent_of a.0 a.1.0)
  sent_says κs a = refl
