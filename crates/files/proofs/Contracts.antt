-- The contracts of the functions that a host calls, as the prover has them from the sources, in the words of Same.antt: each asks for
-- nothing, and says just this. A contract that asks for more or says less is refused here.
-- Assumes nothing.
use Rattle.std.proofs.Common.{◌≡◌, ◌-◌, length, refl}
use seplogic.Ra.Ura.{Ura}
use base.Logic.{SProp, emp}
use contract.Lifetimes.{Lfts}
use contract.Monad.{Fun, fact}
use denote.Triple.Clauses.{Ended}
use denote.Triple.End.{Outs}
use denote.Triple.Entry.{Args, Res}
use denote.Triple.Spec.{SpecAt, exits}
use types.Logic.{Logic}
use prog.Memory.{Memory}
use prog.Routine.{Routine}
use Rattle.rows.specs.Telephone.{same_number}
use Rattle.rows.specs.declared.Event.TheVariants.{Opening, Ask, FromAccess, Expiry, Time}
use Rattle.files.specs.Bodies.{plain_at, read_at}
use Rattle.files.specs.Dump.{dump_of}
use Rattle.files.specs.Listing.{listing_of}
use Rattle.files.specs.Places.{places_of}
use Rattle.files.specs.Words.{Says}
use Rattle.files.specs.Write.{number_with, message_with}
use Rattle.files.specs.declared.Where.TheVariants.{Plain, Slot}
use Rattle.files.proofs.Same.{Fitted, Opened, Moved, Wrote, Numbered, HandedOver}
use Rattle.files.specs.contracts.bodies.plain_at as plain_at
use Rattle.files.specs.contracts.bodies.read_at as read_at
use Rattle.files.specs.contracts.dump.rev_dump as rev-dump
use Rattle.files.specs.contracts.lent.found_at as found_at
use Rattle.files.specs.contracts.Reader.left as left
use Rattle.files.specs.contracts.Reader.next as next
use Rattle.files.specs.contracts.Reader.open as opens
use Rattle.files.specs.contracts.listing.rev_listing as rev-listing
use Rattle.files.specs.contracts.places.count_records as count-records
use Rattle.files.specs.contracts.words.says as says
use Rattle.files.specs.contracts.write.rev_same_number as rev-same-number
use Rattle.files.specs.contracts.write.rev_write_access as rev-write-access
use Rattle.files.specs.contracts.write.rev_write_expiry as rev-write-expiry
use Rattle.files.specs.contracts.write.rev_write_message as rev-write-message
use Rattle.files.specs.contracts.write.rev_write_opening as rev-write-opening
use Rattle.files.specs.contracts.write.rev_write_request as rev-write-request
use Rattle.files.specs.contracts.write.rev_write_slot as rev-write-slot
use Rattle.files.specs.contracts.write.rev_write_time as rev-write-time
use Rattle.files.specs.contracts.write.write_at_slot as write-at-slot
use Rattle.files.specs.contracts.write.write_event as write-event

module _ {M : Type 1} {𝓤 : Ura M} (𝓛 : Logic 𝓤) (mem : Memory → SProp 𝓤) (run : Routine → Fun 𝓤) where
  -- The contract that asks for nothing and says P of the result and of the parameters as they are left.
  abbrev pub Promises : (T : Ended) (κs : Lfts T.signature.lifetimes) (a : Args T.signature κs) →
      (Res T.signature κs → Outs κs T.signature.params T.kept → Type 0) → SpecAt 𝓤 T.signature κs
  Promises T κs a P =
      record {
        ghost = Unit {0};
        requires = λ _. emp 𝓤;
        ensures = λ _ r. exits 𝓛 T.signature T.kept κs a (λ last. fact 𝓤 (P r last));
      }

  -- a.0 is the file, a.1.0 the buffer
  pub rev_listing_says : (κs : Lfts 2) (a : Args rev-listing.signature κs) →
      rev-listing.spec 𝓛 mem run κs a
      ≡ Promises rev-listing.ended κs a (λ r last. Fitted a.0.now (listing_of a.0.now) a.1.0.now r last.1.0.now)
  rev_listing_says κs a = refl

  pub rev_dump_says : (κs : Lfts 2) (a : Args rev-dump.signature κs) →
      rev-dump.spec 𝓛 mem run κs a
      ≡ Promises rev-dump.ended κs a (λ r last. Fitted a.0.now (dump_of a.0.now) a.1.0.now r last.1.0.now)
  rev_dump_says κs a = refl

  -- a.0 is the slice
  pub open_says : (κs : Lfts 1) (a : Args opens.signature κs) →
      opens.spec 𝓛 mem run κs a ≡ Promises opens.ended κs a (λ r last. Opened a.0 r)
  open_says κs a = refl

  -- a.0 is the reader
  pub next_says : (κs : Lfts 2) (a : Args next.signature κs) →
      next.spec 𝓛 mem run κs a ≡ Promises next.ended κs a (λ f last. Moved a.0.now f last.0.now)
  next_says κs a = refl

  pub left_says : (κs : Lfts 1) (a : Args left.signature κs) →
      left.spec 𝓛 mem run κs a ≡ Promises left.ended κs a (λ n last. n ≡ length a.0.src.now - a.0.at)
  left_says κs a = refl

  -- a.0 is the file, a.1.0 the place
  pub read_at_says : (κs : Lfts 1) (a : Args read_at.signature κs) →
      read_at.spec 𝓛 mem run κs a ≡ Promises read_at.ended κs a (λ f last. f ≡ read_at a.0.now a.1.0)
  read_at_says κs a = refl

  pub plain_at_says : (κs : Lfts 1) (a : Args plain_at.signature κs) →
      plain_at.spec 𝓛 mem run κs a ≡ Promises plain_at.ended κs a (λ f last. f ≡ plain_at a.0.now a.1.0)
  plain_at_says κs a = refl

  pub found_at_says : (κs : Lfts 1) (a : Args found_at.signature κs) →
      found_at.spec 𝓛 mem run κs a ≡ Promises found_at.ended κs a (λ f last. f ≡ read_at a.0.now a.1.0)
  found_at_says κs a = refl

  -- a.0 is the file
  pub count_records_says : (κs : Lfts 1) (a : Args count-records.signature κs) →
      count-records.spec 𝓛 mem run κs a ≡ Promises count-records.ended κs a (λ n last. n ≡ length (places_of a.0.now))
  count_records_says κs a = refl

  -- a.0 is the event, a.1.0 the buffer
  pub write_event_says : (κs : Lfts 1) (a : Args write-event.signature κs) →
      write-event.spec 𝓛 mem run κs a
      ≡ Promises write-event.ended κs a (λ w last. Wrote Plain a.0 a.1.0.now w last.1.0.now)
  write_event_says κs a = refl

  -- the fields, then the buffer
  pub rev_write_opening_says : (κs : Lfts 1) (a : Args rev-write-opening.signature κs) →
      rev-write-opening.spec 𝓛 mem run κs a
      ≡ Promises rev-write-opening.ended κs a
      (λ r last. Numbered Plain (Opening a.0 a.1.0 (number_with a.1.1.0 a.1.1.1.0 a.1.1.1.1.0)) a.1.1.1.1.1.0.now r last.1.1.1.1.1.0.now)
  rev_write_opening_says κs a = refl

  pub rev_write_request_says : (κs : Lfts 1) (a : Args rev-write-request.signature κs) →
      rev-write-request.spec 𝓛 mem run κs a
      ≡ Promises rev-write-request.ended κs a
      (λ r last. Numbered Plain (Ask a.0 (number_with a.1.0 a.1.1.0 a.1.1.1.0)) a.1.1.1.1.0.now r last.1.1.1.1.0.now)
  rev_write_request_says κs a = refl

  pub rev_write_message_says : (κs : Lfts 1) (a : Args rev-write-message.signature κs) →
      rev-write-message.spec 𝓛 mem run κs a
      ≡ Promises rev-write-message.ended κs a
      (λ r last. Numbered Plain
      (message_with a.0 a.1.0 a.1.1.0 a.1.1.1.0 a.1.1.1.1.0
      (number_with a.1.1.1.1.1.0 a.1.1.1.1.1.1.0 a.1.1.1.1.1.1.1.0)
      (number_with a.1.1.1.1.1.1.1.1.0 a.1.1.1.1.1.1.1.1.1.0 a.1.1.1.1.1.1.1.1.1.1.0) a.1.1.1.1.1.1.1.1.1.1.1.0)
      a.1.1.1.1.1.1.1.1.1.1.1.1.0.now r last.1.1.1.1.1.1.1.1.1.1.1.1.0.now)
  rev_write_message_says κs a = refl

  pub rev_write_access_says : (κs : Lfts 1) (a : Args rev-write-access.signature κs) →
      rev-write-access.spec 𝓛 mem run κs a
      ≡ Promises rev-write-access.ended κs a (λ r last. Numbered Plain (FromAccess a.0 a.1.0) a.1.1.0.now r last.1.1.0.now)
  rev_write_access_says κs a = refl

  pub rev_write_expiry_says : (κs : Lfts 1) (a : Args rev-write-expiry.signature κs) →
      rev-write-expiry.spec 𝓛 mem run κs a
      ≡ Promises rev-write-expiry.ended κs a (λ r last. Numbered Plain Expiry a.0.now r last.0.now)
  rev_write_expiry_says κs a = refl

  pub rev_write_time_says : (κs : Lfts 1) (a : Args rev-write-time.signature κs) →
      rev-write-time.spec 𝓛 mem run κs a
      ≡ Promises rev-write-time.ended κs a (λ r last. Numbered Plain (Time a.0) a.1.0.now r last.1.0.now)
  rev_write_time_says κs a = refl

  -- a.0 is the slot, a.1.0 the event, a.1.1.0 the buffer
  pub write_at_slot_says : (κs : Lfts 1) (a : Args write-at-slot.signature κs) →
      write-at-slot.spec 𝓛 mem run κs a
      ≡ Promises write-at-slot.ended κs a (λ w last. Wrote (Slot a.0) a.1.0 a.1.1.0.now w last.1.1.0.now)
  write_at_slot_says κs a = refl

  -- a.0 is the slot, a.1.0 the record inside, a.1.1.0 the buffer
  pub rev_write_slot_says : (κs : Lfts 2) (a : Args rev-write-slot.signature κs) →
      rev-write-slot.spec 𝓛 mem run κs a
      ≡ Promises rev-write-slot.ended κs a (λ r last. HandedOver a.1.0.now a.0 a.1.1.0.now r last.1.1.0.now)
  rev_write_slot_says κs a = refl

  -- two numbers, three parameters each
  pub rev_same_number_says : (κs : Lfts 0) (a : Args rev-same-number.signature κs) →
      rev-same-number.spec 𝓛 mem run κs a
      ≡ Promises rev-same-number.ended κs a
      (λ r last. r ≡ same_number (number_with a.0 a.1.0 a.1.1.0) (number_with a.1.1.1.0 a.1.1.1.1.0 a.1.1.1.1.1.0))
  rev_same_number_says κs a = refl

  -- a.0 is the line, a.1.0 says plain or which slot, a.1.1.0 is the event
  pub says_says : (κs : Lfts 1) (a : Args says.signature κs) →
      says.spec 𝓛 mem run κs a ≡ Promises says.ended κs a (λ r last. Says a.0.now a.1.0 a.1.1.0 r)
  says_says κs a = refl
