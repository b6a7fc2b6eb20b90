-- The contracts of the functions that a host calls, as the prover has them from the sources: each is the very contract of the function of
-- that name in `files` or `peers`, of which Contracts.antt there says that it asks for nothing and says just what it should. An export that
-- asks for more or says less is refused here.
-- Assumes nothing.
use mathlib.Core.Path.{◌≡◌, refl}
use seplogic.Ra.Ura.{Ura}
use base.Logic.{SProp}
use contract.Lifetimes.{Lfts}
use contract.Monad.{Fun}
use denote.Triple.Entry.{Args}
use types.Logic.{Logic}
use prog.Memory.{Memory}
use prog.Routine.{Routine}
use Rattle.files.specs.contracts.rev_listing as of-rev_listing
use Rattle.files.specs.contracts.rev_dump as of-rev_dump
use Rattle.files.specs.contracts.rev_write_opening as of-rev_write_opening
use Rattle.files.specs.contracts.rev_write_request as of-rev_write_request
use Rattle.files.specs.contracts.rev_write_message as of-rev_write_message
use Rattle.files.specs.contracts.rev_write_access as of-rev_write_access
use Rattle.files.specs.contracts.rev_write_expiry as of-rev_write_expiry
use Rattle.files.specs.contracts.rev_write_time as of-rev_write_time
use Rattle.files.specs.contracts.rev_write_slot as of-rev_write_slot
use Rattle.files.specs.contracts.rev_same_number as of-rev_same_number
use Rattle.peers.specs.contracts.rev_read_parameter as of-rev_read_parameter
use Rattle.peers.specs.contracts.rev_write_parameter as of-rev_write_parameter
use Rattle.rev.specs.contracts.rev_listing as rev_listing
use Rattle.rev.specs.contracts.rev_dump as rev_dump
use Rattle.rev.specs.contracts.rev_write_opening as rev_write_opening
use Rattle.rev.specs.contracts.rev_write_request as rev_write_request
use Rattle.rev.specs.contracts.rev_write_message as rev_write_message
use Rattle.rev.specs.contracts.rev_write_access as rev_write_access
use Rattle.rev.specs.contracts.rev_write_expiry as rev_write_expiry
use Rattle.rev.specs.contracts.rev_write_time as rev_write_time
use Rattle.rev.specs.contracts.rev_write_slot as rev_write_slot
use Rattle.rev.specs.contracts.rev_same_number as rev_same_number
use Rattle.rev.specs.contracts.rev_read_parameter as rev_read_parameter
use Rattle.rev.specs.contracts.rev_write_parameter as rev_write_parameter

module _ {M : Type 1} {𝓤 : Ura M} (𝓛 : Logic 𝓤) (mem : Memory → SProp 𝓤) (run : Routine → Fun 𝓤) where
  -- the file, the buffer
  pub rev_listing_exported : (κs : Lfts 2) (a : Args rev_listing.signature κs) → rev_listing.spec 𝓛 mem run κs a ≡ of-rev_listing.spec 𝓛 mem run κs a
  rev_listing_exported κs a = refl

  pub rev_dump_exported : (κs : Lfts 2) (a : Args rev_dump.signature κs) → rev_dump.spec 𝓛 mem run κs a ≡ of-rev_dump.spec 𝓛 mem run κs a
  rev_dump_exported κs a = refl

  -- the fields, then the buffer
  pub rev_write_opening_exported : (κs : Lfts 1) (a : Args rev_write_opening.signature κs) → rev_write_opening.spec 𝓛 mem run κs a ≡ of-rev_write_opening.spec 𝓛 mem run κs a
  rev_write_opening_exported κs a = refl

  pub rev_write_request_exported : (κs : Lfts 1) (a : Args rev_write_request.signature κs) → rev_write_request.spec 𝓛 mem run κs a ≡ of-rev_write_request.spec 𝓛 mem run κs a
  rev_write_request_exported κs a = refl

  pub rev_write_message_exported : (κs : Lfts 1) (a : Args rev_write_message.signature κs) → rev_write_message.spec 𝓛 mem run κs a ≡ of-rev_write_message.spec 𝓛 mem run κs a
  rev_write_message_exported κs a = refl

  pub rev_write_access_exported : (κs : Lfts 1) (a : Args rev_write_access.signature κs) → rev_write_access.spec 𝓛 mem run κs a ≡ of-rev_write_access.spec 𝓛 mem run κs a
  rev_write_access_exported κs a = refl

  pub rev_write_expiry_exported : (κs : Lfts 1) (a : Args rev_write_expiry.signature κs) → rev_write_expiry.spec 𝓛 mem run κs a ≡ of-rev_write_expiry.spec 𝓛 mem run κs a
  rev_write_expiry_exported κs a = refl

  pub rev_write_time_exported : (κs : Lfts 1) (a : Args rev_write_time.signature κs) → rev_write_time.spec 𝓛 mem run κs a ≡ of-rev_write_time.spec 𝓛 mem run κs a
  rev_write_time_exported κs a = refl

  -- the slot, the record inside, the buffer
  pub rev_write_slot_exported : (κs : Lfts 2) (a : Args rev_write_slot.signature κs) → rev_write_slot.spec 𝓛 mem run κs a ≡ of-rev_write_slot.spec 𝓛 mem run κs a
  rev_write_slot_exported κs a = refl

  -- two numbers, three parameters each
  pub rev_same_number_exported : (κs : Lfts 0) (a : Args rev_same_number.signature κs) → rev_same_number.spec 𝓛 mem run κs a ≡ of-rev_same_number.spec 𝓛 mem run κs a
  rev_same_number_exported κs a = refl

  -- the parameter, message and cause, the buffer
  pub rev_read_parameter_exported : (κs : Lfts 2) (a : Args rev_read_parameter.signature κs) → rev_read_parameter.spec 𝓛 mem run κs a ≡ of-rev_read_parameter.spec 𝓛 mem run κs a
  rev_read_parameter_exported κs a = refl

  -- the entry, the buffer
  pub rev_write_parameter_exported : (κs : Lfts 2) (a : Args rev_write_parameter.signature κs) → rev_write_parameter.spec 𝓛 mem run κs a ≡ of-rev_write_parameter.spec 𝓛 mem run κs a
  rev_write_parameter_exported κs a = refl
