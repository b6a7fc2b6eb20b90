use Rattle.record.proofs.Fits.{plain_within, slotted_within}
use Rattle.record.proofs.lines.write.Goals as goal

pub returns-in-Plain : goal.returns-in-Plain
returns-in-Plain c = rw c.write_event.ensures.0 (plain_within _ _)

pub returns-in-Slot : goal.returns-in-Slot
returns-in-Slot c = rw c.write_at_slot.ensures.0 (slotted_within _ _ _)
