use Rattle.board.proofs.Slots.{stepped, past}
use Rattle.board.proofs.step_slot.Goals as goal

pub returns-then-slot-row : goal.returns-then-slot-row
returns-then-slot-row c = stepped _ _ _ c.if-slot-lt-SLOTS.true c.if-slot-row.true _ _ _ c.step-out.ensures c.after.ensures

pub returns-else-slot-lt-SLOTS : goal.returns-else-slot-lt-SLOTS
returns-else-slot-lt-SLOTS c = past _ _ _ c.else-slot-lt-SLOTS.either _ c.no_slot.ensures
