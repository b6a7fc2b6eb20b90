use Rattle.files.specs.Messages.{released_text}
use Rattle.text.proofs.Writes.{wrote_after}
use Rattle.files.proofs.messages.put_released.Goals as goal

pub returns : goal.returns
unfolding released_text
returns c = wrote_after c.put_carried.ensures (rw c.from.ensures at c.numbered.ensures)
