use Rattle.files.specs.Messages.{carried_text}
use Rattle.text.proofs.Writes.{writes}
use Rattle.files.proofs.messages.put_carried.Goals as goal

pub returns : goal.returns
unfolding carried_text
returns c = search writes
