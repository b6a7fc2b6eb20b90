use Rattle.files.specs.Messages.{sent_text}
use Rattle.text.proofs.Writes.{writes}
use Rattle.files.proofs.messages.put_sent.Goals as goal

pub returns : goal.returns
unfolding sent_text
returns c = search writes
