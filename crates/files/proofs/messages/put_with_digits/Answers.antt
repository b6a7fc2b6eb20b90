use Rattle.files.specs.Messages.{with_digits}
use Rattle.text.proofs.Writes.{writes}
use Rattle.files.proofs.messages.put_with_digits.Goals as goal

pub returns : goal.returns
unfolding with_digits
returns c = search writes
