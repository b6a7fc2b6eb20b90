use Rattle.files.specs.Messages.{with_operation}
use Rattle.text.proofs.Writes.{wrote_after, wrote_as}
use Rattle.files.proofs.messages.put_with_operation.Goals as goal

pub returns : goal.returns
unfolding with_operation
returns c = wrote_after (wrote_as c.operation_word.ensures c.word-2.ensures) c.word.ensures
