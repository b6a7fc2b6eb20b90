use Rattle.wireline.specs.Lines.{with_operation}
use Rattle.text.proofs.Writes.{writes}
use Rattle.wireline.proofs.lines.put_with_operation.Goals as goal

pub returns : goal.returns
unfolding with_operation
returns c = search writes
