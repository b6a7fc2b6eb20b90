use Rattle.wireline.specs.Answers.{own_line}
use Rattle.text.proofs.Writes.{writes}
use Rattle.wireline.proofs.answers.put_own.Goals as goal

pub returns : goal.returns
unfolding own_line
returns c = search writes
