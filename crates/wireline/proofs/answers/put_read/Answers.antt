use Rattle.wireline.specs.Answers.{read_text}
use Rattle.text.proofs.Writes.{writes}
use Rattle.wireline.proofs.answers.put_read.Goals as goal

pub returns : goal.returns
unfolding read_text
returns c = search writes
