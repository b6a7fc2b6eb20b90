use Rattle.files.specs.Words.{with_number}
use Rattle.text.proofs.Writes.{writes}
use Rattle.files.proofs.words.put_with_number.Goals as goal

pub returns : goal.returns
unfolding with_number
returns c = search writes
