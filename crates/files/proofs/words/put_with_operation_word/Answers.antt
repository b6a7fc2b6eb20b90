use Rattle.files.specs.Words.{with_operation_word}
use Rattle.text.proofs.Writes.{writes}
use Rattle.files.proofs.words.put_with_operation_word.Goals as goal

pub returns : goal.returns
unfolding with_operation_word
returns c = search writes
