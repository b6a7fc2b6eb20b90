use Rattle.files.specs.Words.{reject_words}
use Rattle.text.proofs.Writes.{writes}
use Rattle.files.proofs.words.put_reject.Goals as goal

pub returns : goal.returns
unfolding reject_words
returns c = search writes
