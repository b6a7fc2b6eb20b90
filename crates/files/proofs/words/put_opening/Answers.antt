use Rattle.files.specs.Words.{opening_words}
use Rattle.text.proofs.Writes.{writes}
use Rattle.files.proofs.words.put_opening.Goals as goal

pub returns : goal.returns
unfolding opening_words
returns c = search writes
