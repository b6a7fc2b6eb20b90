use Rattle.files.specs.Words.{access_words}
use Rattle.text.proofs.Writes.{writes}
use Rattle.files.proofs.words.put_access.Goals as goal

pub returns : goal.returns
unfolding access_words
returns c = search writes
