use Rattle.files.specs.Words.{entry_words}
use Rattle.text.proofs.Writes.{writes}
use Rattle.files.proofs.words.put_entry.Goals as goal

pub returns : goal.returns
unfolding entry_words
returns c = search writes
