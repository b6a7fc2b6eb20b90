use Rattle.files.specs.Words.{ask_words}
use Rattle.text.proofs.Writes.{writes}
use Rattle.files.proofs.words.put_ask.Goals as goal

pub returns : goal.returns
unfolding ask_words
returns c = search writes
