use Rattle.files.specs.Words.{message_words}
use Rattle.text.proofs.Writes.{writes}
use Rattle.files.proofs.words.put_message.Goals as goal

pub returns : goal.returns
unfolding message_words
returns c = search writes
