use Rattle.text.specs.Choose.{if_eq}
use Rattle.files.specs.Messages.{text_if}
use Rattle.files.specs.Words.{values_words}
use Rattle.text.proofs.Writes.{writes}
use Rattle.files.proofs.words.put_values_words.Goals as goal

pub returns : goal.returns
unfolding values_words text_if if_eq
returns c = search writes
