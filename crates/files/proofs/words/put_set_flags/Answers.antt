use Rattle.text.specs.Choose.{if_eq}
use Rattle.files.specs.Messages.{text_if}
use Rattle.files.specs.Words.{flag_text, flags_text}
use Rattle.text.proofs.Writes.{writes}
use Rattle.files.proofs.words.put_set_flags.Goals as goal

pub returns : goal.returns
unfolding flags_text flag_text text_if if_eq
returns c = search writes
