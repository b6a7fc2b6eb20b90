use Rattle.text.specs.Choose.{if_eq}
use Rattle.files.specs.Messages.{text_if, values_text}
use Rattle.text.proofs.Writes.{writes}
use Rattle.files.proofs.messages.put_values.Goals as goal

pub returns : goal.returns
unfolding values_text text_if if_eq
returns c = search writes
