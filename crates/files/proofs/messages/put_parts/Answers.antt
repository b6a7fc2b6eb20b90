use Rattle.text.specs.Choose.{if_eq}
use Rattle.files.specs.Messages.{text_if, parts_text}
use Rattle.text.proofs.Writes.{writes}
use Rattle.files.proofs.messages.put_parts.Goals as goal

pub returns : goal.returns
unfolding parts_text text_if if_eq
returns c = search writes
