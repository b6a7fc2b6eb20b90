use Rattle.text.specs.Choose.{if_eq}
use Rattle.text.proofs.Writes.{wrote_after}
use Rattle.wire.specs.Texts.{text_if, flag_text, first_text}
use Rattle.wire.proofs.writer.put_first.Goals as goal

pub returns : goal.returns
unfolding first_text flag_text text_if if_eq
returns c = wrote_after c.put_flag-2.ensures c.put_flag.ensures
