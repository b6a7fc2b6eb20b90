use Rattle.text.specs.Choose.{if_eq}
use Rattle.text.proofs.Writes.{wrote_after}
use Rattle.wire.specs.Texts.{text_if, flag_text, duration_text, last_text}
use Rattle.wire.proofs.writer.put_last.Goals as goal

pub returns : goal.returns
unfolding last_text flag_text duration_text text_if if_eq
returns c = wrote_after c.put_duration.ensures c.put_flag.ensures
