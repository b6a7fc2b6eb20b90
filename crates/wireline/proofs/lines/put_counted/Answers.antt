use Rattle.text.specs.Choose.{if_eq}
use Rattle.wire.specs.Texts.{text_if}
use Rattle.wireline.specs.Lines.{counted_text}
use Rattle.text.proofs.Writes.{wrote_after}
use Rattle.wireline.proofs.lines.put_counted.Goals as goal

pub returns : goal.returns
unfolding counted_text text_if if_eq
returns c = wrote_after c.value.ensures (wrote_after c.put.ensures (wrote_after (rw c.from.ensures at c.decimal.ensures) c.put_if.ensures))
