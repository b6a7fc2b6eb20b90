use Rattle.text.proofs.Writes.{wrote_after}
use Rattle.wire.specs.Texts.{parts_text}
use Rattle.wire.proofs.writer.put_parts.Goals as goal

pub returns : goal.returns
unfolding parts_text
returns c = wrote_after c.put_last.ensures (wrote_after c.put_parties.ensures c.put_first.ensures)
