use Rattle.files.specs.Lines.{line_text}
use Rattle.text.proofs.Writes.{wrote_after}
use Rattle.files.proofs.lines.put_line.Goals as goal

pub returns : goal.returns
unfolding line_text
returns c = wrote_after c.put.ensures (wrote_after c.put_meters.ensures (wrote_after c.put_stand.ensures (wrote_after (rw c.from.ensures at c.numbered.ensures) (wrote_after c.put_slot.ensures c.decimal.ensures))))
