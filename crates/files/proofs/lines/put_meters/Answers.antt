use Rattle.files.specs.Lines.{meters_text}
use Rattle.text.proofs.Writes.{writes}
use Rattle.files.proofs.lines.put_meters.Goals as goal

pub returns : goal.returns
unfolding meters_text
returns c = search writes
