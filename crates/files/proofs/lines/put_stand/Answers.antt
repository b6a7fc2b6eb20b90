use Rattle.files.specs.Lines.{stand_text}
use Rattle.text.proofs.Writes.{writes}
use Rattle.files.proofs.lines.put_stand.Goals as goal

pub returns : goal.returns
unfolding stand_text
returns c = search writes
