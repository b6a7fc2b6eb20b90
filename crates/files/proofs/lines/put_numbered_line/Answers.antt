use Rattle.files.specs.Lines.{numbered_line}
use Rattle.text.proofs.Writes.{writes}
use Rattle.files.proofs.lines.put_numbered_line.Goals as goal

pub returns : goal.returns
unfolding numbered_line
returns c = search writes
