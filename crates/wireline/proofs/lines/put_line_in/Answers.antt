use Rattle.wireline.specs.Lines.{line_in}
use Rattle.text.proofs.Writes.{writes}
use Rattle.wireline.proofs.lines.put_line_in.Goals as goal

pub returns : goal.returns
unfolding line_in
returns c = search writes
