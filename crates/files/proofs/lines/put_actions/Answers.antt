use Rattle.files.specs.Lines.{actions_text}
use Rattle.text.proofs.Writes.{writes}
use Rattle.files.proofs.lines.put_actions.Goals as goal

pub returns : goal.returns
unfolding actions_text
returns c = search writes
