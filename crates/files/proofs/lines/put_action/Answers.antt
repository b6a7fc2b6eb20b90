use Rattle.files.specs.Lines.{action_text}
use Rattle.text.proofs.Writes.{writes, wrote_by}
use Rattle.files.proofs.lines.put_action.Goals as goal

pub returns-in-NotifyAccepted : goal.returns-in-NotifyAccepted
returns-in-NotifyAccepted c = search (writes, wrote_by (action_text c.args.m))

pub returns-in-AccessError : goal.returns-in-AccessError
returns-in-AccessError c = wrote_by (action_text c.args.m) _ _ _ _ c.in-AccessError.is (rw c.from.ensures at c.put_numbered_line.ensures)
