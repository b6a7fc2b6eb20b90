use Rattle.text.proofs.Writes.{wrote_so, wrote_not, writes}
use Rattle.wireline.proofs.lines.put_number.Goals as goal

pub returns-then-counted : goal.returns-then-counted
returns-then-counted c = search (wrote_so, wrote_not, writes)

pub returns-else-counted : goal.returns-else-counted
returns-else-counted c = search (wrote_so, wrote_not, writes)
