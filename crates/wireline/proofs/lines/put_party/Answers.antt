use Rattle.text.proofs.Writes.{wrote_so, wrote_not, writes}
use Rattle.wireline.proofs.lines.put_party.Goals as goal

pub returns-then-present : goal.returns-then-present
returns-then-present c = search (wrote_so, wrote_not, writes)

pub returns-else-present : goal.returns-else-present
returns-else-present c = search (wrote_so, wrote_not, writes)
