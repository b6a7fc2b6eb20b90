use Rattle.wireline.specs.Hex.{end_text}
use Rattle.text.proofs.Writes.{writes}
use Rattle.wireline.proofs.hex.put_end.Goals as goal

pub returns-then-left-eq0 : goal.returns-then-left-eq0
unfolding end_text
returns-then-left-eq0 c = search writes

pub returns-else-left-eq0 : goal.returns-else-left-eq0
unfolding end_text
returns-else-left-eq0 c = search writes
