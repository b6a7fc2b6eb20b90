use Rattle.wireline.specs.Lines.{id_text}
use Rattle.text.proofs.Writes.{writes}
use Rattle.wireline.proofs.lines.put_id.Goals as goal

pub returns-then-id-eq256 : goal.returns-then-id-eq256
unfolding id_text
returns-then-id-eq256 c = search writes

pub returns-else-id-eq256 : goal.returns-else-id-eq256
unfolding id_text
returns-else-id-eq256 c = search writes
