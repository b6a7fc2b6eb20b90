use Rattle.text.proofs.Writes.{wrote_none, wrote_not, wrote_so}
use Rattle.files.proofs.words.put_number_if.Goals as goal

pub returns-then-present : goal.returns-then-present
returns-then-present c = wrote_so _ _ _ _ _ c.if-present.true c.put_with_number.ensures

pub returns-else-present : goal.returns-else-present
returns-else-present c = wrote_not _ _ _ _ _ c.if-present.false (wrote_none _)
