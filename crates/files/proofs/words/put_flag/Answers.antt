use Rattle.text.proofs.Writes.{wrote_after, wrote_none, wrote_not, wrote_so}
use Rattle.files.proofs.words.put_flag.Goals as goal

pub returns-then-present : goal.returns-then-present
returns-then-present c = wrote_so _ _ _ _ _ c.if-present.true (wrote_after c.word.ensures c.put_comma.ensures)

pub returns-else-present : goal.returns-else-present
returns-else-present c = wrote_not _ _ _ _ _ c.if-present.false (wrote_none _)
