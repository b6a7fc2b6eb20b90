use Rattle.files.specs.Words.{unless_zero}
use Rattle.text.proofs.Writes.{wrote_none, wrote_no, wrote_yes}
use Rattle.files.proofs.words.put_unless_zero.Goals as goal

pub returns-then-n-ne0 : goal.returns-then-n-ne0
unfolding unless_zero
returns-then-n-ne0 c = wrote_no _ _ _ _ _ _ c.if-n-ne0.true (rw c.from.ensures at c.numbered.ensures)

pub returns-else-n-ne0 : goal.returns-else-n-ne0
unfolding unless_zero
returns-else-n-ne0 c = wrote_yes _ _ _ _ _ _ c.if-n-ne0.false (wrote_none _)
