use Rattle.text.proofs.Writes.{wrote_yes, wrote_no}
use Rattle.wire.specs.Texts.{rejected_text}
use Rattle.wire.proofs.writer.put_rejected.Goals as goal

pub returns-then-id-eq256 : goal.returns-then-id-eq256
unfolding rejected_text
returns-then-id-eq256 c = wrote_yes _ _ _ _ _ _ c.if-id-eq256.true c.word.ensures

pub returns-else-id-eq256 : goal.returns-else-id-eq256
unfolding rejected_text
returns-else-id-eq256 c = wrote_no _ _ _ _ _ _ c.if-id-eq256.false c.put_id.ensures
