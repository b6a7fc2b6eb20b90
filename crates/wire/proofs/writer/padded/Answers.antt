use Rattle.text.proofs.Cases.{yes_eq, no_eq}
use Rattle.std.proofs.Common.{refl}
use Rattle.wire.specs.Texts.{padded_of}
use Rattle.wire.proofs.writer.padded.Goals as goal

pub returns-then-count-eq1 : goal.returns-then-count-eq1
unfolding padded_of
returns-then-count-eq1 c = yes_eq _ _ _ _ _ c.if-count-eq1.true refl

pub returns-else-count-eq1 : goal.returns-else-count-eq1
unfolding padded_of
returns-else-count-eq1 c = no_eq _ _ _ _ _ c.if-count-eq1.false refl
