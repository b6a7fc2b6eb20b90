use Rattle.std.proofs.Common.{refl, arith}
use Rattle.text.proofs.Cases.{yes_lt, no_lt, yes_eq}
use Rattle.wire.specs.Texts.{written_of, leaves_of}
use Rattle.wire.proofs.writer.give.Goals as goal

pub returns-then-out-text : goal.returns-then-out-text
unfolding written_of leaves_of
returns-then-out-text c = (yes_eq _ _ _ _ _ refl (yes_lt _ _ _ _ _ (omega arith) refl), yes_eq _ _ _ _ _ refl (yes_lt _ _ _ _ _ (omega arith) refl))

pub returns : goal.returns
unfolding written_of leaves_of
returns c =
    (yes_eq _ _ _ _ _ refl (no_lt _ _ _ _ _ (omega arith) refl), yes_eq _ _ _ _ _ refl (no_lt _ _ _ _ _ (omega arith) (rw c.copy_from_slice.ensures.after refl)))
