use Rattle.std.proofs.Common.{arith}
use Rattle.wireline.specs.Lines.{operation_text}
use Rattle.text.proofs.Writes.{wrote_yes, wrote_no}
use Rattle.wireline.proofs.lines.put_operation.Goals as goal

pub returns-in-1 : goal.returns-in-1
unfolding operation_text
returns-in-1 c = wrote_yes _ _ _ _ _ _ (omega arith) c.word.ensures

pub returns-in-2 : goal.returns-in-2
unfolding operation_text
returns-in-2 c = wrote_no _ _ _ _ _ _ (λ e. omega arith) (wrote_yes _ _ _ _ _ _ (omega arith) c.word-in-2.ensures)

pub returns-in-3 : goal.returns-in-3
unfolding operation_text
returns-in-3 c = wrote_no _ _ _ _ _ _ (λ e. omega arith) (wrote_no _ _ _ _ _ _ (λ e. omega arith) (wrote_yes _ _ _ _ _ _ (omega arith) c.word-in-3.ensures))

pub returns-in_default : goal.returns-in_default
unfolding operation_text
returns-in_default c = wrote_no _ _ _ _ _ _ (λ e. omega arith) (wrote_no _ _ _ _ _ _ (λ e. omega arith) (wrote_no _ _ _ _ _ _ (λ e. omega arith) (rw c.from.ensures at c.numbered.ensures)))
