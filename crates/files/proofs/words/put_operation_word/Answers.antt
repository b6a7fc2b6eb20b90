use Rattle.std.proofs.Common.{List, ℕ, arith}
use Rattle.files.specs.Words.{operation_word}
use Rattle.text.proofs.Cases.{both_eq}
use Rattle.text.specs.Page.{Wrote}
use Rattle.text.proofs.Writes.{wrote_above, wrote_as, wrote_below, wrote_no}
use Rattle.files.proofs.words.put_operation_word.Goals as goal

pub returns-in-1-to-3 : goal.returns-in-1-to-3
unfolding operation_word
returns-in-1-to-3 c = wrote_no _ _ _ _ _ _ (λ e. omega arith) (wrote_below _ _ _ _ _ _ (omega arith) (wrote_as c.operation_word.ensures c.word.ensures))

pub returns-in_default : goal.returns-in_default
unfolding operation_word
returns-in_default c =
    both_eq c.args.operation 0 (λ (t : List ℕ). Wrote t c.args.page.now c.put_code.new.page) _ _ (λ _. c.put_code.ensures)
    (λ n. wrote_above _ _ _ _ _ _ (omega arith) c.put_code.ensures)
