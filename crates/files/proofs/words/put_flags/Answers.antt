use Rattle.std.proofs.Common.{arith}
use Rattle.files.specs.Words.{flags_word}
use Rattle.text.proofs.Writes.{wrote_yes, wrote_no, wrote_above, wrote_below}
use Rattle.files.proofs.words.put_flags.Goals as goal

pub returns-in-0 : goal.returns-in-0
unfolding flags_word
returns-in-0 c = wrote_yes _ _ _ _ _ _ (omega arith) c.word.ensures

pub returns-in-1-to-31 : goal.returns-in-1-to-31
unfolding flags_word
returns-in-1-to-31 c = wrote_no _ _ _ _ _ _ (λ e. omega arith) (wrote_below _ _ _ _ _ _ (omega arith) c.put_set_flags.ensures)

pub returns-in_default : goal.returns-in_default
unfolding flags_word
returns-in_default c = wrote_no _ _ _ _ _ _ (λ e. omega arith) (wrote_above _ _ _ _ _ _ (omega arith) c.put_code.ensures)
