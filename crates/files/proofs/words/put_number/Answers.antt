use Rattle.std.proofs.Common.{sym, ◌∙◌}
use Rattle.files.specs.Words.{number_word}
use Rattle.text.proofs.Writes.{wrote_not, wrote_so}
use Rattle.files.proofs.words.put_number.Goals as goal

pub returns-then-in_range : goal.returns-then-in_range
unfolding number_word
returns-then-in_range c = wrote_so _ _ _ _ _ (sym c.in_range.ensures ∙ c.if-in_range.true) c.put_digits_word.ensures

pub returns-else-in_range : goal.returns-else-in_range
unfolding number_word
returns-else-in_range c = wrote_not _ _ _ _ _ (sym c.in_range.ensures ∙ c.if-in_range.false) c.put_counted_word.ensures
