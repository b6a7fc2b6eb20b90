use Rattle.files.specs.Words.{digits_word}
use Rattle.text.proofs.Writes.{writes}
use Rattle.files.proofs.words.put_digits_word.Goals as goal

pub returns-then-n-eq0 : goal.returns-then-n-eq0
unfolding digits_word
returns-then-n-eq0 c = search writes

pub returns-else-n-eq0 : goal.returns-else-n-eq0
unfolding digits_word
returns-else-n-eq0 c = search writes
