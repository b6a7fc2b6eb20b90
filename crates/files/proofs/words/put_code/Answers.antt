use Rattle.files.specs.Words.{code_word}
use Rattle.files.proofs.words.put_code.Goals as goal

pub returns : goal.returns
unfolding code_word
returns c = rw c.from.ensures at c.numbered.ensures
