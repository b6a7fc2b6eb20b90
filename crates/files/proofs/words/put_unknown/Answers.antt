use Rattle.files.specs.Words.{unknown_words}
use Rattle.text.proofs.Writes.{wrote_after}
use Rattle.files.proofs.words.put_unknown.Goals as goal

pub returns : goal.returns
unfolding unknown_words
returns c = wrote_after c.put_code.ensures (rw c.from.ensures at c.numbered.ensures)
