use Rattle.files.specs.Words.{counted_word}
use Rattle.text.proofs.Writes.{wrote_after}
use Rattle.files.proofs.words.put_counted_word.Goals as goal

pub returns : goal.returns
unfolding counted_word
returns c = wrote_after c.value.ensures (wrote_after c.put-2.ensures (wrote_after (rw c.from.ensures at c.decimal.ensures) (wrote_after c.put_sign.ensures c.put.ensures)))
