use Rattle.text.proofs.Writes.{wrote_after}
use Rattle.wire.specs.Texts.{number_text}
use Rattle.wire.proofs.writer.put_number.Goals as goal

pub returns : goal.returns
unfolding number_text
returns c = wrote_after (rw c.padded.ensures at c.put_octets.ensures) c.word.ensures
