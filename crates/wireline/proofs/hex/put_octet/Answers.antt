use Rattle.wireline.specs.Hex.{octet_text}
use Rattle.text.proofs.Writes.{wrote_after}
use Rattle.wireline.proofs.hex.put_octet.Goals as goal

pub returns : goal.returns
unfolding octet_text
returns c = wrote_after (rw c.hex_digit-2.ensures at c.put-2.ensures) (rw c.hex_digit.ensures at c.put.ensures)
