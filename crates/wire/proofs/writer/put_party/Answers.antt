use Rattle.std.proofs.Common.{arith}
use Rattle.text.proofs.Writes.{wrote_none}
use Rattle.text.specs.Choose.{if_so}
use Rattle.wire.proofs.Pieces.{element_wrote, number_length}
use Rattle.wire.proofs.writer.put_party.Goals as goal

pub returns-then-present : goal.returns-then-present
unfolding if_so
returns-then-present c = rw c.if-present.true (element_wrote 129 (let e = number_length c.args.n in omega arith) c.open-body.ensures c.put_number.ensures c.close.ensures)

pub returns-else-present : goal.returns-else-present
unfolding if_so
returns-else-present c = rw c.if-present.false (wrote_none _)
