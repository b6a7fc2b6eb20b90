use Rattle.std.proofs.Common.{arith}
use Rattle.wire.proofs.Pieces.{element_wrote}
use Rattle.wire.proofs.Places.{parts_most}
use Rattle.wire.specs.Texts.{seq_text}
use Rattle.wire.proofs.writer.put_seq.Goals as goal

pub returns : goal.returns
unfolding seq_text
returns c = element_wrote 48 (let p = parts_most c.args.c in omega arith) c.open-body.ensures c.put_parts.ensures c.close.ensures
