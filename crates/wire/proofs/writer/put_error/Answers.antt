use Rattle.std.proofs.Common.{arith}
use Rattle.text.proofs.Writes.{wrote_after}
use Rattle.wire.proofs.Pieces.{element_wrote}
use Rattle.wire.specs.Texts.{error_text, id_text, code_text}
use Rattle.wire.proofs.writer.put_error.Goals as goal

pub returns : goal.returns
unfolding error_text id_text code_text
returns c = element_wrote 163 (omega arith) c.open-body.ensures (wrote_after c.put_code.ensures c.put_id.ensures) c.close.ensures
