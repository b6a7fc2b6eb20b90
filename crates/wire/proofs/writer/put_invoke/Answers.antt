use Rattle.std.proofs.Common.{arith}
use Rattle.text.proofs.Writes.{wrote_after}
use Rattle.wire.proofs.Pieces.{element_wrote}
use Rattle.wire.proofs.Places.{parts_most}
use Rattle.wire.specs.Texts.{invoke_text, id_text, code_text, seq_text, element_text}
use Rattle.wire.proofs.writer.put_invoke.Goals as goal

pub returns : goal.returns
unfolding invoke_text id_text code_text seq_text element_text
returns c = element_wrote 161 (let p = parts_most c.args.c in omega arith) c.open-body.ensures (wrote_after c.put_seq.ensures (wrote_after c.put_code.ensures c.put_id.ensures)) c.close.ensures
