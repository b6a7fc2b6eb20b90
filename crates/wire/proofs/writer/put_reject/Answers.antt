use Rattle.std.proofs.Common.{arith, length-append, ◌∷◌, []}
use Rattle.text.proofs.Writes.{wrote_after}
use Rattle.wire.proofs.Pieces.{element_wrote}
use Rattle.wire.proofs.Places.{rejected_most}
use Rattle.wire.specs.Texts.{rejected_text, reject_text}
use Rattle.wire.proofs.writer.put_reject.Goals as goal

pub returns : goal.returns
unfolding reject_text
returns c = element_wrote 164 (let p = rejected_most c.args.c.id in let e = length-append (rejected_text c.args.c.id) (128 ∷ 1 ∷ 0 ∷ []) in omega arith) c.open-body.ensures (wrote_after c.word.ensures c.put_rejected.ensures) c.close.ensures
