use Rattle.std.proofs.Common.{arith, refl}
use Rattle.text.proofs.Laws.{put_in, put_past}
use Rattle.wire.proofs.Pieces.{octets_on, octets_done}
use Rattle.wire.proofs.writer.set_octets.Goals.{then-at-left, else-at-left}
use Rattle.wire.proofs.writer.set_octets.Goals as goal

pub loop-left-preserved : goal.loop-left-preserved
loop-left-preserved c =
    elim c.if-at-left.branch [
      | then-at-left w ↦ rw w.out-is (octets_on c.loop-left.invariant (omega arith) w.pair_byte.ensures (put_in _ _ _ _ refl))
      | else-at-left w ↦ rw w.out-is (octets_on c.loop-left.invariant (omega arith) refl (put_past _ _ _ _ (omega arith) refl))
    ]

pub returns : goal.returns
returns c = octets_done c.loop-left.invariant (omega arith)
