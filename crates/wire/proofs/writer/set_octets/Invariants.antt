use Rattle.wire.proofs.Pieces.{Octets}
use Rattle.wire.proofs.writer.set_octets.Given as goal

abbrev pub invariant-loop-left : goal.invariant-loop-left
invariant-loop-left l = Octets l.fn.out l.at l.v l.m l.out l.left l.rest
