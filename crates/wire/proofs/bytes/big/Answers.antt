use Rattle.std.proofs.Common.{arith}
use Rattle.wire.proofs.Lengths.{big_none, big_on, big_done}
use Rattle.wire.proofs.bytes.big.Goals as goal

pub loop-j-init : goal.loop-j-init
loop-j-init c = (omega arith, big_none _ _)

pub loop-j-preserved : goal.loop-j-preserved
loop-j-preserved c = (omega arith, search big_on)

pub returns : goal.returns
returns c = big_done _ _ _ _ _ (omega arith) c.loop-j.invariant.1
