use Rattle.std.proofs.Common.{arith}
use Rattle.wire.proofs.Contents.{value_fits, pairs_none, pairs_on, pairs_done, pairs_bad}
use Rattle.wire.proofs.values.pairs.Goals as goal

pub loop-j-init : goal.loop-j-init
loop-j-init c = (omega arith, pairs_none _ _)

pub paired-requires : goal.paired-requires
paired-requires c = search value_fits

pub returns-in_err-v : goal.returns-in_err-v
returns-in_err-v c = rw c.from_residual.ensures (search (pairs_bad, c.in_err-v.was))

pub loop-j-preserved : goal.loop-j-preserved
loop-j-preserved c = (omega arith, search (pairs_on, c.in_ok-v.was))

pub returns : goal.returns
returns c = pairs_done _ _ _ _ _ (omega arith) c.loop-j.invariant.1
