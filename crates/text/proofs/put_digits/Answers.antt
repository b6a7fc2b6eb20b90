use Rattle.std.proofs.Common.{arith}
use Rattle.text.proofs.Numbers.{digits_on, digits_done}
use Rattle.text.proofs.put_digits.Goals as goal

pub loop-left-preserved : goal.loop-left-preserved
loop-left-preserved c = digits_on c.loop-left.invariant (omega arith) c.digit.ensures c.put.ensures

pub returns-clause-put : goal.returns-clause-put
returns-clause-put c = digits_done c.loop-left.invariant (omega arith)
