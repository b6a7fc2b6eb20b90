use Rattle.std.proofs.Common.{arith}
use Rattle.text.proofs.Numbers.{count_is}
use Rattle.text.proofs.digits.Goals as goal

pub returns-then-n-lt10-clause-count : goal.returns-then-n-lt10-clause-count
returns-then-n-lt10-clause-count c = count_is 0 _ (omega arith)

pub returns-then-n-lt100-clause-count : goal.returns-then-n-lt100-clause-count
returns-then-n-lt100-clause-count c = count_is 1 _ (omega arith)

pub returns-then-n-lt1000-clause-count : goal.returns-then-n-lt1000-clause-count
returns-then-n-lt1000-clause-count c = count_is 2 _ (omega arith)

pub returns-then-n-lt10000-clause-count : goal.returns-then-n-lt10000-clause-count
returns-then-n-lt10000-clause-count c = count_is 3 _ (omega arith)

pub returns-then-n-lt100000-clause-count : goal.returns-then-n-lt100000-clause-count
returns-then-n-lt100000-clause-count c = count_is 4 _ (omega arith)

pub returns-then-n-lt1000000-clause-count : goal.returns-then-n-lt1000000-clause-count
returns-then-n-lt1000000-clause-count c = count_is 5 _ (omega arith)

pub returns-then-n-lt10000000-clause-count : goal.returns-then-n-lt10000000-clause-count
returns-then-n-lt10000000-clause-count c = count_is 6 _ (omega arith)

pub returns-then-n-lt100000000-clause-count : goal.returns-then-n-lt100000000-clause-count
returns-then-n-lt100000000-clause-count c = count_is 7 _ (omega arith)

pub returns-then-n-lt1000000000-clause-count : goal.returns-then-n-lt1000000000-clause-count
returns-then-n-lt1000000000-clause-count c = count_is 8 _ (omega arith)

pub returns-else-n-lt1000000000-clause-count : goal.returns-else-n-lt1000000000-clause-count
returns-else-n-lt1000000000-clause-count c = count_is 9 _ (omega arith)
