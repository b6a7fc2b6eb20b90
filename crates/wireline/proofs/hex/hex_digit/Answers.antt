use Rattle.std.proofs.Common.{arith}
use Rattle.wireline.specs.Hex.{hex_digit}
use Rattle.text.proofs.Cases.{cases, no_lt}
use Rattle.wireline.proofs.hex.hex_digit.Goals as goal

pub returns-then-x-lt10 : goal.returns-then-x-lt10
unfolding hex_digit
returns-then-x-lt10 c = search cases depth 20

pub returns-else-x-lt10 : goal.returns-else-x-lt10
unfolding hex_digit
returns-else-x-lt10 c = no_lt _ _ _ _ _ c.if-x-lt10.false (omega arith)
