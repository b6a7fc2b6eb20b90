-- After i turns the first i octets are put.
-- Assumes nothing.
use Rattle.wireline.proofs.Octets.{Writing}
use Rattle.wireline.proofs.hex.put_hex.Given as goal

abbrev pub invariant-loop-i : goal.invariant-loop-i
invariant-loop-i l = Writing l.s l.fn.page l.page l.i
