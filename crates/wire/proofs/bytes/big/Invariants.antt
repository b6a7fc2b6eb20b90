-- After j turns the first j bytes are in the number.
-- Assumes nothing.
use Rattle.std.proofs.Common.{◌≡◌, ◌-◌, ◌≤◌}
use Rattle.wire.specs.Bytes.{big_at, capped}
use Rattle.wire.proofs.bytes.big.Given as goal

abbrev pub invariant-loop-j : goal.invariant-loop-j
invariant-loop-j l = (l.j ≤ l.k) × (l.len ≡ capped (big_at l.s l.i l.j))

abbrev pub decreases-loop-j : goal.decreases-loop-j
decreases-loop-j l = l.k - l.j
