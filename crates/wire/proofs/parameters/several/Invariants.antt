use Rattle.std.proofs.Common.{◌-◌, length}
use Rattle.wire.proofs.Walks.{Going}
use Rattle.wire.proofs.parameters.several.Given as goal

abbrev pub invariant-loop-place : goal.invariant-loop-place
invariant-loop-place l = Going l.s l.at l.place l.count

abbrev pub decreases-loop-place : goal.decreases-loop-place
decreases-loop-place l = length l.s - l.place
