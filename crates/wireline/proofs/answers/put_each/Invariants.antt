-- The components before the place are put.
-- Assumes nothing.
use Rattle.std.proofs.Common.{◌-◌, length}
use Rattle.wireline.proofs.Told.{Telling}
use Rattle.wireline.proofs.answers.put_each.Given as goal

abbrev pub invariant-loop-place : goal.invariant-loop-place
invariant-loop-place l = Telling l.s l.fn.page l.page l.place

abbrev pub decreases-loop-place : goal.decreases-loop-place
decreases-loop-place l = length l.s - l.place
