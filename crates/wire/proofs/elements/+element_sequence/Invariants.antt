-- The measure is twice the bytes up to the end, and one more for `sequence`, which calls `element` at its own place.
-- Assumes nothing.
use Rattle.std.proofs.Common.{◌+◌, ◌-◌, ◌*◌}
use Rattle.wire.proofs.Levels.{Going}
use Rattle.wire.proofs.elements.+element_sequence.Given as goal

abbrev pub decreases-element : goal.decreases-element
decreases-element l = 2 * (l.end - l.at)

abbrev pub decreases-sequence : goal.decreases-sequence
decreases-sequence l = 2 * (l.end - l.at) + 1

abbrev pub invariant-sequence-loop-place : goal.invariant-sequence-loop-place
invariant-sequence-loop-place l = Going l.s l.at l.end l.depth l.known l.place

abbrev pub decreases-sequence-loop-place : goal.decreases-sequence-loop-place
decreases-sequence-loop-place l = l.end - l.place
