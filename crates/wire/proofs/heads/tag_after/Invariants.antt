use Rattle.std.proofs.Common.{◌-◌}
use Rattle.wire.proofs.Lengths.{Tagging}
use Rattle.wire.proofs.heads.tag_after.Given as goal

abbrev pub invariant-loop-j : goal.invariant-loop-j
invariant-loop-j l = Tagging l.s l.i l.end l.j

abbrev pub decreases-loop-j : goal.decreases-loop-j
decreases-loop-j l = l.end - l.j
