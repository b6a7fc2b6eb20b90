-- The measure is the bytes up to the end.
use Rattle.std.proofs.Common.{◌-◌, length}
use Rattle.peers.proofs.entries.+keep.Given as goal

abbrev pub decreases-keep : goal.decreases-keep
decreases-keep l = length l.s.now - l.at
