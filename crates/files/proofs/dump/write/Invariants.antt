-- The loop keeps what `Dumped` says of the place where the iterator stands.
use Rattle.std.proofs.Common.{◌≡◌}
use Rattle.files.proofs.Turns.{Dumped}
use Rattle.files.proofs.dump.write.Given as goal

abbrev pub invariant-loop-at : goal.invariant-loop-at
invariant-loop-at l = (l.at-iterator.file.now ≡ l.file) × Dumped l.file l.initial.page l.page l.at-iterator.at l.count
