-- The loop keeps what `Listed` says of the place where the iterator stands.
use Rattle.std.proofs.Common.{◌≡◌}
use Rattle.files.proofs.Turns.{Listed}
use Rattle.files.proofs.listing.write.Given as goal

abbrev pub invariant-loop-at : goal.invariant-loop-at
invariant-loop-at l = (l.at-iterator.file.now ≡ l.file) × Listed l.file l.slots l.initial.page l.page l.at-iterator.at l.count l.named l.row l.held l.call
