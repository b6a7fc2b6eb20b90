use Rattle.wire.proofs.Lengths.{length_long}
use borrow.Author.Rules.{rules}
use Rattle.wire.proofs.heads.measured.Goals as goal

pub returns-else-end-after : goal.returns-else-end-after
returns-else-end-after c = search (length_long, rules)
