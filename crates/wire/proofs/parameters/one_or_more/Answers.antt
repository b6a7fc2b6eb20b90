use Rattle.wire.proofs.Walks.{one_alone, one_more}
use borrow.Author.Rules.{rules}
use Rattle.wire.proofs.parameters.one_or_more.Goals as goal

pub returns-then-s-next : goal.returns-then-s-next
returns-then-s-next c = search (one_alone, one_more, rules)

pub returns-else-s-next : goal.returns-else-s-next
returns-else-s-next c = search (one_alone, one_more, rules)
