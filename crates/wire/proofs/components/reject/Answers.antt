use borrow.Author.Rules.{rules}
use Rattle.wire.specs.Grammar.{reject_of}
use Rattle.wire.proofs.components.reject.Goals as goal

pub returns : goal.returns
unfolding reject_of
returns c = search (rules)
