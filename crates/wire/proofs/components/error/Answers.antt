use borrow.Author.Rules.{rules}
use Rattle.wire.specs.Grammar.{error_of}
use Rattle.wire.proofs.components.error.Goals as goal

pub returns : goal.returns
unfolding error_of
returns c = search (rules)
