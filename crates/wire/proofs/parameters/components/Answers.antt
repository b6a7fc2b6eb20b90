use Rattle.wire.proofs.Walks.{none_there, first_refused, first_read}
use Rattle.std.proofs.lemmas.Result.{err_from_is_err_and}
use borrow.Author.Rules.{rules}
use Rattle.wire.proofs.parameters.components.Goals as goal

pub returns-then-s-at : goal.returns-then-s-at
returns-then-s-at c = search (none_there, rules)

pub returns-in_err-c : goal.returns-in_err-c
returns-in_err-c c = let p = err_from_is_err_and c.from_residual.result c.from_residual.ensures.1 in rw (p.1, p.2) (search (first_refused, c.in_err-c.was))

pub returns : goal.returns
returns c = search (first_read, c.in_ok-c.was, rules)
