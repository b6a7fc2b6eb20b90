use Rattle.wire.proofs.Walks.{told_bad, told_good}
use Rattle.std.proofs.lemmas.Result.{err_from_is_err_and}
use borrow.Author.Rules.{rules}
use Rattle.wire.proofs.parameters.read_parameter.Goals as goal

pub returns-in_err-framed : goal.returns-in_err-framed
returns-in_err-framed c = let p = err_from_is_err_and c.from_residual.result c.from_residual.ensures.1 in rw (p.1, p.2) (search (told_bad, c.in_err-framed.was, c.framed.ensures.0))

pub returns : goal.returns
returns c = search (told_good, c.in_ok-framed.was, rules)
