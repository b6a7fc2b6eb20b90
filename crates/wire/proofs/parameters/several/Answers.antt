use Rattle.wire.proofs.Walks.{going_done, going_refused, going_on, going_less}
use Rattle.std.proofs.lemmas.Result.{err_from_is_err_and}
use borrow.Author.Rules.{rules}
use Rattle.wire.proofs.parameters.several.Goals as goal

pub returns-in_err-place : goal.returns-in_err-place
returns-in_err-place c = let p = err_from_is_err_and c.from_residual.result c.from_residual.ensures.1 in rw (p.1, p.2) (search (going_refused, c.in_err-place.was))

pub loop-place-smaller : goal.loop-place-smaller
loop-place-smaller c = search (going_less, c.in_ok-place.was)

pub loop-place-preserved : goal.loop-place-preserved
loop-place-preserved c = search (going_on, c.in_ok-place.was)

pub returns : goal.returns
returns c = search (going_done, rules)
