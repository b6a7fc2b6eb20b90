use Rattle.std.proofs.Common.{arith}
use Rattle.std.proofs.lemmas.Result.{err_from_is_err_and}
use Rattle.peers.proofs.Hosted.{bad_within, good_bounds, framed_bad, framed_good, none_read, walk_read}
use Rattle.peers.proofs.parameters.read.Goals as goal

pub returns-in_err-framed : goal.returns-in_err-framed
returns-in_err-framed c =
    let p = err_from_is_err_and c.from_residual.result c.from_residual.ensures.1 in
    let f = framed_bad _ _ _ _ _ c.framed.ensures.0 _ _ c.in_err-framed.was in
    rw (p.1, p.2) (f.0, f.1, bad_within _ _ c.framed.ensures.1 _ _ c.in_err-framed.was)

pub returns-then-parameter-eq3 : goal.returns-then-parameter-eq3
returns-then-parameter-eq3 c =
    let f = framed_good _ _ _ _ _ c.framed.ensures.0 _ _ c.in_ok-framed.was (none_read _ _ _ _ _ _ (omega arith) c.write_none.ensures.0) in
    (f.0, f.1, c.write_none.ensures.1)

pub returns-else-parameter-eq3 : goal.returns-else-parameter-eq3
returns-else-parameter-eq3 c =
    let b = good_bounds _ _ c.framed.ensures.1 c.in_ok-framed.was in
    let f = framed_good _ _ _ _ _ c.framed.ensures.0 _ _ c.in_ok-framed.was (walk_read _ _ _ _ _ _ (omega arith) c.keep_all.ensures.0) in
    (f.0, f.1, c.keep_all.ensures.1)
