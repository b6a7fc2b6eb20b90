use Rattle.std.proofs.Common.{arith, refl}
use Rattle.std.proofs.lemmas.Result.{err_from_is_err_and}
use Rattle.rows.specs.declared.Event.TheVariants.{Expiry}
use Rattle.files.proofs.Puts.{sizes, sized, judged_as, whole_as}
use Rattle.files.proofs.write.write_expiry.Goals as goal

pub put_expiry-requires : goal.put_expiry-requires
put_expiry-requires c =
    let z = sized Expiry _ sizes.3 in
    let f = judged_as _ _ _ z _ _ _ c.in_ok-judge.was refl c.judge.ensures in
    omega (arith, f.1)

pub returns : goal.returns
returns c =
    let z = sized Expiry _ sizes.3 in
    whole_as _ _ _ z (judged_as _ _ _ z _ _ _ c.in_ok-judge.was refl c.judge.ensures) _ _ c.put_expiry.ensures

pub returns-in_err-judge : goal.returns-in_err-judge
returns-in_err-judge c =
    let z = sized Expiry _ sizes.3 in
    let p = err_from_is_err_and c.from_residual.result c.from_residual.ensures.1 in
    rw (p.1, p.2) (judged_as _ _ _ z _ _ _ c.in_err-judge.was refl c.judge.ensures)
