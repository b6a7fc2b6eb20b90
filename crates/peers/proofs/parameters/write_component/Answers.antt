use Rattle.std.proofs.lemmas.Result.{err_from_is_err_and}
use Rattle.peers.proofs.Hosted.{component_as}
use Rattle.peers.proofs.parameters.write_component.Goals as goal

pub returns-in_err-write_parameter : goal.returns-in_err-write_parameter
returns-in_err-write_parameter c =
    let p = err_from_is_err_and c.from_residual.result c.from_residual.ensures.1 in
    rw (p.1, p.2) (component_as _ _ _ _ (rw c.in_err-write_parameter.was at c.write_parameter.ensures))

pub returns : goal.returns
returns c = component_as _ _ _ _ (rw c.in_ok-write_parameter.was at c.write_parameter.ensures)
