use Rattle.std.proofs.Common.{arith}
use Rattle.peers.proofs.Hosted.{message_good, message_bad}
use Rattle.peers.proofs.parameters.write_message.Goals as goal

pub returns-in-None : goal.returns-in-None
returns-in-None c =
    let g = c.write_component.ensures in
    let f = message_good _ _ _ _ c.carried-c.ensures _ _ c.in-None.ensures (g.0, g.1) in
    (f.0, f.1, g.2)

pub returns-in-Some : goal.returns-in-Some
returns-in-Some c =
    let f = message_bad _ _ _ _ c.carried-c.ensures _ _ _ c.in-Some.ensures c.bad_field.ensures c.nearest.ensures.first in
    (f.0, f.1, omega arith)
