use Rattle.std.proofs.Common.{arith}
use Rattle.peers.proofs.Hosted.{event_other}
use Rattle.peers.proofs.parameters.write_event.Goals as goal

pub returns-in_default : goal.returns-in_default
returns-in_default c = let f = event_other _ _ _ c.in_default.not-Received in (f.0, f.1, omega arith)
