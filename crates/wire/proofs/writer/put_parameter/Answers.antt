use Rattle.std.proofs.Common.{arith}
use Rattle.text.proofs.Writes.{wrote_after, wrote_as}
use Rattle.wire.proofs.Pieces.{element_wrote, parameter_is}
use Rattle.wire.proofs.Places.{component_most}
use Rattle.wire.proofs.writer.put_parameter.Goals as goal

pub returns : goal.returns
returns c = wrote_as (parameter_is c.args.c) (element_wrote 50 (let p = component_most c.args.c in omega arith) c.open-body.ensures (wrote_after c.put_component.ensures c.put.ensures) c.close.ensures)
