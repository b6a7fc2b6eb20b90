use Rattle.std.proofs.Common.{arith}
use Rattle.files.specs.Bytes.{part}
use Rattle.files.proofs.Puts.{room_if, number_put, duration_put, carried_as}
use Rattle.files.proofs.write.put_carried.Goals as goal

pub put_number_if-to-requires : goal.put_number_if-to-requires
put_number_if-to-requires c = omega (arith, room_if (part c.args.m.parts 16) 9)

pub put_number_if-to-requires-2 : goal.put_number_if-to-requires-2
put_number_if-to-requires-2 c = omega (arith, room_if (part c.args.m.parts 16) 9, room_if (part c.args.m.parts 32) 9)

pub put_duration_if-requires : goal.put_duration_if-requires
put_duration_if-requires c =
    omega (arith, room_if (part c.args.m.parts 16) 9, room_if (part c.args.m.parts 32) 9, room_if (part c.args.m.parts 64) 4)

pub returns : goal.returns
returns c =
    let m = c.args.m in
    carried_as _ _ _ _ _ _ _ _ _ _ _ m.duration m.calling m.called
    (number_put (part m.parts 16) (omega arith) _ _ _ _ m.calling c.put_number_if-to.ensures.put)
    (number_put (part m.parts 32) (omega arith) _ _ _ _ m.called c.put_number_if-to-2.ensures.put)
    (duration_put (part m.parts 64) (omega arith) _ _ _ _ m.duration c.put_duration_if.ensures)
