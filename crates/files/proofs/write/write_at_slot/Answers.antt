use Rattle.std.proofs.Common.{arith}
use Rattle.std.proofs.lemmas.Result.{err_from_is_err_and}
use Rattle.files.proofs.Puts.{room_left, headless_as, told}
use Rattle.files.proofs.write.write_at_slot.Goals as goal

pub returns-then-out-lt6 : goal.returns-then-out-lt6
returns-then-out-lt6 c = headless_as _ _ _ _ _ c.if-out-lt6.true c.write_event.ensures

pub put_slot_head-requires : goal.put_slot_head-requires
put_slot_head-requires c =
    let i = told c.args.slot c.args.e c.args.out.now c.if-out-lt6.false _ _ _ c.in_ok-n.was c.write_event-2.ensures in
    (room_left c.args.out.now c.write_event-2.new.out c.if-out-lt6.false, i.0)

pub overflow_add-result : goal.overflow_add-result
overflow_add-result c =
    let i = told c.args.slot c.args.e c.args.out.now c.if-out-lt6.false _ _ _ c.in_ok-n.was c.write_event-2.ensures in
    omega (arith, i.0)

pub returns : goal.returns
returns c =
    let i = told c.args.slot c.args.e c.args.out.now c.if-out-lt6.false _ _ _ c.in_ok-n.was c.write_event-2.ensures in
    (i.1, i.2 _ _ c.put_slot_head.ensures.put)

pub returns-in_err-n : goal.returns-in_err-n
returns-in_err-n c =
    let p = err_from_is_err_and c.from_residual.result c.from_residual.ensures.1 in
    rw (p.1, p.2) (told c.args.slot c.args.e c.args.out.now c.if-out-lt6.false _ _ _ c.in_err-n.was c.write_event-2.ensures)
