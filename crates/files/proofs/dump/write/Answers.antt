use Rattle.std.proofs.Common.{◌≤◌, length, ap, arith}
use Rattle.files.proofs.Turns.{dumped_begin, dumped_turn, dumped_done, records_most}
use Rattle.files.proofs.dump.write.Goals as goal

pub overflow_cast-count_records : goal.overflow_cast-count_records
overflow_cast-count_records c = omega (arith, c.count_records.ensures, records_most c.args.file.now, c.requires)

pub loop-at-init : goal.loop-at-init
loop-at-init c = dumped_begin _ _ _ _ c.of-at-items.ensures c.into_iter-at-iterator.ensures.into_iter_gives

pub loop-at-preserved : goal.loop-at-preserved
loop-at-preserved c =
    dumped_turn _ _ _ _ _ c.loop-at.at-iterator c.next.new.self c.in-Some.at c.in-Some.f _
    c.loop-at.invariant c.in-Some.ensures.steps c.read_by.ensures c.put_place.ensures.put

pub returns : goal.returns
returns c =
    let past : length c.args.file.now ≤ c.loop-at.at-iterator.at = omega (arith, ap length c.loop-at.invariant.0, c.in-None.ensures.steps.0) in
    dumped_done _ _ _ _ _ _ _ c.loop-at.invariant.1 past c.count_records.ensures c.put_numbered_line.ensures
