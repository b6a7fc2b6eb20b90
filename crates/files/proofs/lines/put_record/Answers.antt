use Rattle.std.proofs.Common.{arith}
use Rattle.files.specs.Lines.{record_text}
use Rattle.text.specs.Page.{Wrote}
use Rattle.text.proofs.Writes.{writes}
use Rattle.files.proofs.Longest.{record_most, wrote_most}
use Rattle.files.proofs.lines.put_record.Goals as goal

pub returns-then-o-eq-APPLIED : goal.returns-then-o-eq-APPLIED
unfolding record_text
returns-then-o-eq-APPLIED c =
    let a = c.args in
    let w : Wrote (record_text a.ordinal a.slots a.slot a.o) a.page.now c.put_actions.new.page = search writes in
    record { put = w; upper_bound = wrote_most _ w (record_most a.ordinal a.slots a.slot a.o (omega arith) (omega arith)) }

pub returns-else-o-eq-APPLIED : goal.returns-else-o-eq-APPLIED
unfolding record_text
returns-else-o-eq-APPLIED c =
    let a = c.args in
    let w : Wrote (record_text a.ordinal a.slots a.slot a.o) a.page.now c.put_line.new.page = search writes in
    record { put = w; upper_bound = wrote_most _ w (record_most a.ordinal a.slots a.slot a.o (omega arith) (omega arith)) }
