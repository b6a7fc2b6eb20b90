use Rattle.std.proofs.Common.{arith, rules}
use Rattle.text.proofs.Cases.{cases}
use Rattle.files.specs.Fit.{answers, leaves}
use Rattle.files.proofs.Fits.{full_as, fit_as, measured}
use Rattle.files.proofs.dump.rev_dump.Goals as goal

pub returns-then-file-gt-LONGEST : goal.returns-then-file-gt-LONGEST
unfolding answers leaves
returns-then-file-gt-LONGEST c = search cases

pub returns-then-out-n : goal.returns-then-out-n
returns-then-out-n c = full_as _ _ _ _ (omega arith) (measured c.new-nothing.ensures.at c.write.ensures) _ (omega arith) (omega arith)

pub returns : goal.returns
returns c =
    fit_as _ _ _ _ (omega arith) (measured c.new-nothing.ensures.at c.write.ensures) _ _ _ _ (omega arith) (omega arith) (omega arith)
    c.new-page.ensures.at c.new-page.ensures.bytes c.write-2.ensures (search rules)
