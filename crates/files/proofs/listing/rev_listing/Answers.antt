use Rattle.std.proofs.Common.{arith, rules}
use Rattle.text.proofs.Cases.{cases}
use Rattle.files.specs.Fit.{answers, leaves}
use Rattle.files.proofs.Fits.{full_as, fit_as}
use Rattle.files.proofs.Turns.{listed_as}
use Rattle.files.proofs.listing.rev_listing.Goals as goal

pub returns-then-file-gt-LONGEST : goal.returns-then-file-gt-LONGEST
unfolding answers leaves
returns-then-file-gt-LONGEST c = search cases

pub returns-then-out-all : goal.returns-then-out-all
returns-then-out-all c =
    full_as _ _ _ _ (omega arith) c.measure-all.ensures.0 c.measure-all.new.nothing (omega arith) c.measure-all.auto.nothing

pub returns : goal.returns
returns c =
    fit_as _ _ _ _ (omega arith) c.measure-all.ensures.0 c.measure-all.new.nothing _ _ _ (omega arith) (omega arith) c.measure-all.auto.nothing
    c.new-page.ensures.at c.new-page.ensures.bytes (listed_as _ _ _ _ c.measure-all.ensures.1 c.write.ensures.put) (search rules)
