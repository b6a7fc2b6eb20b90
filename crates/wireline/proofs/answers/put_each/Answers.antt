use Rattle.wireline.proofs.Told.{telling_none, telling_done, telling_refused, telling_less, telling_on}
use Rattle.wireline.proofs.answers.put_each.Goals as goal

pub loop-place-init : goal.loop-place-init
loop-place-init c = search (telling_none)

pub returns-in_default : goal.returns-in_default
returns-in_default c = search (telling_refused)

pub loop-place-smaller : goal.loop-place-smaller
loop-place-smaller c = search (telling_less)

pub loop-place-preserved : goal.loop-place-preserved
loop-place-preserved c = search (telling_on)

pub returns : goal.returns
returns c = search (telling_done)
