use Rattle.wireline.proofs.Octets.{writing_on, writing_done, writing_none}
use Rattle.wireline.proofs.hex.put_hex.Goals as goal

pub loop-i-init : goal.loop-i-init
loop-i-init c = writing_none _ _

pub loop-i-preserved : goal.loop-i-preserved
loop-i-preserved c = search (writing_on)

pub returns : goal.returns
returns c = search (writing_done)
