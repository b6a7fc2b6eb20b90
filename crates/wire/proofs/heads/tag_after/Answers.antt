use Rattle.wire.proofs.Lengths.{tagging_start, tagging_done, tagging_last, tagging_on}
use Rattle.wire.proofs.heads.tag_after.Goals as goal

pub loop-j-init : goal.loop-j-init
loop-j-init c = tagging_start _ _ _

pub returns-then-byte-lt128 : goal.returns-then-byte-lt128
returns-then-byte-lt128 c = search tagging_last

pub loop-j-preserved : goal.loop-j-preserved
loop-j-preserved c = search tagging_on

pub returns : goal.returns
returns c = search tagging_done
