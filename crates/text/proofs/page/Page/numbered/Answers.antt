use Rattle.text.specs.Text.{numbered}
use Rattle.text.proofs.Writes.{writes}
use Rattle.text.proofs.page.Page.numbered.Goals as goal

pub returns : goal.returns
unfolding numbered
returns c = search writes
