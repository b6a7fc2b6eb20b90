use Rattle.wire.proofs.Quickly.{usual_result}
use borrow.Author.Rules.{rules}
use Rattle.wire.proofs.quick.result.Goals as goal

pub returns : goal.returns
returns c = search (usual_result, c.in_ok-said.was, rules)
