use Rattle.wire.proofs.Quickly.{usual_invoke}
use borrow.Author.Rules.{rules}
use Rattle.wire.proofs.quick.invoke.Goals as goal

pub returns : goal.returns
returns c = search (usual_invoke, c.in_ok-said.was, rules)
