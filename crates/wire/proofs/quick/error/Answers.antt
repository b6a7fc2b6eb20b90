use Rattle.wire.proofs.Quickly.{usual_error}
use borrow.Author.Rules.{rules}
use Rattle.wire.proofs.quick.error.Goals as goal

pub returns : goal.returns
returns c = search (usual_error, rules)
