use Rattle.wire.proofs.Usual.{usual_said, usual_cursor}
use borrow.Author.Rules.{rules}
use Rattle.wire.proofs.quick.parts.Goals as goal

pub returns-then-last_ok : goal.returns-then-last_ok
returns-then-last_ok c = search (usual_said, usual_cursor, rules)
