use borrow.Author.Rules.{rules}
use Rattle.std.proofs.Common.{rules}
use Rattle.files.proofs.Puts.{front_as}
use Rattle.files.proofs.write.put_front.Goals as goal

pub returns-clause-put : goal.returns-clause-put
returns-clause-put c = search (front_as, rules)
