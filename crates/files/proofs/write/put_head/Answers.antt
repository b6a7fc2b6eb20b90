use borrow.Author.Rules.{rules}
use Rattle.std.proofs.Common.{rules}
use Rattle.files.proofs.Puts.{head_as}
use Rattle.files.proofs.write.put_head.Goals as goal

pub returns-clause-put : goal.returns-clause-put
returns-clause-put c = let p = rw c.from.ensures at c.put_2-to.ensures.put in let q = rw c.from-2.ensures at c.put_2.ensures.put in search (head_as, rules)
