use borrow.Author.Rules.{rules}
use Rattle.std.proofs.Common.{rules}
use Rattle.files.proofs.Puts.{slot_head_as}
use Rattle.files.proofs.write.put_slot_head.Goals as goal

pub returns-clause-put : goal.returns-clause-put
returns-clause-put c = let q = rw c.from.ensures at c.put_2.ensures.put in search (slot_head_as, rules)
