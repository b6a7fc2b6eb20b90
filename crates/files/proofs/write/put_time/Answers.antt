use borrow.Author.Rules.{rules}
use Rattle.std.proofs.Common.{rules}
use Rattle.files.proofs.Puts.{time_as}
use Rattle.files.proofs.write.put_time.Goals as goal

pub returns : goal.returns
returns c = let q = rw c.from.ensures at c.put_4.ensures.put in search (time_as, rules)
