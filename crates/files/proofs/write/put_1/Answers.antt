use borrow.Author.Rules.{rules}
use Rattle.std.proofs.Common.{arith, rules}
use Rattle.files.proofs.Puts.{store_one}
use Rattle.files.proofs.write.put_1.Goals as goal

pub returns-clause-put : goal.returns-clause-put
returns-clause-put c = search (arith, store_one, rules)
