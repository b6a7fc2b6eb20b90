use borrow.Author.Rules.{rules}
use Rattle.std.proofs.Common.{arith, rules}
use Rattle.files.proofs.Puts.{store_two}
use Rattle.files.proofs.write.put_2.Goals as goal

pub returns-clause-put : goal.returns-clause-put
returns-clause-put c = search (arith, store_two, rules)
