use borrow.Author.Rules.{rules}
use Rattle.std.proofs.Common.{rules}
use Rattle.files.proofs.Puts.{number_as}
use Rattle.files.proofs.write.put_number.Goals as goal

pub returns-clause-put : goal.returns-clause-put
returns-clause-put c = search (number_as, rules)
