use borrow.Author.Rules.{rules}
use Rattle.std.proofs.Common.{rules}
use Rattle.files.proofs.Puts.{opening_as}
use Rattle.files.proofs.write.put_opening.Goals as goal

pub returns : goal.returns
returns c = search (opening_as, rules)
