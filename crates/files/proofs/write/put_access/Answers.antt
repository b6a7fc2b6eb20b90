use borrow.Author.Rules.{rules}
use Rattle.std.proofs.Common.{rules}
use Rattle.files.proofs.Puts.{access_as}
use Rattle.files.proofs.write.put_access.Goals as goal

pub returns : goal.returns
returns c = search (access_as, rules)
