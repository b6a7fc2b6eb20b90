use borrow.Author.Rules.{rules}
use Rattle.std.proofs.Common.{rules}
use Rattle.files.proofs.Puts.{expiry_as}
use Rattle.files.proofs.write.put_expiry.Goals as goal

pub returns : goal.returns
returns c = search (expiry_as, rules)
