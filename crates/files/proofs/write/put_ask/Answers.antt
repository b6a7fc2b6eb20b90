use borrow.Author.Rules.{rules}
use Rattle.std.proofs.Common.{rules}
use Rattle.files.proofs.Puts.{ask_as}
use Rattle.files.proofs.write.put_ask.Goals as goal

pub returns : goal.returns
returns c = search (ask_as, rules)
