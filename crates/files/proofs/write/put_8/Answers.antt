use borrow.Author.Rules.{rules}
use Rattle.std.proofs.Common.{rules}
use Rattle.files.proofs.Puts.{put_wide_halves}
use Rattle.files.proofs.write.put_8.Goals as goal

pub returns-clause-put : goal.returns-clause-put
returns-clause-put c = search (put_wide_halves, rules)
