use borrow.Author.Rules.{rules}
use Rattle.std.proofs.Common.{arith, rules}
use Rattle.files.proofs.Puts.{message_length, message_as}
use Rattle.files.proofs.write.put_message.Goals as goal

pub put_head-to-requires : goal.put_head-to-requires
put_head-to-requires c = search (message_as, arith, message_length, rules)

pub put_front-to-requires : goal.put_front-to-requires
put_front-to-requires c = search (message_as, arith, message_length, rules)

pub put_carried-requires : goal.put_carried-requires
put_carried-requires c = search (message_as, arith, message_length, rules)

pub returns : goal.returns
returns c = let e = rw c.from.ensures at c.length_of-len.ensures in search (message_as, arith, rules)
