use Rattle.std.proofs.Common.{arith}
use Rattle.peers.specs.Messages.{heard_of}
use Rattle.peers.proofs.Entered.{entry_room, entry_as}
use Rattle.peers.proofs.entries.put_entry.Goals as goal

pub put_message-n-requires : goal.put_message-n-requires
put_message-n-requires c =
    rw c.heard.ensures (entry_room _ _ c.args.at _ _ (heard_of c.args.message c.args.cause c.args.c.now) (omega arith) c.put_2-to.ensures.put c.put_2-to.ensures.value)

pub returns : goal.returns
returns c =
    entry_as _ _ _ _ _ _ _ _ (rw c.from.ensures at c.put_2-to.ensures.put) (omega arith) (rw c.heard.ensures at c.put_message-n.ensures)
