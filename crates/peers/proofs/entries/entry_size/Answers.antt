use Rattle.std.proofs.Common.{ℕ, arith}
use Rattle.peers.specs.Messages.{heard_of}
use Rattle.peers.proofs.Entered.{entry_sized, entry_most}
use Rattle.peers.proofs.entries.entry_size.Goals as goal

pub overflow_add-result : goal.overflow_add-result
overflow_add-result c = let l = entry_most _ _ c.message_size.ensures in omega arith

pub returns : goal.returns
unfolding heard_of
returns c = (
  λ (message cause : ℕ). entry_sized (heard_of message cause c.args.c.now) _ c.message_size.ensures,
  entry_most _ _ c.message_size.ensures,
)
