use Rattle.wire.specs.Grammar.{invoke_of}
use Rattle.wire.proofs.components.invoke.Goals as goal

pub returns : goal.returns
unfolding invoke_of
returns c = simp (c.answer.ensures, c.made.ensures, c.from.ensures, c.byte.ensures, c.closed-ended.ensures, c.parts-said.ensures, c.inside.ensures, c.byte_past-item.ensures, c.need-sequence.ensures, c.code-operation.ensures, c.may-linked.ensures, c.need-id.ensures, c.absent.ensures)
