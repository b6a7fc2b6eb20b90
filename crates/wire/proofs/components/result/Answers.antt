use Rattle.wire.specs.Grammar.{result_of}
use Rattle.wire.proofs.components.result.Goals as goal

pub returns : goal.returns
unfolding result_of
returns c = simp (c.answer.ensures, c.made.ensures, c.from.ensures, c.byte.ensures, c.closed-ended.ensures, c.closed.ensures, c.parts-said.ensures, c.inside-2.ensures, c.byte_past-item.ensures, c.need-sequence.ensures, c.code-operation.ensures, c.inside.ensures, c.need-held.ensures, c.need-id.ensures, c.absent.ensures)
