use Rattle.wireline.specs.Answers.{refused_text}
use Rattle.text.proofs.Writes.{wrote_after}
use Rattle.wireline.proofs.answers.put_refused.Goals as goal

pub returns : goal.returns
unfolding refused_text
returns c = wrote_after c.put-2.ensures (wrote_after c.value.ensures (wrote_after c.put.ensures (rw c.from.ensures at c.numbered.ensures)))
