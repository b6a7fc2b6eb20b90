use Rattle.text.specs.Choose.{if_eq}
use Rattle.wire.specs.Texts.{text_if}
use Rattle.wireline.specs.Lines.{values_text, party_text, number_text, duration_text}
use Rattle.text.proofs.Writes.{wrote_after}
use Rattle.wireline.proofs.lines.put_values.Goals as goal

pub returns : goal.returns
unfolding values_text party_text number_text duration_text text_if if_eq
returns c = search (wrote_after)
