use Rattle.std.proofs.Common.{ap, ℕ}
use Rattle.text.specs.Choose.{if_eq}
use Rattle.text.specs.Text.{last_digits}
use Rattle.wire.specs.Texts.{text_if}
use Rattle.wireline.specs.Lines.{digits_text}
use Rattle.text.proofs.Writes.{wrote_after, wrote_as}
use Rattle.wireline.proofs.lines.put_digits.Goals as goal

pub returns : goal.returns
unfolding digits_text text_if if_eq
returns c = wrote_after (wrote_as (ap (λ (k : ℕ). last_digits k c.args.n.value) c.from.ensures) c.digits.ensures) c.put_if.ensures
