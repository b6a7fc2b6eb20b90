use Rattle.std.proofs.Common.{ap, ℕ}
use Rattle.files.specs.Messages.{number_text}
use Rattle.text.specs.Text.{last_digits}
use Rattle.text.proofs.Writes.{wrote_after, wrote_as}
use Rattle.files.proofs.messages.put_number.Goals as goal

pub returns : goal.returns
unfolding number_text
returns c = wrote_after (wrote_as (ap (λ (k : ℕ). last_digits k c.args.n.value) c.from.ensures) c.digits.ensures) c.put_sign.ensures
