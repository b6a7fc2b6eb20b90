use Rattle.text.proofs.Writes.{wrote_as, all_digits, one_digit}
use Rattle.text.proofs.page.Page.decimal.Goals as goal

pub returns-then-n-lt10 : goal.returns-then-n-lt10
returns-then-n-lt10 c = wrote_as (one_digit _ _ c.digit.ensures c.if-n-lt10.true) c.put.ensures

pub returns-else-n-lt10 : goal.returns-else-n-lt10
returns-else-n-lt10 c = wrote_as (all_digits _ _ c.digits.ensures.count) c.digits-else-n-lt10.ensures
