use Rattle.std.proofs.Common.{ℕ, refl, arith}
use Rattle.text.proofs.Cases.{yes_so, no_so}
use Rattle.text.proofs.Laws.{put_none}
use Rattle.files.proofs.Texts.{put_so, put_not}
use Rattle.files.proofs.write.put_number_if.Goals as goal

pub returns-then-present-clause-put : goal.returns-then-present-clause-put
returns-then-present-clause-put c = put_so _ _ _ _ _ _ _ c.if-present.true c.put_number.ensures.put

pub returns-else-present-clause-put : goal.returns-else-present-clause-put
returns-else-present-clause-put c = put_not _ _ _ _ _ _ _ c.if-present.false (put_none _ _)

pub put_number-requires : goal.put_number-requires
put_number-requires c = omega (arith, yes_so {A = ℕ} c.args.present 9 9 0 c.if-present.true refl)

pub returns-then-present-clause-value : goal.returns-then-present-clause-value
returns-then-present-clause-value c = omega (arith, yes_so {A = ℕ} c.args.present 9 9 0 c.if-present.true refl)

pub returns-else-present-clause-value : goal.returns-else-present-clause-value
returns-else-present-clause-value c = omega (arith, no_so {A = ℕ} c.args.present 0 9 0 c.if-present.false refl)
