use Rattle.std.proofs.Common.{ℕ, refl, arith}
use Rattle.text.proofs.Cases.{yes_so}
use Rattle.text.proofs.Laws.{put_none}
use Rattle.files.proofs.Texts.{put_so, put_not}
use Rattle.files.proofs.write.put_duration_if.Goals as goal

pub returns-then-present : goal.returns-then-present
returns-then-present c = put_so _ _ _ _ _ _ _ c.if-present.true (rw c.from.ensures at c.put_4.ensures.put)

pub returns-else-present : goal.returns-else-present
returns-else-present c = put_not _ _ _ _ _ _ _ c.if-present.false (put_none _ _)

pub put_4-requires : goal.put_4-requires
put_4-requires c = omega (arith, yes_so {A = ℕ} c.args.present 4 4 0 c.if-present.true refl)
