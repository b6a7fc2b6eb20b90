use Rattle.std.proofs.Common.{◌+◌, ◌*◌, ◌%◌, ◌^◌, refl, ◌∙◌, rules}
use Rattle.std.proofs.lemmas.Iterator.{YieldsList-from_slice}
use Rattle.std.proofs.lemmas.Iterator.Consumers.{fold_from_yields_List}
use Rattle.pieces.proofs.Words.{wraps_on}
use Rattle.pieces.proofs.value.Goals as goal

pub returns : goal.returns
returns c =
    fold_from_yields_List _ (λ n b. (n * 10 % 2 ^ 64 + b % 16) % 2 ^ 64) _ _ c.fold.ensures.ran
    (YieldsList-from_slice c.args.w.now c.iter.ensures.rest) (λ a x b q k. search rules)
    ∙ wraps_on (2 ^ 64) 0 0 c.args.w.now refl
