use Rattle.std.proofs.Common.{◌==◌, refl, rules, tests}
use Rattle.std.proofs.lemmas.Iterator.Consumers.{nth_from_yields_List}
use Rattle.std.proofs.lemmas.Iterator.Splits.{YieldsList-from_slice_split}
use Rattle.pieces.specs.Pieces.{words}
use Rattle.pieces.proofs.Words.{kth}
use Rattle.pieces.proofs.word.Goals as goal

pub returns : goal.returns
returns c =
    kth _ _ _ (words c.args.line.now) c.args.k c.unwrap_or.ensures refl
    (nth_from_yields_List _ _ _ c.nth.ensures.ran
    (YieldsList-from_slice_split _ (λ b. b == 32) _ c.split.ensures.rest c.split.ensures.done c.split.ensures.closure (λ x r q k. search (rules, tests))))
