use Rattle.std.proofs.Common.{◌==◌, refl, rules, tests}
use Rattle.std.specs.Str.{bytes_eq}
use Rattle.std.proofs.lemmas.Iterator.Adapters.{YieldsList-from_skip}
use Rattle.std.proofs.lemmas.Iterator.Search.{any_from_yields_List}
use Rattle.std.proofs.lemmas.Iterator.Splits.{YieldsList-from_slice_split}
use Rattle.pieces.proofs.has.Goals as goal

pub returns : goal.returns
returns c =
    any_from_yields_List (λ w. bytes_eq w c.args.name.now) _ _ c.any.result c.any.ensures.ran
    (YieldsList-from_skip _
    (YieldsList-from_slice_split _ (λ b. b == 32) c.args.line.now (cc) (cc) refl (λ x r q k. search (rules, tests)))
    (cc))
    (λ x b q k. search (rules, tests))
