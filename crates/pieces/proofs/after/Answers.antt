use Rattle.std.proofs.Common.{◌==◌, ℕ, List, not, drop, refl, ◌∙◌, rules, tests}
use Rattle.std.specs.Str.{bytes_eq}
use Rattle.std.proofs.lemmas.Iterator.Adapters.{YieldsList-from_skip, YieldsList-from_skip_while}
use Rattle.std.proofs.lemmas.Iterator.Consumers.{nth_from_yields_List}
use Rattle.std.proofs.lemmas.Iterator.Splits.{YieldsList-from_slice_split}
use Rattle.std.specs.List.{prefix_len}
use Rattle.pieces.specs.Pieces.{words}
use Rattle.pieces.proofs.Words.{kth, follows}
use Rattle.pieces.proofs.after.Goals as goal

pub returns : goal.returns
returns c =
    let ws = drop c.args.from (words c.args.line.now) in
    let test = λ (w : List ℕ). not (bytes_eq w c.args.name.now) in
    kth _ _ _ (drop (prefix_len test ws) ws) 1 c.unwrap_or.ensures refl
    (nth_from_yields_List _ _ _ c.nth.ensures.ran
    (YieldsList-from_skip_while _ (λ w. w.now) _ test _ (λ x r q k. search (rules, tests))
    (YieldsList-from_skip _
    (YieldsList-from_slice_split _ (λ b. b == 32) c.args.line.now (cc) (cc) refl (λ x r q k. search (rules, tests)))
    (cc))
    c.skip_while.ensures.closure c.skip_while.ensures.done_skipping))
    ∙ follows c.args.name.now ws
