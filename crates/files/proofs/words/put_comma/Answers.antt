use Rattle.std.proofs.Common.{ℕ, [], ◌∷◌, ap}
use Rattle.files.specs.Words.{comma_text}
use Rattle.text.proofs.Writes.{wrote_as, wrote_no, wrote_yes}
use Rattle.files.proofs.words.put_comma.Goals as goal
use Rattle.files.proofs.words.put_comma.Goals.{then-before-eq0, else-before-eq0}

pub returns : goal.returns
unfolding comma_text
returns c =
    elim c.if-before-eq0.branch [
      | then-before-eq0 w ↦ wrote_yes _ _ _ _ _ _ w.if-before-eq0.true (wrote_as (ap (λ (x : ℕ). x ∷ []) w.put-is) c.put.ensures)
      | else-before-eq0 w ↦ wrote_no _ _ _ _ _ _ w.if-before-eq0.false (wrote_as (ap (λ (x : ℕ). x ∷ []) w.put-is) c.put.ensures)
    ]
