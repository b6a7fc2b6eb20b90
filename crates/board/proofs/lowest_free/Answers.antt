use Rattle.std.proofs.Common.{ℕ, ap, ◌∙◌}
use Rattle.std.specs.Prelude.{Option}
use Rattle.board.specs.Row.{free_number}
use Rattle.board.proofs.Slots.{asked, number_asked_lem}
use Rattle.board.proofs.lowest_free.Goals as goal

pub returns : goal.returns
returns c =
    let e = c.first_free.ensures ∙ asked c.args.row.now in
    (e, ap (λ (x : Option ℕ). free_number x) e ∙ number_asked_lem c.args.row.now)
