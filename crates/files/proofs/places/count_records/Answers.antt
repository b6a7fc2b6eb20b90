use Rattle.std.proofs.Common.{ap, ℕ, List}
use Rattle.std.specs.Borrow.{Bor}
use Rattle.files.proofs.Turns.{drained_count}
use Rattle.files.proofs.places.count_records.Goals as goal

pub returns : goal.returns
returns c =
    let (xs, drains, n) = c.count.ensures.ran in
    drained_count _ xs _ _ (ap (λ (r : Bor (List ℕ)). r.now) c.of.ensures.0) c.of.ensures.1 drains n
