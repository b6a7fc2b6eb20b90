use Rattle.std.proofs.Common.{sym, refl, ◌∙◌}
use Rattle.files.proofs.Fits.{measured}
use Rattle.files.proofs.Turns.{listed_as}
use Rattle.files.proofs.listing.measure.Goals as goal
use Rattle.files.proofs.listing.measure.Goals.{then-slots, else-slots}

pub returns : goal.returns
returns c =
    elim c.if-slots.branch [
      | then-slots w ↦ rw w.page-is (measured refl (listed_as _ _ _ _ (sym w.if-slots.true ∙ c.write-slots.ensures.value) w.write.ensures.put), c.write-slots.ensures.value)
      | else-slots w ↦ rw w.page-is (measured c.new-page.ensures.at (listed_as _ _ _ _ (sym w.if-slots.false ∙ c.write-slots.ensures.value) c.write-slots.ensures.put), c.write-slots.ensures.value)
    ]
