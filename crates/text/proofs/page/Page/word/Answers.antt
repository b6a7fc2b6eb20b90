use Rattle.std.proofs.Common.{arith, refl, sym, ◌∙◌}
use Rattle.std.proofs.lemmas.List.{take_all}
use Rattle.text.proofs.Laws.{put_cut, put_past}
use Rattle.text.proofs.Writes.{put_wrote}
use Rattle.text.proofs.page.Page.word.Goals.{then-to-self, else-to-self+then-self, else-to-self+else-self}
use Rattle.text.proofs.page.Page.word.Goals as goal

pub returns : goal.returns
returns c =
    elim c.if-to-self.branch [
      | then-to-self w ↦ rw w.self-is (put_wrote refl (omega arith) (λ h. put_cut _ _ _ _ _ _ (omega arith) (omega arith) (w.copy_from_slice.ensures.after ∙ sym (take_all _ _ (omega arith))) refl))
      | else-to-self+then-self w ↦ rw w.self-is (put_wrote refl (omega arith) (λ h. put_cut _ _ _ _ _ _ (omega arith) (omega arith) (grind arith) refl))
      | else-to-self+else-self w ↦ rw w.self-is (put_wrote refl (omega arith) (λ h. put_past _ _ _ _ (omega arith) refl))
    ]
