use Rattle.std.proofs.Common.{arith, refl, ap, length, ◌≡◌}
use Rattle.text.proofs.Laws.{put_past}
use Rattle.text.proofs.Ends.{digits_length}
use Rattle.text.specs.Text.{last_digits}
use Rattle.text.specs.declared.page.Page.{Page}
use Rattle.text.proofs.Writes.{put_wrote}
use Rattle.text.proofs.page.Page.digits.Goals.{then-self, else-self}
use Rattle.text.proofs.page.Page.digits.Goals as goal

pub returns : goal.returns
returns c =
    let e : length (last_digits c.args.k c.args.n) ≡ c.args.k = digits_length c.args.k c.args.n in
    elim c.if-self.branch [
      | then-self w ↦ rw w.self-is (put_wrote refl (omega (arith, ap (λ (p : Page). p.at) w.self-is)) (λ h. record { bytes = w.put_digits.ensures.put.bytes; place = refl }))
      | else-self w ↦ rw w.self-is (put_wrote refl (omega (arith, ap (λ (p : Page). p.at) w.self-is)) (λ h. put_past _ _ _ _ (omega arith) refl))
    ]
