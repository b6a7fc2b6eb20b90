use Rattle.std.proofs.Common.{arith, refl, ap, length, ◌≡◌}
use Rattle.text.proofs.Laws.{put_past}
use Rattle.text.specs.declared.page.Page.{Page}
use Rattle.text.proofs.Writes.{put_wrote}
use Rattle.wire.proofs.Pieces.{octets_length}
use Rattle.wire.specs.Texts.{octets_of}
use Rattle.wire.proofs.writer.put_octets.Goals.{then-page, else-page}
use Rattle.wire.proofs.writer.put_octets.Goals as goal

pub returns : goal.returns
returns c =
    let e : length (octets_of c.args.m c.args.v) ≡ c.args.m = octets_length c.args.m c.args.v in
    elim c.if-page.branch [
      | then-page w ↦ rw w.page-is (put_wrote refl (omega (arith, ap (λ (p : Page). p.at) w.page-is)) (λ h. record { bytes = w.set_octets.ensures.bytes; place = refl }))
      | else-page w ↦ rw w.page-is (put_wrote refl (omega (arith, ap (λ (p : Page). p.at) w.page-is)) (λ h. put_past _ _ _ _ (omega arith) refl))
    ]
