use Rattle.std.proofs.Common.{rules, refl, arith}
use Rattle.files.proofs.Turns.{frame_on, frame_falls}
use Rattle.files.proofs.places.RecordsIterator.next.Goals as goal

pub returns-clause-steps : goal.returns-clause-steps
returns-clause-steps c =
    let within : _ = c.if-self-at.false in
    (omega arith, refl, c.frame-f.ensures, refl, frame_on _ _ _ _ (omega arith) c.frame-f.ensures c.after_frame-self.ensures)

pub returns-clause-goes : goal.returns-clause-goes
returns-clause-goes c =
    let falls = frame_falls _ _ _ _ (omega arith) c.frame-f.ensures c.after_frame-self.ensures in
    search rules
