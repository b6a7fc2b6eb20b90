-- What was read so far is put, and half is the digit that waits.
-- Assumes nothing.
use Rattle.std.proofs.Common.{◌≡◌, ◌<◌, IfSome}
use Rattle.wireline.proofs.Octets.{Reading}
use Rattle.wireline.proofs.hex.octets.Given as goal

abbrev pub invariant-loop-b : goal.invariant-loop-b
invariant-loop-b l =
    (l.page.out.ghost_name ≡ l.initial.page.out.ghost_name) × IfSome l.half (λ d. d < 16)
    × Reading l.text l.initial.page l.page l.half l.b-index
