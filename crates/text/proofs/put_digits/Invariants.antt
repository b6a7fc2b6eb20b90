-- The digits that are left come before those that are put.
use Rattle.text.proofs.Numbers.{Digits}
use Rattle.text.proofs.put_digits.Given as goal

abbrev pub invariant-loop-left : goal.invariant-loop-left
invariant-loop-left l = Digits l.fn.out l.at l.n l.k l.out l.left l.rest
