use Rattle.wire.proofs.Quickly.{short_near, short_fits, opening_here}
use borrow.Author.Rules.{rules}
use Rattle.wire.proofs.quick.opening.Goals as goal

pub overflow_add-result : goal.overflow_add-result
overflow_add-result c = search (short_near, short_fits, opening_here, rules)

pub overflow_add-result-then-size-lt128 : goal.overflow_add-result-then-size-lt128
overflow_add-result-then-size-lt128 c = search (short_near, short_fits, opening_here, rules)

pub overflow_add-result-then-size-lt128-2 : goal.overflow_add-result-then-size-lt128-2
overflow_add-result-then-size-lt128-2 c = search (short_near, short_fits, opening_here, rules)

pub returns-then-size-lt128 : goal.returns-then-size-lt128
returns-then-size-lt128 c = search (opening_here, rules)
