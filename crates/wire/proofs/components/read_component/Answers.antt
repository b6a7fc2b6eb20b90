use Rattle.wire.proofs.Productions.{open_within, whole_bad, whole_open}
use borrow.Author.Rules.{rules}
use Rattle.wire.proofs.components.read_component.Goals as goal

pub slice_bounds-by_kind-end : goal.slice_bounds-by_kind-end
slice_bounds-by_kind-end c = search (open_within, whole_bad, whole_open, rules)

pub returns-in-Err : goal.returns-in-Err
returns-in-Err c = search (open_within, whole_bad, whole_open, rules)

pub returns-in-Ok : goal.returns-in-Ok
returns-in-Ok c = search (open_within, whole_bad, whole_open, rules)
