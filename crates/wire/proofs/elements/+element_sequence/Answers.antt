-- The proof of the cycle of calls {element, sequence}.
-- Assumes nothing.
use Rattle.std.proofs.lemmas.Result.{err_from_is_err_and}
use Rattle.wire.proofs.Levels.{element_bad, element_deep, element_own, element_held, element_plain, held_falls, going_done, going_stop, going_on, going_less}
use Rattle.wire.proofs.elements.+element_sequence.Goals as goal

pub element-returns-in-Ok : goal.element-returns-in-Ok
element-returns-in-Ok t c = search element_deep

pub element-returns-in-Ok-2 : goal.element-returns-in-Ok-2
element-returns-in-Ok-2 t c = search element_own

pub element-sequence-requires : goal.element-sequence-requires
element-sequence-requires t c = (search held_falls, tt)

pub element-returns-in-Ok-3 : goal.element-returns-in-Ok-3
element-returns-in-Ok-3 t c = search element_held

pub element-returns-in-Err : goal.element-returns-in-Err
element-returns-in-Err t c = search element_bad

pub element-returns-in-Ok-4 : goal.element-returns-in-Ok-4
element-returns-in-Ok-4 t c = search element_plain

pub sequence-returns-in_err-place : goal.sequence-returns-in_err-place
sequence-returns-in_err-place t c = let p = err_from_is_err_and c.from_residual.result c.from_residual.ensures.1 in rw (p.1, p.2) (search (going_stop, c.in_err-place.was))

pub sequence-loop-place-smaller : goal.sequence-loop-place-smaller
sequence-loop-place-smaller t c = search (going_less, c.in_ok-place.was)

pub sequence-loop-place-preserved : goal.sequence-loop-place-preserved
sequence-loop-place-preserved t c = search (going_on, c.in_ok-place.was)

pub sequence-returns : goal.sequence-returns
sequence-returns t c = search going_done
