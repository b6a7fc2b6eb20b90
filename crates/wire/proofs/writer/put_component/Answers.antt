use Rattle.std.proofs.Common.{refl, arith}
use Rattle.text.proofs.Writes.{wrote_as}
use Rattle.wire.proofs.Pieces.{by_invoke, by_result, by_error, by_reject}
use Rattle.wire.proofs.writer.put_component.Goals as goal

pub returns-in-1 : goal.returns-in-1
returns-in-1 c = wrote_as (by_invoke _ _ c.in-1.is refl) c.put_invoke.ensures

pub returns-in-2 : goal.returns-in-2
returns-in-2 c = wrote_as (by_result _ _ (λ e. omega arith) c.in-2.is refl) c.put_result.ensures

pub returns-in-3 : goal.returns-in-3
returns-in-3 c = wrote_as (by_error _ _ (λ e. omega arith) (λ e. omega arith) c.in-3.is refl) c.put_error.ensures

pub returns-in_default : goal.returns-in_default
returns-in_default c = wrote_as (by_reject _ _ (λ e. omega arith) (λ e. omega arith) (λ e. omega arith) refl) c.put_reject.ensures
