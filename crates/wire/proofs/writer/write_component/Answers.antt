use Rattle.std.proofs.Common.{List, ℕ, length, length-take-le, arith, rules, ap, sym, refl, ◌∙◌}
use Rattle.text.proofs.Cases.{no_eq}
use Rattle.wire.specs.Texts.{component_text, written_of, leaves_of}
use Rattle.wire.proofs.Fields.{told_ordinal, told_none}
use Rattle.wire.proofs.Pieces.{begun}
use Rattle.wire.proofs.Places.{component_most}
use Rattle.wire.proofs.writer.write_component.Goals as goal

pub slice_bounds-bytes-end : goal.slice_bounds-bytes-end
slice_bounds-bytes-end c = let m = component_most c.args.c in omega (arith, c.put_component.ensures.place, c.new-page.ensures.at)

pub slice_bounds-give-end : goal.slice_bounds-give-end
slice_bounds-give-end c =
    let m = component_most c.args.c in
    sym (length-take-le _ _ (omega (arith, c.put_component.ensures.place, c.new-page.ensures.at)))

pub returns-in-Some : goal.returns-in-Some
unfolding written_of leaves_of
returns-in-Some c =
    let t = told_ordinal _ _ c.in-Some.ensures in
    (no_eq _ _ _ _ _ t.1 (rw t.0), no_eq _ _ _ _ _ t.1 refl)

pub returns-in-None : goal.returns-in-None
returns-in-None c =
    let m = component_most c.args.c in
    let l = ap length c.new-page.ensures.bytes in
    let n = told_none _ c.in-None.ensures in
    let e = begun (component_text c.args.c) _ (omega arith) (omega arith) c.new-page.ensures.at c.put_component.ensures (search rules) in (
      c.give.ensures.0 ∙ ap (λ (t : List ℕ). written_of 0 t c.args.out.now) e ∙ ap (λ (k : ℕ). written_of k (component_text c.args.c) c.args.out.now) (sym n),
      c.give.ensures.1 ∙ ap (λ (t : List ℕ). leaves_of 0 t c.args.out.now) e ∙ ap (λ (k : ℕ). leaves_of k (component_text c.args.c) c.args.out.now) (sym n),
    )
