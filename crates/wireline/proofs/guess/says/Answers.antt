-- What was put into the array is the line, all of it.
use Rattle.std.proofs.Common.{sym, ap, length, length-take-le, ◌∙◌, arith, rules}
use Rattle.std.proofs.lemmas.Slice.Eq.{bytes_eq-Decides}
use Rattle.text.proofs.Writes.{wrote_first}
use Rattle.wireline.proofs.Longest.{line_most}
use Rattle.wireline.proofs.guess.says.Goals as goal

pub slice_bounds-words-end : goal.slice_bounds-words-end
slice_bounds-words-end c = omega (arith, line_most c.args.forms c.args.c, c.put_line_in.ensures.place, c.new-page.ensures.at)

pub slice_bounds-eq-end : goal.slice_bounds-eq-end
slice_bounds-eq-end c =
    sym (length-take-le _ _ (omega (arith, line_most c.args.forms c.args.c, c.put_line_in.ensures.place, c.new-page.ensures.at)))

pub returns : goal.returns
returns c =
    let m = line_most c.args.forms c.args.c in
    let l = ap length c.new-page.ensures.bytes in
    λ e. (bytes_eq-Decides _ _).0 (sym c.eq.ensures ∙ e)
    ∙ wrote_first (search rules) (omega arith) c.new-page.ensures.at (omega (arith, l))
    (omega (arith, l, m, c.put_line_in.ensures.place, c.new-page.ensures.at)) c.put_line_in.ensures
