-- What was put into the array is the words, all of them.
use Rattle.std.proofs.Common.{sym, refl, ◌∙◌, ap, length, length-take-le, arith, rules}
use Rattle.text.proofs.Writes.{wrote_first}
use Rattle.files.proofs.Longest.{words_most}
use Rattle.files.proofs.words.says.Goals as goal

pub slice_bounds-words-end : goal.slice_bounds-words-end
slice_bounds-words-end c = omega (arith, words_most c.args.w c.args.e, c.put_entry.ensures.place, c.new-page.ensures.at)

pub slice_bounds-begins_line-end : goal.slice_bounds-begins_line-end
slice_bounds-begins_line-end c = sym (length-take-le _ _ (omega (arith, words_most c.args.w c.args.e, c.put_entry.ensures.place, c.new-page.ensures.at)))

pub returns : goal.returns
returns c =
    let m = words_most c.args.w c.args.e in
    let l = ap length c.new-page.ensures.bytes in
    let v = wrote_first (search rules) refl c.new-page.ensures.at (omega (arith, l)) (omega (arith, l, c.put_entry.ensures.place, c.new-page.ensures.at)) c.put_entry.ensures in
    record { right = λ e. c.begins_line.ensures.0 e ∙ v; whole = λ e. c.begins_line.ensures.1 (e ∙ sym v) }
