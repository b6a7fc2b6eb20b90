use Rattle.std.proofs.Common.{Some}
use Rattle.files.specs.Dump.{place_text}
use Rattle.text.specs.Page.{Wrote}
use Rattle.text.proofs.Writes.{writes}
use Rattle.files.proofs.Longest.{place_most, wrote_most}
use Rattle.files.proofs.dump.put_place.Goals as goal

pub returns : goal.returns
unfolding place_text
returns c =
    let a = c.args in
    let w : Wrote (place_text a.ordinal (Some a.found) a.at) a.page.now c.put.new.self = search writes in
    record { put = w; upper_bound = wrote_most _ w (place_most a.ordinal (Some a.found) a.at) }
