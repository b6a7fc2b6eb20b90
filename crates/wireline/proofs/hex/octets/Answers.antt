use Rattle.std.proofs.Common.{refl, ◌∙◌, rules}
use Rattle.wireline.proofs.Octets.{reading_none, reading_done, reading_odd, reading_other, reading_blank, reading_half, reading_octet}
use Rattle.wireline.proofs.hex.octets.Goals as goal
use Rattle.wireline.proofs.hex.octets.Goals.{in-Blank-default, in-Digit-None, in-Digit-Some}

pub loop-b-init : goal.loop-b-init
loop-b-init c = (refl, tt, search (reading_none))

pub returns-in-Other-default : goal.returns-in-Other-default
returns-in-Other-default c = search (reading_other)

pub loop-b-preserved : goal.loop-b-preserved
loop-b-preserved c =
    elim c.match-meaning.branch [
      | in-Blank-default w ↦ rw (w.page-is, w.half-is) (search rules, search rules, search (reading_blank))
      | in-Digit-None w ↦ rw (w.page-is, w.half-is) (search rules, w.in-Digit-None.ensures.digit, search (reading_half))
      | in-Digit-Some w ↦ rw (w.page-is, w.half-is) (w.put.ensures.same ∙ c.loop-b.invariant.0, tt, search (reading_octet))
    ]

pub returns-in-None : goal.returns-in-None
returns-in-None c =
    reading_done _ _ _ _ _ c.loop-b.invariant.2 (search rules) _ _ c.in-None.is c.new-page.ensures.at c.new-page.ensures.bytes (search rules) (search rules) (search rules)

pub returns-in-Some : goal.returns-in-Some
returns-in-Some c = search (reading_odd)
