use Rattle.wire.specs.Grammar.{parts_of}
use Rattle.wire.proofs.components.parts.Goals as goal

pub returns : goal.returns
unfolding parts_of
returns c = simp (c.party_part.ensures.0, c.first_part.ensures.0, c.byte.ensures, c.rest.ensures, c.known.ensures, c.depth.ensures, c.last-third.ensures.0, c.checked-good.ensures, c.there.ensures, c.party_at-number.ensures, c.may-party.ensures, c.may-flag.ensures)
