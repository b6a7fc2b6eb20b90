use Rattle.text.specs.Choose.{if_eq}
use Rattle.text.proofs.Writes.{wrote_after}
use Rattle.wire.specs.Texts.{text_if, party_text, parties_text}
use Rattle.wire.proofs.writer.put_parties.Goals as goal

pub returns : goal.returns
unfolding parties_text party_text text_if if_eq
returns c = wrote_after c.put_party-2.ensures c.put_party.ensures
