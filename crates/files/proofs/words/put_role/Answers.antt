use Rattle.text.specs.Choose.{if_eq, if_so}
use Rattle.files.specs.Words.{role_word}
use Rattle.text.proofs.Writes.{writes, wrote_by}
use Rattle.files.proofs.words.put_role.Goals as goal

pub returns-in-0 : goal.returns-in-0
unfolding role_word if_eq if_so
returns-in-0 c = wrote_by role_word _ _ _ _ c.in-0.is c.word.ensures

pub returns-in-1 : goal.returns-in-1
unfolding role_word if_eq if_so
returns-in-1 c = wrote_by role_word _ _ _ _ c.in-1.is c.word-in-1.ensures

pub returns-in_default : goal.returns-in_default
unfolding role_word
returns-in_default c = search writes depth 20
