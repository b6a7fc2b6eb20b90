use Rattle.text.specs.Choose.{if_eq, if_so}
use Rattle.files.specs.Words.{asked_word}
use Rattle.text.proofs.Writes.{writes, wrote_by}
use Rattle.files.proofs.words.put_asked.Goals as goal

pub returns-in-0 : goal.returns-in-0
unfolding asked_word if_eq if_so
returns-in-0 c = wrote_by asked_word _ _ _ _ c.in-0.is c.word.ensures

pub returns-in-1 : goal.returns-in-1
unfolding asked_word if_eq if_so
returns-in-1 c = wrote_by asked_word _ _ _ _ c.in-1.is c.word-in-1.ensures

pub returns-in-2 : goal.returns-in-2
unfolding asked_word if_eq if_so
returns-in-2 c = wrote_by asked_word _ _ _ _ c.in-2.is c.word-in-2.ensures

pub returns-in-3 : goal.returns-in-3
unfolding asked_word if_eq if_so
returns-in-3 c = wrote_by asked_word _ _ _ _ c.in-3.is c.word-in-3.ensures

pub returns-in_default : goal.returns-in_default
unfolding asked_word
returns-in_default c = search writes depth 20
