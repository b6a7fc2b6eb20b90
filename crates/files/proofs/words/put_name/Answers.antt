use Rattle.text.specs.Choose.{if_eq, if_so}
use Rattle.files.specs.Words.{name_word}
use Rattle.text.proofs.Writes.{writes, wrote_by}
use Rattle.files.proofs.words.put_name.Goals as goal

pub returns-in-1 : goal.returns-in-1
unfolding name_word if_eq if_so
returns-in-1 c = wrote_by name_word _ _ _ _ c.in-1.is c.word.ensures

pub returns-in-2 : goal.returns-in-2
unfolding name_word if_eq if_so
returns-in-2 c = wrote_by name_word _ _ _ _ c.in-2.is c.word-in-2.ensures

pub returns-in-3 : goal.returns-in-3
unfolding name_word if_eq if_so
returns-in-3 c = wrote_by name_word _ _ _ _ c.in-3.is c.word-in-3.ensures

pub returns-in-4 : goal.returns-in-4
unfolding name_word if_eq if_so
returns-in-4 c = wrote_by name_word _ _ _ _ c.in-4.is c.word-in-4.ensures

pub returns-in-5 : goal.returns-in-5
unfolding name_word if_eq if_so
returns-in-5 c = wrote_by name_word _ _ _ _ c.in-5.is c.word-in-5.ensures

pub returns-in_default : goal.returns-in_default
unfolding name_word
returns-in_default c = let w = rw c.from.ensures at c.numbered.ensures in search writes depth 20
