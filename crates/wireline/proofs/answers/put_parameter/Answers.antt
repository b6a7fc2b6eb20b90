use Rattle.wireline.proofs.Told.{several_held, said_refused, said_none, said_one, said_several}
use Rattle.wireline.proofs.answers.put_parameter.Goals as goal

pub put_each-requires : goal.put_each-requires
put_each-requires c = search (several_held)

pub returns-in-Err : goal.returns-in-Err
returns-in-Err c = search (said_refused)

pub returns-in-Ok-Empty : goal.returns-in-Ok-Empty
returns-in-Ok-Empty c = search (said_none)

pub returns-in-Ok-One : goal.returns-in-Ok-One
returns-in-Ok-One c = search (said_one)

pub returns-in-Ok-Several : goal.returns-in-Ok-Several
returns-in-Ok-Several c = search (said_several)
