use Rattle.files.proofs.dump.put_stop.Goals as goal

pub returns-in-BadLength : goal.returns-in-BadLength
returns-in-BadLength c = rw c.in-BadLength.is c.word-in-BadLength.ensures

pub returns-in-UnknownKind : goal.returns-in-UnknownKind
returns-in-UnknownKind c = rw c.in-UnknownKind.is c.word-in-UnknownKind.ensures
