use borrow.Author.Rules.{rules}
use Rattle.std.proofs.Common.{rules}
use Rattle.files.specs.Messages.{operation_text}
use Rattle.text.proofs.Cases.{cases}
use Rattle.files.proofs.messages.operation_word.Goals as goal

pub returns-in-1 : goal.returns-in-1
unfolding operation_text
returns-in-1 c = search (cases, rules) depth 20

pub returns-in-2 : goal.returns-in-2
unfolding operation_text
returns-in-2 c = search (cases, rules) depth 20

pub returns-in_default : goal.returns-in_default
unfolding operation_text
returns-in_default c = search (cases, rules) depth 20
