use Rattle.std.proofs.Common.{arith, rules}
use Rattle.wireline.proofs.Octets.{blank_is, number_is, capital_is, small_is, other_is}
use Rattle.wireline.proofs.hex.meaning.Goals as goal

pub returns-in-48-to-57-clause-value : goal.returns-in-48-to-57-clause-value
returns-in-48-to-57-clause-value c = number_is _ (omega arith) (omega arith)

pub returns-in-65-to-70-clause-value : goal.returns-in-65-to-70-clause-value
returns-in-65-to-70-clause-value c = capital_is _ (omega arith) (omega arith)

pub returns-in-97-to-102-clause-value : goal.returns-in-97-to-102-clause-value
returns-in-97-to-102-clause-value c = small_is _ (omega arith) (omega arith)

pub returns-in-32-clause-value : goal.returns-in-32-clause-value
returns-in-32-clause-value c = blank_is _ (λ p q r t. omega arith)

pub returns-in-32-2-clause-value : goal.returns-in-32-2-clause-value
returns-in-32-2-clause-value c = blank_is _ (λ p q r t. omega arith)

pub returns-in_default-clause-value : goal.returns-in_default-clause-value
returns-in_default-clause-value c =
    other_is _ (λ e. omega arith) (λ e. omega arith) (λ e. omega arith) (λ e. omega arith) (λ g l. omega arith) (λ g l. omega arith) (λ g l. omega arith)

pub returns-in_default-2-clause-value : goal.returns-in_default-2-clause-value
returns-in_default-2-clause-value c =
    other_is _ (search rules) (λ e. omega arith) (λ e. omega arith) (search rules) (λ g l. omega arith) (λ g l. omega arith) (λ g l. omega arith)

pub returns-in_default-3-clause-value : goal.returns-in_default-3-clause-value
returns-in_default-3-clause-value c =
    other_is _ (λ e. omega arith) (λ e. omega arith) (λ e. omega arith) (λ e. omega arith) (λ g l. omega arith) (λ g l. omega arith) (λ g l. omega arith)

pub returns-in_default-4-clause-value : goal.returns-in_default-4-clause-value
returns-in_default-4-clause-value c =
    other_is _ (λ e. omega arith) (λ e. omega arith) (λ e. omega arith) (λ e. omega arith) (λ g l. omega arith) (λ g l. omega arith) (λ g l. omega arith)

pub returns-in_default-5-clause-value : goal.returns-in_default-5-clause-value
returns-in_default-5-clause-value c =
    other_is _ (λ e. omega arith) (λ e. omega arith) (λ e. omega arith) (λ e. omega arith) (λ g l. omega arith) (λ g l. omega arith) (λ g l. omega arith)
