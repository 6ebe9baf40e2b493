use Rattle.gos_terms.proofs.regular_and_resting.SideLemmas.{number_is_steady, variable_is_steady}
use Rattle.gos_terms.proofs.laws.regular_and_resting.sides_of_writes.Goals as goal

pub returns-clause-number : goal.returns-clause-number
returns-clause-number c = number_is_steady

pub returns-clause-variable : goal.returns-clause-variable
returns-clause-variable c = variable_is_steady
