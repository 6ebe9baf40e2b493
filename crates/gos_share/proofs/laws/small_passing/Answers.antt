use Rattle.gos_types.specs.Types.{Com, Exp, Var, Fun}
use Rattle.gos_plan.specs.Kinds.{contacts_of}
use Rattle.gos_share.proofs.PassingLemmas.{row_pairs}
use Rattle.gos_share.proofs.laws.small_passing.Goals as goal

pub returns-clause-command : goal.returns-clause-command
returns-clause-command c = row_pairs 1 0 (contacts_of Com)

pub returns-clause-variable : goal.returns-clause-variable
returns-clause-variable c = λ w. row_pairs 2 0 (contacts_of (Var w))

pub returns-clause-function : goal.returns-clause-function
returns-clause-function c = λ w. row_pairs 2 0 (contacts_of (Fun (Exp w) Com))
