use Rattle.gos_tool.proofs.lemmas.AgreeLemmas.{leave_one, old_bytes_are_not, other_bytes_are_not, same_bytes_are}
use Rattle.gos_tool.proofs.laws.small_agreement.Goals as goal

pub returns-clause-same : goal.returns-clause-same
returns-clause-same c = same_bytes_are

pub returns-clause-others : goal.returns-clause-others
returns-clause-others c = other_bytes_are_not

pub returns-clause-old : goal.returns-clause-old
returns-clause-old c = old_bytes_are_not

pub returns-clause-one : goal.returns-clause-one
returns-clause-one c = leave_one
