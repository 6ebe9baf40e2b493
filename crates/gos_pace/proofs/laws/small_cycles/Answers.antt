use Rattle.gos_pace.proofs.SmallCycleLemmas.{skip_is_listed, eager_is_not_listed}
use Rattle.gos_pace.proofs.CallCycleLemmas.{call_is_listed}
use Rattle.gos_pace.proofs.laws.small_cycles.Goals as goal

pub returns-clause-cycles : goal.returns-clause-cycles
returns-clause-cycles c = skip_is_listed

pub returns-clause-eager : goal.returns-clause-eager
returns-clause-eager c = eager_is_not_listed

pub returns-clause-listed : goal.returns-clause-listed
returns-clause-listed c = call_is_listed
