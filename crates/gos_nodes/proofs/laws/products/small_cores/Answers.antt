use Rattle.gos_nodes.proofs.products.SmallCoreLemmas.{skip_is_core, empty_is_none}
use Rattle.gos_nodes.proofs.laws.products.small_cores.Goals as goal

pub returns-clause-skip : goal.returns-clause-skip
returns-clause-skip c = skip_is_core

pub returns-clause-empty : goal.returns-clause-empty
returns-clause-empty c = empty_is_none
