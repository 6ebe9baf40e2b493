use Rattle.gos_nodes.proofs.windows.FormLemmas.{lists_are_staged, quiet_is_within, own_part_can}
use Rattle.gos_nodes.proofs.laws.windows.lists_of_nodes.Goals as goal

pub returns-clause-staged : goal.returns-clause-staged
returns-clause-staged c = lists_are_staged

pub returns-clause-quiet : goal.returns-clause-quiet
returns-clause-quiet c = quiet_is_within

pub returns-clause-own : goal.returns-clause-own
returns-clause-own c = own_part_can
