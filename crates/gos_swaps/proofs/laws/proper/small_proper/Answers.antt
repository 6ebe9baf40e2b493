use Rattle.gos_swaps.proofs.proper.SmallLemmas.{names_are_apart, bodies_are_open, block_is_proper}
use Rattle.gos_swaps.proofs.laws.proper.small_proper.Goals as goal

pub returns-clause-apart : goal.returns-clause-apart
returns-clause-apart c = names_are_apart

pub returns-clause-open : goal.returns-clause-open
returns-clause-open c = bodies_are_open

pub returns-clause-block : goal.returns-clause-block
returns-clause-block c = block_is_proper
