use Rattle.gos_supplies.proofs.literals.NumberLemmas.{literal_is_realised}
use Rattle.gos_supplies.proofs.literals.LeafLemmas.{done_is_realised}
use Rattle.gos_supplies.proofs.laws.literals.leaves.Goals as goal

pub returns-clause-number : goal.returns-clause-number
returns-clause-number c = literal_is_realised

pub returns-clause-skip : goal.returns-clause-skip
returns-clause-skip c = done_is_realised
