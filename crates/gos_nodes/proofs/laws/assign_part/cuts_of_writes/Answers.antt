use Rattle.gos_nodes.proofs.assign_part.CutLemmas.{ends_of_writes, cuts_of_writes}
use Rattle.gos_nodes.proofs.laws.assign_part.cuts_of_writes.Goals as goal

pub returns-clause-ends : goal.returns-clause-ends
returns-clause-ends c = ends_of_writes

pub returns-clause-cuts : goal.returns-clause-cuts
returns-clause-cuts c = cuts_of_writes
