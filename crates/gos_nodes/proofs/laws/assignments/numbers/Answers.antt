use Rattle.gos_nodes.proofs.assignments.WrittenLemmas as written
use Rattle.gos_nodes.proofs.laws.assignments.numbers.Goals as goal

pub returns : goal.returns
returns c = written.number_is_asked
