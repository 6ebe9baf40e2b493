use Rattle.gos_expand.proofs.AcceptLemmas.{circuit_accepted}
use Rattle.gos_expand.proofs.FewLemmas.{circuit_small}
use Rattle.gos_expand.proofs.laws.circuits_are_accepted.Goals as goal

pub returns-clause-accepted : goal.returns-clause-accepted
returns-clause-accepted c = circuit_accepted

pub returns-clause-few : goal.returns-clause-few
returns-clause-few c = circuit_small
