use Rattle.gos_nodes.proofs.parallel.RegularLemmas.{open_parallel_is_regular, open_parallel_is_restful, parallel_is_regular}
use Rattle.gos_nodes.proofs.parallel.RealisesLemmas.{parallel_realises}
use Rattle.gos_nodes.proofs.laws.parallel.parallel.Goals as goal

pub returns-clause-any : goal.returns-clause-any
returns-clause-any c = open_parallel_is_regular

pub returns-clause-restful : goal.returns-clause-restful
returns-clause-restful c = open_parallel_is_restful

pub returns-clause-regular : goal.returns-clause-regular
returns-clause-regular c = parallel_is_regular

pub returns-clause-realises : goal.returns-clause-realises
returns-clause-realises c = parallel_realises
