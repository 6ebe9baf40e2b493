use Rattle.gos_programs.proofs.results.GroundLemmas.{no_index_is_asked, arrays_ask}
use Rattle.gos_programs.proofs.laws.results.ground_imports.Goals as goal

pub returns-clause-ground : goal.returns-clause-ground
returns-clause-ground c = no_index_is_asked

pub returns-clause-arrays : goal.returns-clause-arrays
returns-clause-arrays c = arrays_ask
