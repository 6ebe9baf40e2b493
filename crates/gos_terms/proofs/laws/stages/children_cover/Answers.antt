use Rattle.gos_terms.proofs.stages.CoverLemmas.{live_is_covered, served_is_covered, own_is_covered}
use Rattle.gos_terms.proofs.laws.stages.children_cover.Goals as goal

pub returns-clause-live : goal.returns-clause-live
returns-clause-live c = live_is_covered

pub returns-clause-served : goal.returns-clause-served
returns-clause-served c = served_is_covered

pub returns-clause-own : goal.returns-clause-own
returns-clause-own c = own_is_covered
