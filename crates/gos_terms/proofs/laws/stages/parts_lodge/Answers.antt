use Rattle.gos_terms.proofs.stages.HousingLemmas.{parts_are_from, imports_are_from, parts_are_outsiders, homes_are_there, far_is_nothing, first_is_kept}
use Rattle.gos_terms.proofs.laws.stages.parts_lodge.Goals as goal

pub returns-clause-from : goal.returns-clause-from
returns-clause-from c = parts_are_from

pub returns-clause-imports : goal.returns-clause-imports
returns-clause-imports c = imports_are_from

pub returns-clause-outsiders : goal.returns-clause-outsiders
returns-clause-outsiders c = parts_are_outsiders

pub returns-clause-there : goal.returns-clause-there
returns-clause-there c = homes_are_there

pub returns-clause-far : goal.returns-clause-far
returns-clause-far c = far_is_nothing

pub returns-clause-first : goal.returns-clause-first
returns-clause-first c = first_is_kept
