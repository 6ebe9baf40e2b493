use Rattle.gos_terms.proofs.applying.SideLemmas.{first_is_side, second_is_side}
use Rattle.gos_terms.proofs.laws.applying.projections_are_sides.Goals as goal

pub returns-clause-first : goal.returns-clause-first
returns-clause-first c = first_is_side

pub returns-clause-second : goal.returns-clause-second
returns-clause-second c = second_is_side
