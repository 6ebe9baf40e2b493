use Rattle.gos_swaps.proofs.doings.PlaceLemmas.{does_within}
use Rattle.gos_swaps.proofs.doings.SideLemmas.{one_sort, one_kind}
use Rattle.gos_swaps.proofs.laws.doings.doings_at_a_place.Goals as goal

pub returns-clause-sort : goal.returns-clause-sort
returns-clause-sort c = one_sort

pub returns-clause-one : goal.returns-clause-one
returns-clause-one c = one_kind

pub returns-clause-within : goal.returns-clause-within
returns-clause-within c = does_within
