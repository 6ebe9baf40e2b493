use Rattle.gos_swaps.proofs.doings.SideLemmas.{places_are_on_sides}
use Rattle.gos_swaps.proofs.laws.doings.places_on_sides.Goals as goal

pub returns : goal.returns
returns c = places_are_on_sides
