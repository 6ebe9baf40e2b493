use Rattle.gos_swaps.proofs.orders.EffectLemmas.{doings_have_effects}
use Rattle.gos_swaps.proofs.laws.orders.effects_of_doings.Goals as goal

pub returns : goal.returns
returns c = doings_have_effects
