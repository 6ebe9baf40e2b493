use Rattle.gos_programs.proofs.arrays.SmallLemmas.{stages_are_told, one_stands, location_is_put, homes_are_apart, asked_is_answered}
use Rattle.gos_programs.proofs.laws.arrays.small_local_arrays.Goals as goal

pub returns : goal.returns
returns c = record { told = stages_are_told; one = one_stands; put = location_is_put; homes = homes_are_apart; answered = asked_is_answered }
