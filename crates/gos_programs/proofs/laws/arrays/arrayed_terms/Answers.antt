use Rattle.gos_programs.proofs.arrays.ArrayBackLemmas.{arrayed_waits}
use Rattle.gos_programs.proofs.laws.arrays.arrayed_terms.Goals as goal

pub returns : goal.returns
returns c = record { waits = arrayed_waits }
