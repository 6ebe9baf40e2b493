use Rattle.gos_programs.proofs.variables.UnfoldedLemmas.{unfoldings_meet, acts_stay, waits_before}
use Rattle.gos_programs.proofs.laws.variables.unfolded_terms.Goals as goal

pub returns : goal.returns
returns c = record { meet = unfoldings_meet; stay = acts_stay; waits = waits_before }
