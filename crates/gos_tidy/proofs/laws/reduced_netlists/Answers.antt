use Rattle.gos_tidy.proofs.StillLemmas.{reduced_once}
use Rattle.gos_tidy.proofs.SteadyLemmas.{steadied_once}
use Rattle.gos_tidy.proofs.AgainLemmas.{reduced_again}
use Rattle.gos_tidy.proofs.SmallTidyLemmas.{inputs_stay, inputs_stay_apart}
use Rattle.gos_tidy.proofs.laws.reduced_netlists.Goals as goal

pub returns-clause-once : goal.returns-clause-once
returns-clause-once c = reduced_once

pub returns-clause-steadied : goal.returns-clause-steadied
returns-clause-steadied c = steadied_once

pub returns-clause-again : goal.returns-clause-again
returns-clause-again c = reduced_again

pub returns-clause-apart : goal.returns-clause-apart
returns-clause-apart c = inputs_stay_apart

pub returns-clause-inputs : goal.returns-clause-inputs
returns-clause-inputs c = inputs_stay
