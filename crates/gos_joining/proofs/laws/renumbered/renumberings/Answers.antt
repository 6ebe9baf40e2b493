use Rattle.gos_joining.proofs.renumbered.HigherLemmas.{renumbered_is_regular, renumbered_is_done, renumbered_is_realised}
use Rattle.gos_joining.proofs.laws.renumbered.renumberings.Goals as goal

pub returns-clause-regular : goal.returns-clause-regular
returns-clause-regular c = renumbered_is_regular

pub returns-clause-done : goal.returns-clause-done
returns-clause-done c = renumbered_is_done

pub returns-clause-realised : goal.returns-clause-realised
returns-clause-realised c = renumbered_is_realised
