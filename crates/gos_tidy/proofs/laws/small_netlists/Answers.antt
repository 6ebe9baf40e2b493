use Rattle.gos_tidy.proofs.SmallTidyLemmas.{latch_is_tidied, folding_is_tidied, twice_is_not_tidy, spare_is_not_tidy, chosen_is_not_tidy, turned_is_not_tidy, mixed_is_not_tidy, folded_is_not_tidy, idle_is_not_tidy, held_is_tidy}
use Rattle.gos_tidy.proofs.laws.small_netlists.Goals as goal

pub returns-clause-latch : goal.returns-clause-latch
returns-clause-latch c = latch_is_tidied

pub returns-clause-folding : goal.returns-clause-folding
returns-clause-folding c = folding_is_tidied

pub returns-clause-twice : goal.returns-clause-twice
returns-clause-twice c = twice_is_not_tidy

pub returns-clause-spare : goal.returns-clause-spare
returns-clause-spare c = spare_is_not_tidy

pub returns-clause-chosen : goal.returns-clause-chosen
returns-clause-chosen c = chosen_is_not_tidy

pub returns-clause-turned : goal.returns-clause-turned
returns-clause-turned c = turned_is_not_tidy

pub returns-clause-mixed : goal.returns-clause-mixed
returns-clause-mixed c = mixed_is_not_tidy

pub returns-clause-folded : goal.returns-clause-folded
returns-clause-folded c = folded_is_not_tidy

pub returns-clause-idle : goal.returns-clause-idle
returns-clause-idle c = idle_is_not_tidy

pub returns-clause-held : goal.returns-clause-held
returns-clause-held c = held_is_tidy
