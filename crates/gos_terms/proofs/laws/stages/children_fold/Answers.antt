use Rattle.gos_terms.proofs.stages.ChildTieLemmas.{child_ways}
use Rattle.gos_terms.proofs.stages.ChildBackLemmas.{child_stays}
use Rattle.gos_terms.proofs.stages.ChildPartLemmas.{child_is_part}
use Rattle.gos_terms.proofs.stages.ChildFoldLemmas.{child_is_folded}
use Rattle.gos_terms.proofs.stages.ChildStageLemmas.{child_is_staged}
use Rattle.gos_terms.proofs.stages.StageLemmas.{child_is_stage}
use Rattle.gos_terms.proofs.laws.stages.children_fold.Goals as goal

pub returns-clause-ways : goal.returns-clause-ways
returns-clause-ways c = child_ways

pub returns-clause-stays : goal.returns-clause-stays
returns-clause-stays c = child_stays

pub returns-clause-part : goal.returns-clause-part
returns-clause-part c = child_is_part

pub returns-clause-folded : goal.returns-clause-folded
returns-clause-folded c = child_is_folded

pub returns-clause-staged : goal.returns-clause-staged
returns-clause-staged c = child_is_staged

pub returns-clause-stage : goal.returns-clause-stage
returns-clause-stage c = child_is_stage
