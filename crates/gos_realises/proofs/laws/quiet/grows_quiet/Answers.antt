use Rattle.gos_realises.proofs.laws.quiet.grows_quiet.Goals as goal
use Rattle.gos_realises.proofs.quiet.GrowLemmas as grow

pub returns-clause-quiet : goal.returns-clause-quiet
returns-clause-quiet c = grow.grows_quiet

pub returns-clause-ranks : goal.returns-clause-ranks
returns-clause-ranks c = grow.right_ranks_hold
