use Rattle.gos_terms.proofs.leaves.SplitLemmas.{leaves_have_no_splits}
use Rattle.gos_terms.proofs.leaves.WithinLemmas.{standing_is_split_at_forks}
use Rattle.gos_terms.proofs.laws.leaves.no_splits.Goals as goal

pub returns-clause-leaves : goal.returns-clause-leaves
returns-clause-leaves c = leaves_have_no_splits

pub returns-clause-standing : goal.returns-clause-standing
returns-clause-standing c = standing_is_split_at_forks
