use Rattle.gos_witness.proofs.SmallLineLemmas as lemmas
use Rattle.gos_witness.proofs.laws.small_lines.Goals as goal

pub returns-clause-skip : goal.returns-clause-skip
returns-clause-skip c = lemmas.skip_is_explained

pub returns-clause-left : goal.returns-clause-left
returns-clause-left c = lemmas.one_is_left

pub returns-clause-no_step : goal.returns-clause-no_step
returns-clause-no_step c = lemmas.skip_makes_no_step

pub returns-clause-seen : goal.returns-clause-seen
returns-clause-seen c = lemmas.shared_is_seen

pub returns-clause-counts : goal.returns-clause-counts
returns-clause-counts c = lemmas.shared_counts_twice
