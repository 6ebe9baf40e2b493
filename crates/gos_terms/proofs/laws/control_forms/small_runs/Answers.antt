use Rattle.gos_terms.proofs.control_forms.SmallLemmas.{both_have_branches, second_has_none}
use Rattle.gos_terms.proofs.laws.control_forms.small_runs.Goals as goal

pub returns-clause-both : goal.returns-clause-both
returns-clause-both c = both_have_branches

pub returns-clause-second : goal.returns-clause-second
returns-clause-second c = second_has_none
