use Rattle.gos_expand.proofs.KeptLemmas.{all_gates, all_fit, all_paths}
use Rattle.gos_expand.proofs.FewLemmas.{gates_few}
use Rattle.gos_expand.proofs.laws.gates_keep.Goals as goal

pub returns-clause-keep : goal.returns-clause-keep
returns-clause-keep c = all_gates

pub returns-clause-fit : goal.returns-clause-fit
returns-clause-fit c = all_fit

pub returns-clause-paths : goal.returns-clause-paths
returns-clause-paths c = all_paths

pub returns-clause-few : goal.returns-clause-few
returns-clause-few c = gates_few
