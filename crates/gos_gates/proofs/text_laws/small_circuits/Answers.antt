use Rattle.gos_gates.proofs.SmallLemmas.{small_runs, small_texts, are_circuits, gates_look_back}
use Rattle.gos_gates.proofs.FaultLemmas.{small_faults}
use Rattle.gos_gates.proofs.text_laws.small_circuits.Goals as goal

pub returns-clause-runs : goal.returns-clause-runs
returns-clause-runs c = small_runs

pub returns-clause-texts : goal.returns-clause-texts
returns-clause-texts c = small_texts

pub returns-clause-circuits : goal.returns-clause-circuits
returns-clause-circuits c = are_circuits

pub returns-clause-back : goal.returns-clause-back
returns-clause-back c = gates_look_back

pub returns-clause-faults : goal.returns-clause-faults
returns-clause-faults c = small_faults
