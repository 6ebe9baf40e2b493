use Rattle.gos_tool.proofs.lemmas.circuits.PacedLemmas.{open_circuits, module_circuits, linked_circuits}
use Rattle.gos_tool.proofs.circuits.laws.paced_circuits.Goals as goal

pub returns-clause-open_imports : goal.returns-clause-open_imports
returns-clause-open_imports c = open_circuits c.ports.ensures.done

pub returns-clause-modules : goal.returns-clause-modules
returns-clause-modules c = module_circuits c.ports.ensures.done

pub returns-clause-linked : goal.returns-clause-linked
returns-clause-linked c = linked_circuits c.linked_modules.ensures.module c.linked_modules.ensures.done
