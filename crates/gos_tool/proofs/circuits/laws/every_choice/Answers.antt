use Rattle.gos_tool.proofs.lemmas.circuits.CircuitLemmas.{paces}
use Rattle.gos_tool.proofs.lemmas.circuits.PacedLemmas.{choices_of_module}
use Rattle.gos_tool.proofs.circuits.laws.every_choice.Goals as goal

pub returns-clause-done : goal.returns-clause-done
returns-clause-done c = λ keep p root m can acyclic slim realises. paces keep p root m can acyclic c.cycles_are_lists.ensures c.keeps_pace.ensures slim realises

pub returns-clause-module : goal.returns-clause-module
returns-clause-module c =
    choices_of_module c.ports.ensures.done
    (λ keep p root m can acyclic slim realises. paces keep p root m can acyclic c.cycles_are_lists.ensures c.keeps_pace.ensures slim realises)
