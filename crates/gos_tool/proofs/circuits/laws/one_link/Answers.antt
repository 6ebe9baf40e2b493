use Rattle.gos_tool.proofs.lemmas.circuits.RepeatedLemmas.{circuit_is_one, link_makes_one}
use Rattle.gos_tool.proofs.circuits.laws.one_link.Goals as goal

pub returns-clause-circuit : goal.returns-clause-circuit
returns-clause-circuit c = circuit_is_one c.one_layout.ensures

pub returns-clause-link : goal.returns-clause-link
returns-clause-link c =
    link_makes_one c.one_build.ensures.build c.one_answer.ensures.plan c.one_answer-2.ensures.linked c.one_layout.ensures c.one_text.ensures.accepted
