use Rattle.gos_tool.proofs.lemmas.build.RepeatedLemmas.{build_makes_one}
use Rattle.gos_tool.proofs.build.laws.one_circuit.Goals as goal

pub returns : goal.returns
returns c =
    build_makes_one c.one_build.ensures.build c.one_object.ensures.plan c.one_answer.ensures.linked c.one_layout.ensures c.one_text.ensures.accepted
    c.one_trace.ensures.trace
