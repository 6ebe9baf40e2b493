use Rattle.gos_tool.proofs.lemmas.simulate.RepeatedLemmas.{sim_makes_one, trace_is_one}
use Rattle.gos_tool.proofs.simulate.laws.one_trace.Goals as goal

pub returns-clause-trace : goal.returns-clause-trace
returns-clause-trace c = trace_is_one c.one_answer.ensures.file c.one_answer.ensures.trace

pub returns-clause-sim : goal.returns-clause-sim
returns-clause-sim c = sim_makes_one c.one_answer-2.ensures.netlist (trace_is_one c.one_answer.ensures.file c.one_answer.ensures.trace)
