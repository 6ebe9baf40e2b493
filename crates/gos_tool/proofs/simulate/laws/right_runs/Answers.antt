use Rattle.gos_tool.proofs.lemmas.simulate.CompleteLemmas.{sim_is_not_rejected, empty_is_no_net}
use Rattle.gos_tool.proofs.simulate.laws.right_runs.Goals as goal

pub returns-clause-rejected : goal.returns-clause-rejected
returns-clause-rejected c =
    sim_is_not_rejected c.right_pulses.ensures.rejected c.one_answer.ensures.netlist c.one_answer.ensures.read c.one_answer-2.ensures.accepted

pub returns-clause-empty : goal.returns-clause-empty
returns-clause-empty c = empty_is_no_net
