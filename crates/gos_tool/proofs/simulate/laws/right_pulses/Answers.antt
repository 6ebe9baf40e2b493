use Rattle.gos_tool.proofs.lemmas.simulate.CompleteLemmas.{pulses_are_not_rejected, ended_may_run}
use Rattle.gos_tool.proofs.simulate.laws.right_pulses.Goals as goal

pub returns-clause-rejected : goal.returns-clause-rejected
returns-clause-rejected c = pulses_are_not_rejected c.one_answer.ensures.file c.one_answer.ensures.read

pub returns-clause-ended : goal.returns-clause-ended
returns-clause-ended c = ended_may_run c.one_answer.ensures.driven
