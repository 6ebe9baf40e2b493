use Rattle.gos_sim.proofs.DraftLemmas.{counted_longer, counted_pushed}
use Rattle.gos_sim.proofs.EvaluationLemmas.{run_longer}
use Rattle.gos_sim.proofs.evaluation.add_run.Goals as goal

pub returns-then-goes_on-clause-more : goal.returns-then-goes_on-clause-more
returns-then-goes_on-clause-more c = run_longer c.args.runs.now.items c.args.last.now c.args.next (c.goes_on.ensures c.if-goes_on.true) c.requires

pub returns-then-goes_on-clause-counted : goal.returns-then-goes_on-clause-counted
returns-then-goes_on-clause-counted c = λ many numbered known.
    counted_longer c.args.runs.now.items c.args.last.now c.args.next many (c.goes_on.ensures c.if-goes_on.true) c.requires numbered known

pub returns-in_ok-push-clause-counted : goal.returns-in_ok-push-clause-counted
returns-in_ok-push-clause-counted c = λ many numbered known.
    counted_pushed c.args.runs.now.items c.push.new.self.items c.args.last.now c.args.next many c.in_ok-push.ensures.items c.requires numbered known
