use Rattle.std.proofs.Common.{List, subst}
use Rattle.gos_witness.specs.declared.putting.Job.{Job}
use Rattle.gos_witness.specs.inner.Jobs.{AreJobs}
use Rattle.gos_witness.proofs.PutLemmas.{jobs_less}
use Rattle.gos_witness.proofs.putting.instantiate.Goals as goal

pub up-requires-clause-job : goal.up-requires-clause-job
up-requires-clause-job c =
    let l = c.loop-state.list in
    (jobs_less l c.pop.new.self.items c.in-Some.job (subst (λ (js : List Job). AreJobs l js) c.in-Some.ensures.items c.loop-state.invariant.jobs)).1

pub up-requires-clause-jobs : goal.up-requires-clause-jobs
up-requires-clause-jobs c =
    let l = c.loop-state.list in
    (jobs_less l c.pop.new.self.items c.in-Some.job (subst (λ (js : List Job). AreJobs l js) c.in-Some.ensures.items c.loop-state.invariant.jobs)).0
