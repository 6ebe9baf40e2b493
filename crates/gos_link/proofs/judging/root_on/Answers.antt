use Rattle.std.proofs.lemmas.Result.{err_from_is_err_and}
use Rattle.gos_link.proofs.JudgeLemmas.{judged}
use Rattle.gos_link.proofs.judging.root_on.Goals as goal

pub returns-in_err-root-clause-fault : goal.returns-in_err-root-clause-fault
returns-in_err-root-clause-fault c =
    let p = err_from_is_err_and c.from_residual.result c.from_residual.ensures.1 in
    rw (p.1, p.2) (λ real. c.in_err-root.ensures.fault real c.args.plans.now)

pub check_ports-requires : goal.check_ports-requires
check_ports-requires c =
    judged c.args.build.now c.args.plans.now c.args.services.now c.in_ok-root.root c.requires.each c.requires.binds c.in_ok-root.ensures.placed
