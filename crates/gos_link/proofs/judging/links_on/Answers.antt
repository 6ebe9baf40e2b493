use Rattle.std.proofs.Common.{inr}
use Rattle.std.proofs.lemmas.Result.{err_from_is_err_and}
use Rattle.gos_link.proofs.judging.links_on.Goals as goal

pub root_on-requires-clause-binds : goal.root_on-requires-clause-binds
root_on-requires-clause-binds c = rw (c.requires.instances, c.deref.ensures.value) at c.in_ok-services.ensures.right

pub returns-in_err-root-clause-fault : goal.returns-in_err-root-clause-fault
returns-in_err-root-clause-fault c =
    let binds = rw (c.requires.instances, c.deref.ensures.value) at c.in_ok-services.ensures.right in
    let p = err_from_is_err_and c.from_residual-in_err-root.result c.from_residual-in_err-root.ensures.1 in
    rw (p.1, p.2) (λ real. inr (c.in_ok-services.services, binds, c.in_err-root.ensures.fault real))
