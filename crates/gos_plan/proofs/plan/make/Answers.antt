use Rattle.std.proofs.Common.{sym}
use Rattle.gos_plan.proofs.plan.make.Goals as goal

pub returns-in-Err-clause-fault : goal.returns-in-Err-clause-fault
returns-in-Err-clause-fault c =
    rw (sym c.deref.ensures.value, sym c.deref-2.ensures.value, sym c.deref-3.ensures.value) (c.in-Err.ensures.fault c.args.weight)
