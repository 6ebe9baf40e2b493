use Rattle.std.proofs.Common.{sym, subst}
use Rattle.gos_verilog.specs.inner.Faces.{IsFree}
use Rattle.gos_verilog.proofs.FreeLemmas.{front_cut}
use Rattle.gos_verilog.proofs.faces.free_before.Goals as goal

pub returns-then-ends_with-clause-is : goal.returns-then-ends_with-clause-is
returns-then-ends_with-clause-is c = λ yes.
    let found = c.ends_with.ensures.only c.if-ends_with.true in
    let cut = front_cut c.args.bytes.now c.args.end.now found.0 c.saturating_sub.result c.saturating_sub.ensures found.1 in
    (found.0, subst (IsFree c.args.places.now) cut (c.is_free.ensures.0 yes), found.1)

pub returns-then-ends_with-clause-only : goal.returns-then-ends_with-clause-only
returns-then-ends_with-clause-only c = λ front free is.
    let cut = front_cut c.args.bytes.now c.args.end.now front c.saturating_sub.result c.saturating_sub.ensures is in
    c.is_free.ensures.1 (subst (IsFree c.args.places.now) (sym cut) free)

pub returns-else-ends_with-clause-only : goal.returns-else-ends_with-clause-only
returns-else-ends_with-clause-only c = λ front free is. c.ends_with.ensures.is front is
