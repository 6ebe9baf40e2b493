use Rattle.std.proofs.Common.{sym, ◌∙◌, subst}
use Rattle.std.proofs.lemmas.Result.{err_from_is_err_and}
use Rattle.gos_verilog.specs.Readable.{IsRead}
use Rattle.gos_verilog.proofs.WholeLemmas.{refused}
use Rattle.gos_verilog.proofs.FrontLemmas.{end_place}
use Rattle.gos_verilog.proofs.FreeLemmas.{contrary}
use Rattle.gos_verilog.proofs.reading.read_verilog.Goals as goal

pub returns-in_err-net-clause-refused : goal.returns-in_err-net-clause-refused
returns-in_err-net-clause-refused c =
    let p = err_from_is_err_and c.from_residual.result c.from_residual.ensures.1 in
    rw (p.1, p.2) (refused c.args.text.now c.in_err-net.field-0.0 c.in_err-net.ensures.stands)

pub returns-in_err-net-clause-place : goal.returns-in_err-net-clause-place
returns-in_err-net-clause-place c =
    let p = err_from_is_err_and c.from_residual.result c.from_residual.ensures.1 in
    rw (p.1, p.2) c.in_err-net.ensures.place

pub returns-else-branch-clause-place : goal.returns-else-branch-clause-place
returns-else-branch-clause-place c = end_place c.args.text.now c.in_ok-net.ensures.formed

pub returns-else-branch-clause-refused : goal.returns-else-branch-clause-refused
returns-else-branch-clause-refused c net read =
    let same = c.in_ok-net.ensures.stands net read in
    contrary (c.in_ok-is_text_of.ensures.whole (rw (c.deref.ensures.value, c.deref-2.ensures.value) (subst (IsRead c.args.text.now) (sym (c.net.view_is ∙ same)) read))) c.if-branch.false
