use Rattle.std.proofs.Common.{ℕ, subst}
use Rattle.gos_lex.specs.Items.{Misses}
use Rattle.gos_netlist.specs.inner.NetLines.{IsNetsText}
use Rattle.std.proofs.lemmas.Result.{err_from_is_err_and}
use Rattle.gos_netlist.proofs.OperandsLemmas.{no_nets}
use Rattle.gos_netlist.proofs.cell_line.named.Goals as goal

pub returns-in_err-a-clause-wrong : goal.returns-in_err-a-clause-wrong
returns-in_err-a-clause-wrong c =
    let old = c.args.cursor.now in
    let here = subst (λ (k : ℕ). Misses (IsNetsText k) old.text old.at c.in_err-a.field-0.0) c.pin_count.ensures c.in_err-a.ensures.wrong in
    let known = no_nets c.args.word c.args.width c.requires.some old.text old.at c.in_err-a.field-0.0 here in
    let p = err_from_is_err_and c.from_residual.result c.from_residual.ensures.1 in
    rw (p.1, p.2) known
