use Rattle.std.proofs.lemmas.Result.{err_from_is_err_and}
use Rattle.gos_netlist.proofs.OperandsLemmas.{no_constant}
use Rattle.gos_netlist.proofs.cell_line.constant.Goals as goal

pub returns-in_err-k-clause-wrong : goal.returns-in_err-k-clause-wrong
returns-in_err-k-clause-wrong c =
    let old = c.args.cursor.now in
    let known = no_constant c.args.width c.greatest.result c.greatest.ensures old.text old.at c.in_err-k.field-0.0 c.in_err-k.ensures.wrong in
    let p = err_from_is_err_and c.from_residual.result c.from_residual.ensures.1 in
    rw (p.1, p.2) known
