use Rattle.std.proofs.Common.{sym, ◌∙◌}
use Rattle.std.proofs.lemmas.Bool.{eqb-true}
use Rattle.gos_netcheck.proofs.CellLemmas.{width_there}
use Rattle.gos_netcheck.proofs.cells.has_width.Goals as goal

pub returns-in-Some-clause-width : goal.returns-in-Some-clause-width
returns-in-Some-clause-width c is =
    sym (width_there c.args.cells.now c.args.net.0 c.in-Some.cell.now c.in-Some.ensures.lookup.3.0 c.in-Some.ensures.lookup.1) ∙ eqb-true c.in-Some.cell.now.width c.args.width is
