use Rattle.gos_netcheck.proofs.CellLemmas.{width_there}
use Rattle.gos_netcheck.proofs.cells.width_of.Goals as goal

pub returns-in-Some : goal.returns-in-Some
returns-in-Some c = width_there c.args.cells.now c.args.net.0 c.in-Some.cell.now c.in-Some.ensures.lookup.3.0 c.in-Some.ensures.lookup.1
