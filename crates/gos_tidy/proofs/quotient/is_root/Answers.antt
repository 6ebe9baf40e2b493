use Rattle.std.proofs.Common.{map}
use Rattle.gos_netlist.specs.Seen.{cell_of}
use Rattle.gos_netlist.specs.Settling.{at}
use Rattle.gos_tidy.proofs.RootLemmas.{root_right}
use Rattle.gos_tidy.proofs.quotient.is_root.Goals as goal

pub returns-then-target-place : goal.returns-then-target-place
returns-then-target-place c so =
    root_right (map cell_of c.args.cells.now) (map cell_of c.args.others.now) (at c.args.targets.now) c.args.place c.args.root c.entry-target.result
    (cell_of c.in-Some.cell.now) (cell_of c.renamed_cell-read.result) c.in-Some.ensures.some c.entry-target.ensures c.renamed_cell-read.ensures
    c.if-target-place.true (c.stays.ensures so)
