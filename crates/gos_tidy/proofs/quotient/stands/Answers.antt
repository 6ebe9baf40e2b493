use Rattle.std.proofs.Common.{map, arith}
use Rattle.gos_netlist.specs.Nets.{Input}
use Rattle.gos_netlist.specs.Seen.{cell_of, function_of}
use Rattle.gos_netlist.specs.Settling.{at}
use Rattle.std.specs.Prelude.{◌≡◌}
use Rattle.gos_tidy.proofs.RootLemmas.{not_so, placed_short, placed_stays}
use Rattle.gos_tidy.proofs.quotient.stands.Goals as goal

pub returns-then-is_short : goal.returns-then-is_short
returns-then-is_short c =
    let other = not_so (function_of c.args.cell.now.gate ≡ Input) c.is_input.result c.is_input.ensures c.if-is_input.false in
    λ so. placed_short (map cell_of c.args.others.now) (at c.args.targets.now) c.args.roots.now c.args.net c.entry-target.result
    (cell_of c.args.cell.now) (cell_of c.renamed_cell-read.result) c.entry-target.ensures c.renamed_cell-read.ensures
    (c.has_width.ensures c.if-not-has_width.false) other (c.is_short.ensures c.if-is_short.true)

pub returns-then-entry-net-2 : goal.returns-then-entry-net-2
returns-then-entry-net-2 c =
    let other = not_so (function_of c.args.cell.now.gate ≡ Input) c.is_input.result c.is_input.ensures c.if-is_input.false in
    λ so. placed_stays (map cell_of c.args.others.now) (at c.args.targets.now) c.args.roots.now c.args.net c.entry-target.result
    (cell_of c.args.cell.now) (cell_of c.renamed_cell-read.result) c.entry-target.ensures c.renamed_cell-read.ensures
    (c.has_width.ensures c.if-not-has_width.false) other (omega (arith, c.entry-2.ensures, c.if-entry-net-2.true)) (c.stays.ensures so)
