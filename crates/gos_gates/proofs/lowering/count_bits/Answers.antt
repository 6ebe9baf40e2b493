use Rattle.std.specs.Prelude.{map}
use Rattle.std.proofs.Common.{arith}
use Rattle.gos_netlist.specs.Seen.{cell_of}
use Rattle.gos_gates.specs.Lowered.{units}
use Rattle.gos_gates.proofs.SumLemmas.{cells_more, width_low}
use Rattle.gos_gates.proofs.lowering.count_bits.Goals as goal

pub loop-cell-preserved : goal.loop-cell-preserved
loop-cell-preserved c =
    let more = cells_more (units (map cell_of c.args.cells.now)) c.args.cells.now c.loop-cell.cell-index c.loop-cell-test.true in
    let low = width_low c.args.cells.now c.loop-cell.cell-index c.requires.widths in
    record {
      sum = omega (arith, c.loop-cell.invariant.sum, c.from.ensures, c.pin_bits.ensures.sum, more);
      few = omega (arith, c.loop-cell.invariant.few, c.from.ensures, c.pin_bits.ensures.few, low);
    }
