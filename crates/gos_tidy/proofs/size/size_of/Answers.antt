use Rattle.gos_tidy.proofs.CountLemmas.{size_step, few_step}
use Rattle.gos_tidy.proofs.size.size_of.Goals as goal

pub loop-cell-preserved : goal.loop-cell-preserved
loop-cell-preserved c = record {
  sum = size_step c.args.cells.now c.loop-cell.cell-index _ c.loop-cell.size c.weight_of-size.result c.loop-cell-test.true c.loop-cell.invariant.sum c.weight_of-size.ensures;
  few = few_step c.args.cells.now c.loop-cell.cell-index _ c.loop-cell.size c.weight_of-size.result c.loop-cell.invariant.few c.weight_of-size.ensures;
}
