use Rattle.gos_netlist.specs.declared.nets.Gate.TheVariants as gates
use Rattle.gos_expand.proofs.into.place_raised.Goals as goal

pub raised_cell-requires-clause-pins : goal.raised_cell-requires-clause-pins
raised_cell-requires-clause-pins c = c.requires.pins c.loop-cell.cell-index (record { width = 0; gate = gates.Input }) c.loop-cell-test.true
