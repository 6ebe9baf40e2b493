use Rattle.std.specs.Option.{option_copied}
use Rattle.gos_expand.specs.inner.Orders.{making_of}
use Rattle.gos_expand.proofs.NumberLemmas.{size_for}
use Rattle.gos_expand.proofs.numbering.part_cells.Goals as goal

pub returns-clause-is : goal.returns-clause-is
returns-clause-is c = size_for (making_of (option_copied c.args.order)) c.args.kind.now c.size.result (rw (← c.gates_of.ensures.is) c.size.ensures.cells)
