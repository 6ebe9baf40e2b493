use Rattle.std.specs.Prelude.{map}
use Rattle.std.proofs.Common.{arith}
use Rattle.gos_netlist.specs.Seen.{cell_of}
use Rattle.gos_gates.proofs.SumLemmas.{drafted, nothing_narrow}
use Rattle.gos_gates.proofs.lowering.circuit.Goals as goal

pub give_all-requires-clause-narrow : goal.give_all-requires-clause-narrow
give_all-requires-clause-narrow c = nothing_narrow (map cell_of c.args.cells.now) _ c.in_ok-draft.draft c.in_ok-draft.ensures

pub literals_of_all-requires-2 : goal.literals_of_all-requires-2
literals_of_all-requires-2 c = λ k d low.
    omega (arith, c.requires.outputs k d low, c.in_ok-lay_all.ensures.count, c.in_ok-give_all-2.ensures.count, c.in_ok-give_all.ensures.count, drafted c.args.cells.now c.in_ok-draft.draft c.in_ok-draft.ensures)
