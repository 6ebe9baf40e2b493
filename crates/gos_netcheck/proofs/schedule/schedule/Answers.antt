use Rattle.std.proofs.Common.{List, map, arith, sym, ◌∙◌}
use Rattle.std.proofs.lemmas.Bool.{eqb-true}
use Rattle.std.proofs.lemmas.List.{length-map}
use Rattle.gos_netlist.specs.Nets.{Cell}
use Rattle.gos_netlist.specs.Seen.{cell_of}
use Rattle.gos_netcheck.proofs.StepLemmas.{stands_last}
use Rattle.gos_netcheck.proofs.schedule.schedule.Goals as goal

pub returns-then-next-cells-clause-order : goal.returns-then-next-cells-clause-order
returns-then-next-cells-clause-order c =
    let cells : List Cell = map cell_of c.args.cells.now in
    let none = eqb-true c.loop-alloc.search.path.len 0 (sym c.is_empty.ensures ∙ c.if-is_empty.true) in
    stands_last cells c.loop-alloc.search c.loop-alloc.invariant.0 none
    (λ n l. c.loop-alloc.invariant.2 n (omega (arith, l, c.if-next-cells.true, length-map c.args.cells.now cell_of)))
