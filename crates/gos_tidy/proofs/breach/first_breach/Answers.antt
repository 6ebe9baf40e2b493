use Rattle.std.specs.Prelude.{map}
use Rattle.std.proofs.Common.{arith}
use Rattle.std.proofs.lemmas.List.{length-map}
use Rattle.gos_netlist.specs.Seen.{cell_of}
use Rattle.gos_tidy.proofs.BreachLemmas.{none_of, firm_more, firm_all}
use Rattle.gos_tidy.proofs.breach.first_breach.Goals as goal

pub loop-net-preserved : goal.loop-net-preserved
loop-net-preserved c =
    let none = none_of c.in_ok-change.field-0 c.in_default.not-Some in
    (firm_more (map cell_of c.args.cells.now) c.loop-net.net c.loop-net.invariant.0 (c.in_ok-change.ensures.firm none), c.in_ok-change.ensures.table none)

pub returns-clause-firm : goal.returns-clause-firm
returns-clause-firm c = λ _.
    firm_all (map cell_of c.args.cells.now) c.loop-net.net (omega (arith, c.loop-net-test.false, length-map c.args.cells.now cell_of)) c.loop-net.invariant.0
