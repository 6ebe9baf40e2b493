use Rattle.std.specs.Prelude.{map, IfSome}
use Rattle.std.proofs.Common.{sym, subst}
use Rattle.gos_netlist.specs.declared.nets.Gate as declared
use Rattle.gos_netlist.specs.Nets.{Mux, Gate}
use Rattle.gos_netlist.specs.Seen.{cell_of, function_of}
use Rattle.gos_tidy.specs.inner.Breaches.{Allows}
use Rattle.gos_tidy.proofs.BreachLemmas.{at_width}
use Rattle.gos_tidy.proofs.breach.short_change.Goals as goal

pub returns-in-Mux-clause-allows : goal.returns-in-Mux-clause-allows
returns-in-Mux-clause-allows c =
    let cells = map cell_of c.args.cells.now in
    subst (λ (g : declared.Gate). IfSome c.chosen_change.result (Allows cells c.args.width (function_of g))) (sym c.in-Mux.is)
    (at_width cells c.args.width (Mux c.in-Mux.s.0 c.in-Mux.a.0 c.in-Mux.b.0) c.chosen_change.result c.chosen_change.ensures.allows)

pub returns-in-Gate-clause-allows : goal.returns-in-Gate-clause-allows
returns-in-Gate-clause-allows c =
    let cells = map cell_of c.args.cells.now in
    subst (λ (g : declared.Gate). IfSome c.through_change.result (Allows cells c.args.width (function_of g))) (sym c.in-Gate.is)
    (at_width cells c.args.width (Gate c.in-Gate.s.0 c.in-Gate.a.0) c.through_change.result c.through_change.ensures.allows)
