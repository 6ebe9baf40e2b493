use Rattle.std.specs.Prelude.{Option, IfSome}
use Rattle.std.proofs.Common.{subst}
use Rattle.gos_netlist.specs.Nets.{Netlist}
use Rattle.gos_tidy.specs.Reduced.{IsReduced, Reduces}
use Rattle.gos_tidy.specs.Tidy.{AllLead}
use Rattle.gos_tidy.specs.inner.Places.{port_nets}
use Rattle.gos_tidy.proofs.RoundLemmas.{first_step, next_step}
use Rattle.gos_tidy.proofs.rounds.steady_rounds.Goals as goal

pub loop-init : goal.loop-init
loop-init c =
    let other : Netlist = c.in_ok-other.other in
    let Reduced : Netlist → Type 0 = λ net. IsReduced net other in
    first_step c.args.net.now other c.netlist.ensures.accepted c.netlist.ensures.few (subst Reduced c.netlist.ensures.value c.in_ok-other.ensures.reduced)
    c.in_ok-other.ensures.lead

pub loop-preserved : goal.loop-preserved
loop-preserved c =
    let Reduced : Option Netlist → Type 0 = λ o. IfSome o (Reduces c.loop.other) in
    let Lead : Option Netlist → Type 0 = λ o. IfSome o (λ (x : Netlist). AllLead x.cells (port_nets x.ports)) in
    next_step c.args.net.now c.loop.other c.in-Some.next c.loop.invariant (subst Reduced c.in-Some.is c.in_ok-next.ensures.reduces)
    (subst Lead c.in-Some.is c.in_ok-next.ensures.lead)
