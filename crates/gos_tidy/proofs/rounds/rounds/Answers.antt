use Rattle.std.specs.Prelude.{Option, IsNone, IfSome}
use Rattle.std.proofs.Common.{refl, sym, subst}
use Rattle.gos_netlist.specs.Nets.{Netlist}
use Rattle.gos_tidy.specs.Reduced.{IsReduced}
use Rattle.gos_tidy.specs.Tidy.{AllLead}
use Rattle.gos_tidy.specs.inner.Places.{port_nets}
use Rattle.gos_tidy.proofs.RoundLemmas.{reduced_step, last_step}
use Rattle.gos_tidy.proofs.rounds.rounds.Goals as goal

pub loop-other-init : goal.loop-other-init
loop-other-init c =
    record {
      reduces = c.in_ok-other.ensures.reduces;
      accepted = c.in_ok-other.ensures.accepted;
      few = c.in_ok-other.ensures.few;
      lead = c.in_ok-other.ensures.lead;
    }

pub loop-other-preserved : goal.loop-other-preserved
loop-other-preserved c =
    let Reduced : Option Netlist → Type 0 = λ o. IfSome o (IsReduced c.loop-other.other) in
    let Lead : Option Netlist → Type 0 = λ o. IfSome o (λ (x : Netlist). AllLead x.cells (port_nets x.ports)) in
    reduced_step c.args.net.now c.loop-other.other c.in-Some.next c.loop-other.invariant (subst Reduced c.in-Some.is c.in_ok-next.ensures.reduced)
    (subst Lead c.in-Some.is c.in_ok-next.ensures.lead)

pub returns-in-None-clause-tidied : goal.returns-in-None-clause-tidied
returns-in-None-clause-tidied c =
    last_step c.args.net.now c.loop-other.other c.in_ok-other.ensures.given c.loop-other.invariant
    (c.in_ok-next.ensures.firm (subst (λ (o : Option Netlist). IsNone o) (sym c.in-None.is) refl))
