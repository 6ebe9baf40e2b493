use Rattle.std.proofs.Common.{subst}
use Rattle.gos_netlist.specs.Nets.{Netlist}
use Rattle.gos_plan.specs.Seen.{plan_of}
use Rattle.gos_tidy.specs.Alike.{IsTidied}
use Rattle.gos_command.proofs.EndLemmas.{of_result}
use Rattle.gos_tool.specs.circuits.Circuit.{IsCircuitOf}
use Rattle.gos_tool.specs.declared.circuits.layout.Layout.TheVariants.{Fast}
use Rattle.gos_tool.proofs.lemmas.circuits.CircuitLemmas.{is_fast_circuit}
use Rattle.gos_tool.proofs.circuits.laying.fast_circuit.Goals as goal

pub returns : goal.returns
returns c =
    let root = c.args.root.now in
    let plan = plan_of c.args.plan.now in
    let base = c.in_ok-base.base in
    of_result (IsTidied c.in_ok-checked.checked) (IsCircuitOf Fast root plan) c.tidied.result
    (λ net tidied. is_fast_circuit c.args.plan.now root base net c.requires.can c.fast_circuits.ensures.few c.fast_circuits.ensures.lists
    c.keeps_pace.ensures c.in_ok-base.ensures.fast (subst (λ (n : Netlist). IsTidied n net) c.in_ok-checked.ensures tidied))
    c.tidied.ensures
