use Rattle.std.proofs.Common.{◌≡◌, subst, sym}
use Rattle.gos_netlist.specs.Nets.{Netlist}
use Rattle.gos_plan.specs.Seen.{plan_of}
use Rattle.gos_command.proofs.EndLemmas.{of_result}
use Rattle.gos_tool.specs.declared.circuits.layout.Layout.TheVariants.{Few}
use Rattle.gos_tool.specs.circuits.Circuit.{IsCircuitOf}
use Rattle.gos_tool.proofs.lemmas.circuits.CircuitLemmas.{is_circuit}
use Rattle.gos_tool.proofs.circuits.laying.few_circuit.Goals as goal

pub returns : goal.returns
returns c =
    let root = c.args.root.now in
    let plan = plan_of c.args.plan.now in
    let net = c.in_ok-net.net in
    of_result (λ (checked : Netlist). checked ≡ net) (λ (checked : Netlist). IsCircuitOf Few root plan checked) c.accepted.result
    (λ checked same. subst (λ (n : Netlist). IsCircuitOf Few root plan n) (sym same)
    (is_circuit c.args.plan.now root net c.requires.can c.cycles_are_lists.ensures c.keeps_pace.ensures
    c.in_ok-net.ensures.laid c.in_ok-net.ensures.accepted c.in_ok-net.ensures.few))
    c.accepted.ensures
