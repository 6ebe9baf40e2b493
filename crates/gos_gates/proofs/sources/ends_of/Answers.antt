use Rattle.std.proofs.Common.{◌≡◌, ◌++◌, ◌∙◌, ℕ, Bool, not, filter, map, get_or, ap, sym}
use Rattle.gos_netlist.specs.Nets.{NetPort}
use Rattle.gos_netlist.specs.Seen.{cell_of, number_of}
use Rattle.gos_gates.specs.Lowered.{function_at, is_input}
use Rattle.gos_gates.proofs.SumLemmas.{port_more}
use Rattle.gos_gates.proofs.sources.ends_of.Goals as goal

pub loop-port-preserved : goal.loop-port-preserved
loop-port-preserved c =
    let inward : ℕ → Bool = λ n. is_input (function_at (map cell_of c.args.cells.now) n) in
    let outward : ℕ → Bool = λ n. not (is_input (function_at (map cell_of c.args.cells.now) n)) in
    let nets : map number_of c.deref.result.now ≡ (get_or c.args.ports.now c.loop-port.port-index c.port-item.result).nets =
    ap (map number_of) c.deref.ensures.value ∙ (ap (λ (q : NetPort). q.nets) c.port.view_is ∙ ap (λ (q : NetPort). q.nets) c.port-item.is) in
    record {
      inputs = c.in_ok-add.ensures.inputs ∙ ((λ j. c.loop-port.invariant.inputs j ++ filter inward (nets j)) ∙ sym (port_more inward c.args.ports.now c.loop-port.port-index c.port-item.result c.loop-port-test.true));
      outputs = c.in_ok-add.ensures.outputs ∙ ((λ j. c.loop-port.invariant.outputs j ++ filter outward (nets j)) ∙ sym (port_more outward c.args.ports.now c.loop-port.port-index c.port-item.result c.loop-port-test.true));
    }
