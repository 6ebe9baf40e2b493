use Rattle.std.specs.Prelude.{◌≡◌, ◌<◌, ℕ, List, All, IfOk, filter, length, map, not}
use Rattle.std.proofs.Common.{arith, ap, sym, subst, ◌∙◌}
use Rattle.std.proofs.lemmas.List.{length-map}
use Rattle.std.proofs.lemmas.List.Elements.{All-weaker}
use Rattle.gos_netlist.specs.Nets.{Netlist}
use Rattle.gos_netlist.specs.Seen.{cell_of}
use Rattle.gos_gates.specs.Gates.{Gates}
use Rattle.gos_gates.specs.Lowered.{function_at, input_nets, is_input, output_nets, port_nets, registers}
use Rattle.gos_gates.specs.inner.Laying.{circuit_from, held_nets}
use Rattle.gos_gates.proofs.lowering.lowered.Goals as goal

pub circuit-requires-clause-inputs : goal.circuit-requires-clause-inputs
circuit-requires-clause-inputs c =
    let whole : map cell_of c.net.inside.cells.items ≡ c.args.net.now.cells = ap (λ (n : Netlist). n.cells) c.net.view_is in
    let first : map cell_of c.deref.result.now ≡ c.args.net.now.cells = ap (map cell_of) c.deref.ensures.value ∙ whole in
    let fifth : map cell_of c.deref-5.result.now ≡ c.args.net.now.cells = ap (map cell_of) c.deref-5.ensures.value ∙ whole in
    let ports : c.deref-2.result.now ≡ c.args.net.now.ports = c.deref-2.ensures.value ∙ ap (λ (n : Netlist). n.ports) c.net.view_is in
    let nets : c.deref-6.result.now ≡ input_nets c.args.net.now =
    c.deref-6.ensures.value ∙ (c.in_ok-ends.ensures.inputs ∙ (λ j. filter (λ n. is_input (function_at (first j) n)) (port_nets (ports j)))) in
    let P : ℕ → Type 0 = λ n. n < length c.args.net.now.cells in
    let Q : ℕ → Type 0 = λ n. n < length c.deref-5.result.now in
    let R : List ℕ → Type 0 = λ xs. All Q xs in
    subst R (sym nets) (All-weaker P Q (λ n low. omega (arith, low, ap length fifth, length-map c.deref-5.result.now cell_of)) (input_nets c.args.net.now) c.requires.inputs)

pub circuit-requires-clause-outputs : goal.circuit-requires-clause-outputs
circuit-requires-clause-outputs c =
    let whole : map cell_of c.net.inside.cells.items ≡ c.args.net.now.cells = ap (λ (n : Netlist). n.cells) c.net.view_is in
    let first : map cell_of c.deref.result.now ≡ c.args.net.now.cells = ap (map cell_of) c.deref.ensures.value ∙ whole in
    let fifth : map cell_of c.deref-5.result.now ≡ c.args.net.now.cells = ap (map cell_of) c.deref-5.ensures.value ∙ whole in
    let ports : c.deref-2.result.now ≡ c.args.net.now.ports = c.deref-2.ensures.value ∙ ap (λ (n : Netlist). n.ports) c.net.view_is in
    let nets : c.deref-9.result.now ≡ output_nets c.args.net.now =
    c.deref-9.ensures.value ∙ (c.in_ok-ends.ensures.outputs ∙ (λ j. filter (λ n. not (is_input (function_at (first j) n))) (port_nets (ports j)))) in
    let P : ℕ → Type 0 = λ n. n < length c.args.net.now.cells in
    let Q : ℕ → Type 0 = λ n. n < length c.deref-5.result.now in
    let R : List ℕ → Type 0 = λ xs. All Q xs in
    subst R (sym nets) (All-weaker P Q (λ n low. omega (arith, low, ap length fifth, length-map c.deref-5.result.now cell_of)) (output_nets c.args.net.now) c.requires.outputs)

pub returns : goal.returns
returns c =
    let whole : map cell_of c.net.inside.cells.items ≡ c.args.net.now.cells = ap (λ (n : Netlist). n.cells) c.net.view_is in
    let first : map cell_of c.deref.result.now ≡ c.args.net.now.cells = ap (map cell_of) c.deref.ensures.value ∙ whole in
    let third : map cell_of c.deref-3.result.now ≡ c.args.net.now.cells = ap (map cell_of) c.deref-3.ensures.value ∙ whole in
    let fourth : map cell_of c.deref-4.result.now ≡ c.args.net.now.cells = ap (map cell_of) c.deref-4.ensures.value ∙ whole in
    let fifth : map cell_of c.deref-5.result.now ≡ c.args.net.now.cells = ap (map cell_of) c.deref-5.ensures.value ∙ whole in
    let ports : c.deref-2.result.now ≡ c.args.net.now.ports = c.deref-2.ensures.value ∙ ap (λ (n : Netlist). n.ports) c.net.view_is in
    let ins : c.deref-6.result.now ≡ input_nets c.args.net.now =
    c.deref-6.ensures.value ∙ (c.in_ok-ends.ensures.inputs ∙ (λ j. filter (λ n. is_input (function_at (first j) n)) (port_nets (ports j)))) in
    let outs : c.deref-9.result.now ≡ output_nets c.args.net.now =
    c.deref-9.ensures.value ∙ (c.in_ok-ends.ensures.outputs ∙ (λ j. filter (λ n. not (is_input (function_at (first j) n))) (port_nets (ports j)))) in
    let regs : c.deref-7.result.now ≡ registers c.args.net.now.cells = c.deref-7.ensures.value ∙ (c.in_ok-registers.ensures ∙ ap registers third) in
    let held : c.deref-8.result.now ≡ held_nets c.args.net.now.cells = c.deref-8.ensures.value ∙ (c.in_ok-held.ensures ∙ ap held_nets fourth) in
    let P : Gates → Type 0 = λ g. IfOk c.circuit.result (λ aig. aig ≡ g) in
    subst P (λ j. circuit_from (fifth j) (ins j) (regs j) (held j) (outs j) c.args.order.now) c.circuit.ensures
