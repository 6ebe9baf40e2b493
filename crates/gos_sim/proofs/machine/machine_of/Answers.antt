use Rattle.std.proofs.Common.{List, ℕ, ◌≡◌, ◌<◌, ◌∙◌, All, Contains, ap, arith, length, map, refl, rules, subst, sym}
use Rattle.std.proofs.lemmas.List.{length-map}
use Rattle.std.proofs.lemmas.Result.{IfOk-weaker}
use Rattle.gos_netlist.specs.declared.nets.Cell as declared
use Rattle.gos_netlist.specs.declared.nets.NetId.{NetId}
use Rattle.gos_netlist.specs.Nets.{Cell, Netlist}
use Rattle.gos_netlist.specs.Seen.{cell_of, number_of}
use Rattle.gos_netlist.specs.Settling.{Numbers, at}
use Rattle.gos_sim.specs.declared.program.Latch.{Latch}
use Rattle.gos_sim.specs.declared.program.Step.{Step}
use Rattle.gos_sim.specs.EventNets.{input_events, output_events}
use Rattle.gos_sim.specs.inner.Program.{AreLatches, IsLatchWithin, IsProgram, IsStepWithin, steps_named}
use Rattle.gos_sim.specs.inner.Order.{IsOrder}
use Rattle.gos_sim.specs.inner.Places.{AreStepsMoved, IsNumbering, latch_moved, none}
use Rattle.gos_sim.specs.inner.Ready.{AreCellsReady}
use Rattle.gos_sim.proofs.MachineLemmas.{machine_made}
use Rattle.gos_sim.proofs.NumberLemmas.{places_below}
use Rattle.gos_sim.proofs.OrderLemmas.{nets_within}
use Rattle.gos_sim.proofs.ProgramLemmas.{program_of_order, steps_named_within}
use Rattle.gos_sim.proofs.machine.machine_of.Goals as goal

pub latches-requires-clause-order : goal.latches-requires-clause-order
latches-requires-clause-order c =
    let inside : c.deref.result.now ≡ c.deref-2.result.now = c.deref.ensures.value ∙ sym c.deref-2.ensures.value in
    let sorted : c.in_ok-sorted.sorted.items ≡ c.deref-3.result.now = sym c.deref-3.ensures.value in
    subst (λ (ns : List NetId). IsOrder (map cell_of c.deref-2.result.now) (map number_of ns)) sorted
    (subst (λ (cs : List declared.Cell). IsOrder (map cell_of cs) (map number_of c.in_ok-sorted.sorted.items)) inside c.in_ok-sorted.ensures.order)

pub numbered-requires-clause-nets : goal.numbered-requires-clause-nets
numbered-requires-clause-nets c =
    let cells : map cell_of c.deref.result.now ≡ c.args.net.now.cells = ap (map cell_of) c.deref.ensures.value ∙ ap (λ (n : Netlist). n.cells) c.net.view_is in
    let long : c.len.result ≡ length c.net.inside.cells.items = search rules in
    let all : c.len.result ≡ length c.args.net.now.cells = long ∙ (sym (length-map c.net.inside.cells.items cell_of) ∙ ap (λ (n : Netlist). length n.cells) c.net.view_is) in
    let here : c.deref-5.result.now ≡ c.in_ok-sorted.sorted.items = search rules in
    subst (λ (ns : List NetId). All (λ (n : NetId). n.0 < c.len.result) ns) (sym here)
    (subst (λ (k : ℕ). All (λ (n : NetId). n.0 < k) c.in_ok-sorted.sorted.items) (ap length cells ∙ sym all) (nets_within (map cell_of c.deref.result.now) c.in_ok-sorted.sorted.items c.in_ok-sorted.ensures.order))

pub numbered-requires-clause-few : goal.numbered-requires-clause-few
numbered-requires-clause-few c =
    let long : c.len.result ≡ length c.net.inside.cells.items = search rules in
    let all : c.len.result ≡ length c.args.net.now.cells = long ∙ (sym (length-map c.net.inside.cells.items cell_of) ∙ ap (λ (n : Netlist). length n.cells) c.net.view_is) in
    omega (arith, all, c.requires.few)

pub numbered-requires-clause-all : goal.numbered-requires-clause-all
numbered-requires-clause-all c = λ n below.
    let cells : map cell_of c.deref.result.now ≡ c.args.net.now.cells = ap (map cell_of) c.deref.ensures.value ∙ ap (λ (n : Netlist). n.cells) c.net.view_is in
    let long : c.len.result ≡ length c.net.inside.cells.items = search rules in
    let all : c.len.result ≡ length c.args.net.now.cells = long ∙ (sym (length-map c.net.inside.cells.items cell_of) ∙ ap (λ (n : Netlist). length n.cells) c.net.view_is) in
    let here : c.deref-5.result.now ≡ c.in_ok-sorted.sorted.items = search rules in
    subst (λ (ns : List NetId). Contains (map number_of ns) n) (sym here) (c.in_ok-sorted.ensures.order.all n (subst (λ (k : ℕ). n < k) (all ∙ sym (ap length cells)) below))

pub steps_moved-requires-clause-nets : goal.steps_moved-requires-clause-nets
steps_moved-requires-clause-nets c =
    let here : c.deref-7.result.now ≡ c.in_ok-sorted.sorted.items = c.deref-7.ensures.value in
    let inside : c.deref-6.result.now ≡ c.deref.result.now = c.deref-6.ensures.value ∙ sym c.deref.ensures.value in
    subst (λ (ns : List NetId). All (λ (n : NetId). n.0 < length c.deref-6.result.now) ns) (sym here)
    (subst (λ (k : ℕ). All (λ (n : NetId). n.0 < k) c.in_ok-sorted.sorted.items) (length-map c.deref.result.now cell_of ∙ sym (ap length inside))
    (nets_within (map cell_of c.deref.result.now) c.in_ok-sorted.sorted.items c.in_ok-sorted.ensures.order))

pub steps_moved-requires-clause-few : goal.steps_moved-requires-clause-few
steps_moved-requires-clause-few c = omega (arith, ap length c.deref-7.ensures.value, c.in_ok-sorted.ensures.each, c.requires.once, c.requires.few)

pub steps_moved-requires-clause-below : goal.steps_moved-requires-clause-below
steps_moved-requires-clause-below c =
    let of : Numbers = c.in_ok-places.places.of.items in
    subst (All (λ p. p < none)) (sym c.deref-8.ensures.value) (places_below of c.in_ok-places.places.count c.in_ok-places.ensures.numbering c.in_ok-places.ensures.few)

pub machine_at-requires-clause-each : goal.machine_at-requires-clause-each
machine_at-requires-clause-each c =
    let long : c.len.result ≡ length c.net.inside.cells.items = search rules in
    c.in_ok-places.ensures.each ∙ (long ∙ (sym (length-map c.net.inside.cells.items cell_of) ∙ ap (λ (n : Netlist). length n.cells) c.net.view_is))

pub machine_at-requires-clause-latches : goal.machine_at-requires-clause-latches
machine_at-requires-clause-latches c =
    let cells : map cell_of c.deref-2.result.now ≡ c.args.net.now.cells = ap (map cell_of) c.deref-2.ensures.value ∙ ap (λ (n : Netlist). n.cells) c.net.view_is in
    let count : length c.deref-2.result.now ≡ length c.args.net.now.cells = sym (length-map c.deref-2.result.now cell_of) ∙ ap length cells in
    subst (λ (ls : List Latch). All (IsLatchWithin (length c.args.net.now.cells)) ls) (sym c.deref-9.ensures.value)
    (subst (λ (n : ℕ). All (IsLatchWithin n) c.in_ok-latches.latches.items) count c.in_ok-latches.ensures.within)

pub returns-clause-few : goal.returns-clause-few
returns-clause-few c =
    let inside : c.deref-6.result.now ≡ c.deref-2.result.now = c.deref-6.ensures.value ∙ sym c.deref-2.ensures.value in
    let sorted : c.deref-7.result.now ≡ c.deref-3.result.now = c.deref-7.ensures.value ∙ sym c.deref-3.ensures.value in
    let steps : ℕ = length (steps_named c.deref-2.result.now (map number_of c.deref-3.result.now)) in
    let named : length (steps_named c.deref-6.result.now (map number_of c.deref-7.result.now)) ≡ steps = (λ i. length (steps_named (inside i) (map number_of (sorted i)))) in
    IfOk-weaker c.machine_at.result _ _
    (λ machine is.
    let moved = ap length is.latches ∙ (length-map c.deref-9.result.now (latch_moved (at machine.places.items)) ∙ ap length c.deref-9.ensures.value) in
    omega (arith, ap length is.steps, c.in_ok-program.ensures.each, named, moved, c.in_ok-latches.ensures.few, ap length c.deref-3.ensures.value, c.in_ok-sorted.ensures.each, c.requires.once, c.requires.few))
    c.machine_at.ensures

pub returns-clause-machine : goal.returns-clause-machine
returns-clause-machine c =
    let net = c.args.net.now in
    let of : Numbers = c.in_ok-places.places.of.items in
    let cells : map cell_of c.deref.result.now ≡ net.cells = ap (map cell_of) c.deref.ensures.value ∙ ap (λ (n : Netlist). n.cells) c.net.view_is in
    let cells_too : map cell_of c.deref-2.result.now ≡ net.cells = ap (map cell_of) c.deref-2.ensures.value ∙ ap (λ (n : Netlist). n.cells) c.net.view_is in
    let inside : c.deref-6.result.now ≡ c.deref.result.now = c.deref-6.ensures.value ∙ sym c.deref.ensures.value in
    let count : length c.deref.result.now ≡ length net.cells = sym (length-map c.deref.result.now cell_of) ∙ ap length cells in
    let count_too : length c.deref-2.result.now ≡ length net.cells = sym (length-map c.deref-2.result.now cell_of) ∙ ap length cells_too in
    let long : c.len.result ≡ length c.net.inside.cells.items = search rules in
    let all : c.len.result ≡ length net.cells = long ∙ (sym (length-map c.net.inside.cells.items cell_of) ∙ ap (λ (n : Netlist). length n.cells) c.net.view_is) in
    let order : List ℕ = map number_of c.in_ok-sorted.sorted.items in
    let steps : List Step = steps_named c.deref.result.now order in
    let ready : AreCellsReady (map cell_of c.deref.result.now) = subst AreCellsReady (sym cells) c.requires.ready.cells in
    let latches = sym c.deref-9.ensures.value in
    let moved : AreStepsMoved (at of) steps c.in_ok-program.program = (rw (inside, c.deref-7.ensures.value, c.deref-8.ensures.value) at c.in_ok-program.ensures) in
    IfOk-weaker c.machine_at.result _ _
    (λ machine is.
    machine_made net machine
    (record { inputs = input_events net; outputs = output_events net; steps = steps; latches = c.deref-9.result.now }) c.args.levels.now
    (record {
      ready = c.requires.ready;
      inputs = refl;
      outputs = refl;
      program = subst (λ (cs : List Cell). IsProgram cs steps) cells (program_of_order c.deref.result.now order ready c.in_ok-sorted.ensures.order);
      latched = subst (λ (cs : List Cell). AreLatches cs c.deref-9.result.now) cells_too
          (subst (AreLatches (map cell_of c.deref-2.result.now)) latches c.in_ok-latches.ensures.latches);
      steps_within = subst (λ (n : ℕ). All (IsStepWithin n) steps) count (steps_named_within c.deref.result.now order ready c.in_ok-sorted.ensures.order);
      latches_within = subst (λ (n : ℕ). All (IsLatchWithin n) c.deref-9.result.now) count_too
          (subst (λ (ls : List Latch). All (IsLatchWithin (length c.deref-2.result.now)) ls) latches c.in_ok-latches.ensures.within);
    })
    (ap length is.places ∙ (c.in_ok-places.ensures.each ∙ all))
    (subst (λ (n : ℕ). IsNumbering machine.places.items n) (sym is.count) (subst (λ (v : Numbers). IsNumbering v c.in_ok-places.places.count) (sym is.places) c.in_ok-places.ensures.numbering))
    is.inputs is.outputs
    (subst (AreStepsMoved (at machine.places.items) steps) (sym is.steps) (subst (λ (v : Numbers). AreStepsMoved (at v) steps c.in_ok-program.program) (sym is.places) moved))
    is.latches c.requires.leveled is.chained)
    c.machine_at.ensures
