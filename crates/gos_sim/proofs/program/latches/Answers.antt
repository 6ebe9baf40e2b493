use Rattle.std.proofs.Common.{List, ℕ, ◌≡◌, ◌+◌, ◌≤◌, All, arith, length, map, subst, sym, take}
use Rattle.std.proofs.lemmas.List.{length-map, take_all}
use Rattle.std.proofs.lemmas.List.Elements.{All-append}
use Rattle.std.proofs.lemmas.Option.{slice_get-get_or}
use Rattle.gos_netlist.specs.Seen.{cell_of, number_of}
use Rattle.gos_sim.specs.declared.program.Latch.{Latch}
use Rattle.gos_sim.specs.inner.Program.{IsLatchWithin, steps_named}
use Rattle.gos_sim.proofs.ProgramLemmas.{below_cells, order_at}
use Rattle.gos_sim.proofs.RegisterLemmas.{AreMade, counted_more, made_more, latches_of_made, latches_at_within}
use Rattle.gos_sim.proofs.program.latches.Goals as goal

pub bounds-cells-net : goal.bounds-cells-net
bounds-cells-net c =
    below_cells c.args.cells.now (map number_of c.args.order.now) c.loop-net.net-index _ c.requires.order (order_at c.args.order.now c.loop-net.net-index _ c.loop-net-test.true)

pub loop-net-preserved : goal.loop-net-preserved
loop-net-preserved c =
    let at_i = order_at c.args.order.now c.loop-net.net-index (record { 0 = 0 }) c.loop-net-test.true in
    let below = below_cells c.args.cells.now (map number_of c.args.order.now) c.loop-net.net-index _ c.requires.order at_i in
    let at_n = slice_get-get_or c.args.cells.now _ _ below in
    record {
      index = omega (arith, c.loop-net-test.true);
      made = subst (λ (latches : List Latch). AreMade (map cell_of c.args.cells.now) (take (c.loop-net.net-index + 1) (map number_of c.args.order.now)) latches) (sym c.in_ok-add_latch.ensures)
          (made_more c.args.cells.now (map number_of c.args.order.now) c.loop-net.latches.items c.loop-net.net-index _ _ at_i at_n c.loop-net.invariant.made);
      within = subst (λ (latches : List Latch). All (IsLatchWithin (length c.args.cells.now)) latches) (sym c.in_ok-add_latch.ensures)
          (All-append (IsLatchWithin (length c.args.cells.now)) c.loop-net.latches.items _ c.loop-net.invariant.within (latches_at_within c.args.cells.now _ _ c.requires.cells at_n));
      few = subst (λ (latches : List Latch). length (steps_named c.args.cells.now (take (c.loop-net.net-index + 1) (map number_of c.args.order.now))) + length latches ≤ c.loop-net.net-index + 1)
          (sym c.in_ok-add_latch.ensures)
          (counted_more c.args.cells.now (map number_of c.args.order.now) c.loop-net.latches.items c.loop-net.net-index _ _ at_i at_n c.loop-net.invariant.few);
    }

pub returns-clause-latches : goal.returns-clause-latches
returns-clause-latches c =
    latches_of_made (map cell_of c.args.cells.now) (map number_of c.args.order.now) c.loop-net.latches.items c.loop-net.net-index c.requires.order
    (omega (arith, length-map c.args.order.now number_of, c.loop-net-test.false)) c.loop-net.invariant.made

pub returns-clause-few : goal.returns-clause-few
returns-clause-few c =
    let ns = map number_of c.args.order.now in
    let end : take c.loop-net.net-index ns ≡ ns = take_all c.loop-net.net-index ns (omega (arith, length-map c.args.order.now number_of, c.loop-net-test.false)) in
    let few = subst (λ (ms : List ℕ). length (steps_named c.args.cells.now ms) + length c.loop-net.latches.items ≤ c.loop-net.net-index) end c.loop-net.invariant.few in
    omega (arith, few, c.loop-net.invariant.index)
