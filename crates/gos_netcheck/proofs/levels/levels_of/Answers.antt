use Rattle.std.proofs.Common.{All, List, arith, ap, subst, sym, ◌+◌, ◌<◌, ◌^◌, ℕ, length, map}
use Rattle.std.proofs.lemmas.List.{length-map}
use Rattle.gos_netlist.specs.Seen.{cell_of, number_of}
use Rattle.gos_netcheck.proofs.LevelLemmas.{all_leveled}
use Rattle.gos_netcheck.proofs.LevelNetLemmas.{net_leveled, net_there, pins_there, room_above}
use Rattle.gos_netcheck.proofs.levels.levels_of.Goals as goal

pub bounds-cells-place : goal.bounds-cells-place
bounds-cells-place c = net_there c.args.cells.now c.args.order.now c.requires.order c.loop-net.net-index c.loop-net-test.true

pub level_of-level-requires-clause-pins : goal.level_of-level-requires-clause-pins
level_of-level-requires-clause-pins c =
    let there = pins_there c.args.cells.now c.args.order.now c.requires.order c.loop-net.net-index c.loop-net-test.true c.requires.nets in
    λ k d inside. omega (arith, there k d inside, c.loop-net.invariant.each, length-map c.args.cells.now cell_of, ap length c.deref.ensures.value)

pub level_of-level-requires-clause-room : goal.level_of-level-requires-clause-room
level_of-level-requires-clause-room c =
    let room = room_above c.args.cells.now c.args.order.now c.requires.order c.loop-net.net-index c.loop-net-test.true c.requires.few c.loop-net.levels.items c.loop-net.invariant in
    let Roomy : List ℕ → Type 0 = λ levels. All (λ l. l + 1 < 2 ^ 32) levels in
    subst Roomy (sym c.deref.ensures.value) room

pub index_mut-requires : goal.index_mut-requires
index_mut-requires c =
    let there = net_there c.args.cells.now c.args.order.now c.requires.order c.loop-net.net-index c.loop-net-test.true in
    omega (arith, there, c.loop-net.invariant.each, length-map c.args.cells.now cell_of)

pub loop-net-preserved : goal.loop-net-preserved
loop-net-preserved c =
    net_leveled c.args.cells.now c.args.order.now c.requires.order c.loop-net.net-index c.loop-net-test.true c.loop-net.levels.items c.level_of-level.result
    (rw c.deref.ensures.value at c.level_of-level.ensures.level) (rw c.deref.ensures.value at c.level_of-level.ensures.bound) c.loop-net.invariant

pub returns : goal.returns
returns c =
    all_leveled (map cell_of c.args.cells.now) (map number_of c.args.order.now) c.requires.order c.loop-net.levels.items c.loop-net.net-index
    (omega (arith, c.loop-net-test.false, length-map c.args.order.now number_of)) c.loop-net.invariant
