use Rattle.std.specs.Prelude.{map, ℕ, ◌+◌, ◌*◌, ◌<◌, ◌≡◌, length, get_or, All}
use Rattle.std.proofs.Common.{arith, ap, subst, sym, ◌∙◌}
use Rattle.std.proofs.lemmas.List.{length-map}
use Rattle.std.proofs.lemmas.List.Elements.{All-from_recursion, All-weaker}
use Rattle.std.proofs.lemmas.Option.{slice_get-get_or}
use Rattle.gos_netlist.specs.Nets.{Cell, pins}
use Rattle.gos_netlist.specs.Seen.{cell_of}
use Rattle.gos_netlist.specs.declared.nets.Cell as declared
use Rattle.gos_netlist.specs.declared.nets.Gate.TheVariants as gates
use Rattle.gos_gates.specs.inner.Laying.{cell_at, no_cell, pin_bits, next_variable, with_function}
use Rattle.gos_gates.proofs.LayLemmas.{lay_room, lays_more, seen_cell}
use Rattle.gos_gates.proofs.laying.lay_all.Goals as goal

abbrev none : declared.Cell
none = record { width = 0; gate = gates.Input }

pub lay-requires-clause-pins : goal.lay-requires-clause-pins
lay-requires-clause-pins c =
    let net : ℕ = get_or c.args.order.now c.loop-net.net-index 0 in
    let low : net < length c.args.cells.now = c.requires.order c.loop-net.net-index 0 c.loop-net-test.true in
    let inside : net < length (map cell_of c.args.cells.now) = omega (arith, low, length-map c.args.cells.now cell_of) in
    let is : cell_at (map cell_of c.args.cells.now) net ≡ cell_of (get_or c.args.cells.now net none) = seen_cell c.args.cells.now net in
    let there = slice_get-get_or (map cell_of c.args.cells.now) net no_cell inside in
    let named = c.requires.nets net (cell_at (map cell_of c.args.cells.now) net) there in
    let P : ℕ → Type 0 = λ a. a < length (map cell_of c.args.cells.now) in
    let Q : ℕ → Type 0 = λ a. a < length c.loop-net.draft.nets in
    let R : Cell → Type 0 = λ x. All Q (pins x.gate) in
    subst R is
    (All-weaker P Q (λ a fits. omega (arith, fits, length-map c.args.cells.now cell_of, c.requires.count, c.loop-net.invariant.nets)) _
    (All-from_recursion P (pins (cell_at (map cell_of c.args.cells.now) net).gate) named))

pub lay-requires-clause-room : goal.lay-requires-clause-room
lay-requires-clause-room c =
    let net : ℕ = get_or c.args.order.now c.loop-net.net-index 0 in
    let is : cell_at (map cell_of c.args.cells.now) net ≡ cell_of (get_or c.args.cells.now net none) = seen_cell c.args.cells.now net in
    let R : Cell → Type 0 = λ x. next_variable c.loop-net.draft + 7 * pin_bits c.loop-net.draft x.gate < 2147483648 in
    subst R is (lay_room (map cell_of c.args.cells.now) c.args.order.now c.args.draft.now c.loop-net.draft c.loop-net.net-index c.loop-net.invariant c.loop-net-test.true 2147483648 c.requires.room)

pub loop-net-preserved : goal.loop-net-preserved
loop-net-preserved c =
    let net : ℕ = get_or c.args.order.now c.loop-net.net-index 0 in
    let low : net < length c.args.cells.now = c.requires.order c.loop-net.net-index 0 c.loop-net-test.true in
    let inside : net < length (map cell_of c.args.cells.now) = omega (arith, low, length-map c.args.cells.now cell_of) in
    let is : cell_at (map cell_of c.args.cells.now) net ≡ cell_of (get_or c.args.cells.now net none) = seen_cell c.args.cells.now net in
    lays_more (map cell_of c.args.cells.now) c.args.order.now c.args.draft.now c.loop-net.draft c.loop-net.net-index c.loop-net.invariant c.loop-net-test.true c.requires.widths inside c.lay.new.draft
    (c.in_ok-lay.ensures ∙ ap (λ (x : Cell). with_function net x.width x.gate c.loop-net.draft) (sym is))
