use Rattle.std.proofs.Common.{◌≡◌, ◌++◌, ◌∙◌, ℕ, List, Some, length, sym, ap, subst, arith}
use Rattle.gos_netlist.specs.Nets.{Cell}
use Rattle.gos_pool.specs.Pools.{Pool}
use Rattle.gos_plan.specs.declared.kinds.Kind.{Kind}
use Rattle.gos_plan.specs.Kinds.{Part}
use Rattle.gos_macro.specs.Gates.{Incoming}
use Rattle.gos_plan.specs.Plans.{Plan}
use Rattle.gos_macro.specs.Wires.{incoming_of}
use Rattle.gos_plan.specs.Seen.{plan_of, part_of}
use Rattle.gos_expand.specs.Starts.{Laying}
use Rattle.gos_expand.specs.declared.gates.Gates.{Gates}
use Rattle.gos_expand.specs.Gates.{Making, layout, part_size}
use Rattle.gos_expand.specs.inner.Orders.{making_of, making_in, IsOrderOf}
use Rattle.std.specs.Option.{option_copied}
use Rattle.gos_expand.specs.inner.Dispatch.{gates_for, cells_in}
use Rattle.gos_expand.specs.inner.Tokens.{Places}
use Rattle.gos_expand.specs.Laid.{incoming, part_cells}
use Rattle.gos_expand.proofs.BlockLemmas.{item_mapped}
use Rattle.gos_expand.proofs.GroupLemmas.{layout_length}
use Rattle.gos_expand.proofs.EndLemmas.{part_ends_within}
use Rattle.gos_expand.proofs.NumberLemmas.{cells_for}
use Rattle.gos_expand.proofs.PlacingLemmas.{region_placed}
use Rattle.gos_expand.proofs.WireLemmas.{same_nets}
use Rattle.gos_expand.specs.inner.Numbering.{laying_in}
use Rattle.gos_expand.proofs.placing.place_part.Goals as goal

-- the cells of these gates, and their number
laid : (g : Gates) (n m : Making) (k : Kind) (b : ℕ) (i : Incoming) → g ≡ gates_for n k → n ≡ m → cells_in g b i ≡ layout m (part_of k) b i
laid g n m k b i is made =
    ap (λ (h : Gates). cells_in h b i) is
    ∙ (ap (λ (f : ℕ → Incoming → List Cell). f b i) (cells_for n k) ∙ ap (λ (o : Making). layout o (part_of k) b i) made)

sized : (g : Gates) (n m : Making) (k : Kind) (b : ℕ) (i : Incoming) → g ≡ gates_for n k → n ≡ m → length (cells_in g b i) ≡ part_size m (part_of k)
sized g n m k b i is made = ap (λ (cs : List Cell). length cs) (laid g n m k b i is made) ∙ layout_length m (part_of k) b i

pub gates_of-gates-requires-clause-order : goal.gates_of-gates-requires-clause-order
gates_of-gates-requires-clause-order c =
    let k : Kind = c.index-parts-index.result in
    let there = item_mapped part_of c.args.index c.parts.result.now c.args.plan.now.parts k c.parts.ensures.value (rw (c.parts.ensures.value) c.requires.there) c.index-parts-index.is in
    subst (λ (m : Making). IsOrderOf m (part_of k)) (sym (ap making_of c.get.ensures)) (c.requires.numbered.of_orders c.args.index (part_of k) there)

pub outs-requires-clause-numbered : goal.outs-requires-clause-numbered
outs-requires-clause-numbered c =
    let lay : Laying = laying_in c.args.numbering.now in
    let k : Kind = c.index-parts-index.result in
    let p : Plan = plan_of c.args.plan.now in
    let there = item_mapped part_of c.args.index c.parts.result.now c.args.plan.now.parts k c.parts.ensures.value (rw (c.parts.ensures.value) c.requires.there) c.index-parts-index.is in
    let size = sized c.gates_of-gates.result (making_of (option_copied c.get.result)) (making_in c.args.numbering.now.orders.now c.args.index) k c.start.result (incoming_of c.wire_part.new.wires) c.gates_of-gates.ensures.is (ap making_of c.get.ensures) in
    let within = part_ends_within lay p c.args.index (part_of k) there in
    let first = c.start.ensures in
    let begin = c.begin-region.ensures.start in
    let start = c.requires.start in
    let whole = c.requires.numbered.whole in
    let room = c.requires.numbered.room in
    omega (arith, size, within, first, begin, start, whole, room)

pub place-requires-clause-spare : goal.place-requires-clause-spare
place-requires-clause-spare c =
    let k : Kind = c.index-parts-index.result in
    let there = item_mapped part_of c.args.index c.parts.result.now c.args.plan.now.parts k c.parts.ensures.value (rw (c.parts.ensures.value) c.requires.there) c.index-parts-index.is in
    let size = sized c.gates_of-gates.result (making_of (option_copied c.get.result)) (making_in c.args.numbering.now.orders.now c.args.index) k c.begin-region.result (incoming_of c.outs.new.wires) c.gates_of-gates.ensures.is (ap making_of c.get.ensures) in
    let same = ap (λ (q : Pool). q.spare) c.begin-region.ensures.begun in
    let spare = c.requires.spare (part_of k) there in
    omega (arith, size, same, spare)

pub place-requires-clause-numbered : goal.place-requires-clause-numbered
place-requires-clause-numbered c =
    let lay : Laying = laying_in c.args.numbering.now in
    let k : Kind = c.index-parts-index.result in
    let p : Plan = plan_of c.args.plan.now in
    let there = item_mapped part_of c.args.index c.parts.result.now c.args.plan.now.parts k c.parts.ensures.value (rw (c.parts.ensures.value) c.requires.there) c.index-parts-index.is in
    let size = sized c.gates_of-gates.result (making_of (option_copied c.get.result)) (making_in c.args.numbering.now.orders.now c.args.index) k c.begin-region.result (incoming_of c.outs.new.wires) c.gates_of-gates.ensures.is (ap making_of c.get.ensures) in
    let within = part_ends_within lay p c.args.index (part_of k) there in
    let begin = c.begin-region.ensures.start in
    let start = c.requires.start in
    let whole = c.requires.numbered.whole in
    let room = c.requires.numbered.room in
    omega (arith, size, within, begin, start, whole, room)

pub finish-requires-clause-spare : goal.finish-requires-clause-spare
finish-requires-clause-spare c =
    let k : Kind = c.index-parts-index.result in
    let there = item_mapped part_of c.args.index c.parts.result.now c.args.plan.now.parts k c.parts.ensures.value (rw (c.parts.ensures.value) c.requires.there) c.index-parts-index.is in
    let size = sized c.gates_of-gates.result (making_of (option_copied c.get.result)) (making_in c.args.numbering.now.orders.now c.args.index) k c.begin-region.result (incoming_of c.outs.new.wires) c.gates_of-gates.ensures.is (ap making_of c.get.ensures) in
    let same = ap (λ (q : Pool). q.spare) c.begin-region.ensures.begun in
    let spare = c.requires.spare (part_of k) there in
    let placed = c.place.ensures.spare in
    omega (arith, size, same, spare, placed)

pub returns : goal.returns
returns c = λ part at.
    let lay : Laying = laying_in c.args.numbering.now in
    let k : Kind = c.index-parts-index.result in
    let p : Plan = plan_of c.args.plan.now in
    let there = item_mapped part_of c.args.index c.parts.result.now c.args.plan.now.parts k c.parts.ensures.value (rw (c.parts.ensures.value) c.requires.there) c.index-parts-index.is in
    let found : Some (part_of k) ≡ Some part = sym there ∙ at in
    let is : part_of k ≡ part = cc found in
    let size = sized c.gates_of-gates.result (making_of (option_copied c.get.result)) (making_in c.args.numbering.now.orders.now c.args.index) k c.begin-region.result (incoming_of c.outs.new.wires) c.gates_of-gates.ensures.is (ap making_of c.get.ensures) in
    let same = ap (λ (q : Pool). q.spare) c.begin-region.ensures.begun in
    let spare = c.requires.spare (part_of k) there in
    let placed = c.place.ensures.spare in
    let nets : incoming_of c.outs.new.wires ≡ incoming lay p c.args.index = same_nets c.outs.new.wires c.wire_part.new.wires c.outs.ensures.rest ∙ c.wire_part.ensures.nets in
    let cells : cells_in c.gates_of-gates.result c.begin-region.result (incoming_of c.outs.new.wires) ≡ part_cells lay p c.args.index (part_of k) =
    laid c.gates_of-gates.result (making_of (option_copied c.get.result)) (making_in c.args.numbering.now.orders.now c.args.index) k c.begin-region.result (incoming_of c.outs.new.wires) c.gates_of-gates.ensures.is (ap making_of c.get.ensures)
    ∙ (ap (λ (i : Incoming). layout (lay.making c.args.index) (part_of k) c.begin-region.result i) nets
    ∙ ap (λ (b : ℕ). layout (lay.making c.args.index) (part_of k) b (incoming lay p c.args.index)) (c.begin-region.ensures.start ∙ c.requires.start)) in
    let counts = ap (λ (cs : List Cell). length cs) cells in
    let inner : Places c.begin-region.new.self c.place.new.pool (part_cells lay p c.args.index (part_of k)) 0 =
    record {
      cells = c.place.ensures.cells ∙ ap (λ (cs : List Cell). c.begin-region.new.self.cells ++ cs) cells;
      spare = omega (arith, placed, counts);
      begun = c.place.ensures.begun;
    } in
    subst (λ (q : Part). Places c.args.pool.now c.finish.new.self (part_cells lay p c.args.index q) 1) is
    (region_placed c.args.pool.now c.begin-region.new.self c.place.new.pool c.finish.new.self c.begin-region.result _ (part_cells lay p c.args.index (part_of k)) c.begin-region.ensures.begun inner
    c.finish.ensures.closed (omega (arith, size, same, spare, placed)) c.requires.begun)
