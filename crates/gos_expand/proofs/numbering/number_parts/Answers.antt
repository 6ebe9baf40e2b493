use Rattle.std.proofs.Common.{◌≡◌, ◌∷◌, [], ◌++◌, ◌+◌, ℕ, List, map, take, length, ◌<◌, sym, ap, subst, ◌∙◌, arith}
use Rattle.std.specs.Option.{option_copied}
use Rattle.std.proofs.lemmas.List.{length-map, map-append}
use Rattle.gos_plan.specs.Kinds.{Part}
use Rattle.gos_plan.specs.Seen.{part_of}
use Rattle.gos_expand.specs.Blocks.{Nets}
use Rattle.gos_expand.specs.Gates.{Making, part_size}
use Rattle.gos_expand.specs.inner.Orders.{making_of, making_in, IsOrderOf}
use Rattle.gos_expand.specs.inner.Tokens.{held_nets}
use Rattle.gos_expand.specs.inner.Departures.{part_departures, departures_from}
use Rattle.gos_expand.proofs.BlockLemmas.{item_mapped, total_more}
use Rattle.gos_expand.proofs.NumberLemmas.{shakes_more, shakes_within}
use Rattle.gos_expand.proofs.DepartureLemmas.{departures_more}
use Rattle.gos_expand.proofs.numbering.number_parts.Goals as goal

pub part_cells-size-requires-clause-order : goal.part_cells-size-requires-clause-order
part_cells-size-requires-clause-order c =
    let k : Part = part_of c.index-kinds-index.result in
    let there = item_mapped part_of c.loop-index.index c.parts-kinds.result.now c.args.plan.now.parts c.index-kinds-index.result c.parts-kinds.ensures.value c.loop-index-test.true c.index-kinds-index.is in
    subst (λ (m : Making). IsOrderOf m k) (sym (ap making_of c.get-order.ensures)) (c.requires.orders c.loop-index.index k there)

pub part_departures-requires-clause-order : goal.part_departures-requires-clause-order
part_departures-requires-clause-order c =
    let k : Part = part_of c.index-kinds-index.result in
    let there = item_mapped part_of c.loop-index.index c.parts-kinds.result.now c.args.plan.now.parts c.index-kinds-index.result c.parts-kinds.ensures.value c.loop-index-test.true c.index-kinds-index.is in
    subst (λ (m : Making). IsOrderOf m k) (sym (ap making_of c.get-order.ensures)) (c.requires.orders c.loop-index.index k there)

pub loop-index-preserved : goal.loop-index-preserved
loop-index-preserved c =
    let i : ℕ = c.loop-index.index in
    let ks : List Part = map part_of c.args.plan.now.parts in
    let k : Part = part_of c.index-kinds-index.result in
    let making : ℕ → Making = making_in c.args.orders.now in
    let made : making_of (option_copied c.get-order.result) ≡ making i = ap making_of c.get-order.ensures in
    let there = item_mapped part_of i c.parts-kinds.result.now c.args.plan.now.parts c.index-kinds-index.result c.parts-kinds.ensures.value c.loop-index-test.true c.index-kinds-index.is in
    let next = c.loop-index.invariant.1 in
    let low = c.loop-index.invariant.2 in
    let size = c.part_cells-size.ensures.is ∙ ap (λ (m : Making). part_size m k) made in
    let few = c.part_cells-size.ensures.few in
    let more = total_more (λ j l. part_size (making j) l) 0 i ks k there in
    let first : 0 + i ≡ i = omega arith in
    let same : part_size (making (0 + i)) k ≡ part_size (making i) k = ap (λ (j : ℕ). part_size (making j) k) first in
    let shakes = shakes_more i ks k there in
    let nets : List Nets = map held_nets c.in_ok-part_departures.field-0.items in (
      ap (map (λ s. map held_nets s.items)) c.in_ok-push.ensures.items
          ∙ (map-append (λ s. map held_nets s.items) c.loop-index.parts.items _
          ∙ (ap (λ (ns : List (List Nets)). ns ++ nets ∷ []) c.loop-index.invariant.0
          ∙ (ap (λ (n : List Nets). departures_from making 0 c.args.from (take i ks) ++ n ∷ []) (c.in_ok-part_departures.ensures ∙ (λ x. part_departures (made x) k (next x)))
          ∙ sym (departures_more making c.args.from i ks k there)))),
      omega (arith, next, more, size, same),
      omega (arith, low, few, shakes),
    )

pub part_departures-requires-clause-numbered : goal.part_departures-requires-clause-numbered
part_departures-requires-clause-numbered c =
    let i : ℕ = c.loop-index.index in
    let ks : List Part = map part_of c.args.plan.now.parts in
    let there = item_mapped part_of i c.parts-kinds.result.now c.args.plan.now.parts c.index-kinds-index.result c.parts-kinds.ensures.value c.loop-index-test.true c.index-kinds-index.is in
    let within : i < length c.parts-kinds.result.now = c.loop-index-test.true in
    let count : length c.parts-kinds.result.now ≡ length c.args.plan.now.parts = ap length c.parts-kinds.ensures.value in
    let counts = length-map c.args.plan.now.parts part_of in
    let low = c.loop-index.invariant.2 in
    let size = c.part_cells-size.ensures.is in
    let few = c.part_cells-size.ensures.few in
    let more = shakes_more i ks (part_of c.index-kinds-index.result) there in
    let all = shakes_within (i + 1) ks in
    let whole = c.requires.size in
    let room = c.requires.room in
    omega (arith, within, count, counts, low, size, few, more, all, whole, room)

pub overflow_add-next : goal.overflow_add-next
overflow_add-next c =
    let i : ℕ = c.loop-index.index in
    let ks : List Part = map part_of c.args.plan.now.parts in
    let there = item_mapped part_of i c.parts-kinds.result.now c.args.plan.now.parts c.index-kinds-index.result c.parts-kinds.ensures.value c.loop-index-test.true c.index-kinds-index.is in
    let within : i < length c.parts-kinds.result.now = c.loop-index-test.true in
    let count : length c.parts-kinds.result.now ≡ length c.args.plan.now.parts = ap length c.parts-kinds.ensures.value in
    let counts = length-map c.args.plan.now.parts part_of in
    let low = c.loop-index.invariant.2 in
    let few = c.part_cells-size.ensures.few in
    let more = shakes_more i ks (part_of c.index-kinds-index.result) there in
    let all = shakes_within (i + 1) ks in
    let whole = c.requires.size in
    let room = c.requires.room in
    omega (arith, within, count, counts, low, few, more, all, whole, room)
