use Rattle.std.proofs.Common.{◌≡◌, ◌∷◌, [], ◌++◌, ℕ, List, map, take, length, ap, sym, ◌∙◌, arith}
use Rattle.std.specs.Prelude.{Some}
use Rattle.std.proofs.lemmas.List.{map-append}
use Rattle.gos_plan.specs.Kinds.{Part}
use Rattle.gos_plan.specs.Seen.{part_of}
use Rattle.gos_expand.specs.Gates.{Making}
use Rattle.gos_expand.specs.Fast.{making_by_number}
use Rattle.gos_expand.specs.inner.Orders.{making_of, kept_order}
use Rattle.gos_expand.proofs.BlockLemmas.{item_mapped, take_one}
use Rattle.gos_expand.proofs.NumberLemmas.{all_mapped}
use Rattle.gos_expand.proofs.OrderLemmas.{kept_by_number}
use Rattle.gos_expand.proofs.orders.Orders.by_number.Goals as goal

pub loop-kind-preserved : goal.loop-kind-preserved
loop-kind-preserved c =
    let i : ℕ = c.loop-kind.kind-index in
    let ks : List Part = map part_of c.args.plan.now.parts in
    let k : Part = part_of c.kind-item.result in
    let there = item_mapped part_of i c.parts-kind-items.result.now c.args.plan.now.parts c.kind-item.result c.parts-kind-items.ensures.value c.loop-kind-test.true c.kind-item.is in
    ap (map (λ o. making_of (kept_order (Some o)))) c.in_ok-push.ensures.items
    ∙ (map-append (λ o. making_of (kept_order (Some o))) c.loop-kind.parts.items _
    ∙ (ap (λ (ms : List Making). ms ++ making_of (kept_order (Some c.in_ok-shake_numbers.field-0)) ∷ []) c.loop-kind.invariant
    ∙ (ap (λ (m : Making). map (λ l. making_by_number (Some l)) (take i ks) ++ m ∷ []) c.in_ok-shake_numbers.ensures
    ∙ sym
    (ap (map (λ l. making_by_number (Some l))) (take_one i ks k there) ∙ map-append (λ l. making_by_number (Some l)) (take i ks) (k ∷ [])))))

pub returns : goal.returns
returns c =
    let end = c.loop-kind-test.false in
    let count : length c.parts-kind-items.result.now ≡ length c.args.plan.now.parts = ap length c.parts-kind-items.ensures.value in
    let all = all_mapped part_of c.loop-kind.kind-index c.args.plan.now.parts (omega (arith, end, count)) in
    λ z i.
    kept_by_number c.loop-kind.parts.items (map part_of c.args.plan.now.parts)
    (c.loop-kind.invariant ∙ ap (map (λ l. making_by_number (Some l))) all) i z
