use Rattle.std.proofs.Common.{◌≡◌, ◌*◌, ℕ, length, sym, ap, subst, ◌∙◌, arith}
use Rattle.std.proofs.lemmas.List.{length-map}
use Rattle.gos_order.specs.Rings.{Graph}
use Rattle.gos_plan.specs.Plans.{Plan}
use Rattle.gos_plan.specs.Seen.{plan_of, part_of, joint_of}
use Rattle.gos_expand.specs.inner.Directions.{directions}
use Rattle.gos_expand.specs.inner.Orders.{making_in}
use Rattle.gos_expand.specs.inner.Choosing.{AreWithin}
use Rattle.gos_expand.proofs.TableLemmas.{joints_small, ways_within, few_by, graph_by}
use Rattle.gos_expand.proofs.choosing.few.Goals as goal

pub add_parts-requires-clause-small : goal.add_parts-requires-clause-small
add_parts-requires-clause-small c =
    let p : Plan = plan_of c.args.plan.now in
    let size = c.requires.size in
    let value = ap length c.joints.ensures.value in
    let count = length-map c.args.plan.now.joints joint_of in
    joints_small p c.in_ok-table.table c.in_ok-table.ensures (omega (arith, size, count))

pub add_parts-requires-clause-within : goal.add_parts-requires-clause-within
add_parts-requires-clause-within c =
    let p : Plan = plan_of c.args.plan.now in
    let value = ap length c.joints.ensures.value in
    let count = length-map c.args.plan.now.joints joint_of in
    let all : directions p ≡ 2 * length c.joints.result.now = omega (arith, value, count) in
    subst (λ (d : ℕ). AreWithin d c.in_ok-table.table) all (ways_within p c.in_ok-table.table c.in_ok-table.ensures c.joints.ensures.right)

pub returns-clause-few : goal.returns-clause-few
returns-clause-few c =
    let p : Plan = plan_of c.args.plan.now in
    let value = ap length c.joints.ensures.value in
    let count = length-map c.args.plan.now.joints joint_of in
    let all : 2 * length c.joints.result.now ≡ directions p = omega (arith, value, count) in
    few_by (making_in c.args.orders.now) p (2 * length c.joints.result.now) (length c.args.plan.now.parts) c.in_ok-table.table c.in_ok-graph.graph.edges
    c.add_parts.new.graph.edges c.in_ok-keeps.keeps.items all (sym (length-map c.args.plan.now.parts part_of)) c.in_ok-table.ensures c.joints.ensures.right
    (ap (λ (g : Graph). g.edges) c.in_ok-graph.ensures) c.in_ok-add_parts.ensures.added c.in_ok-keeps.ensures.few c.in_ok-keeps.ensures.all

pub returns-clause-graph : goal.returns-clause-graph
returns-clause-graph c =
    let p : Plan = plan_of c.args.plan.now in
    let value = ap length c.joints.ensures.value in
    let count = length-map c.args.plan.now.joints joint_of in
    let all : 2 * length c.joints.result.now ≡ directions p = omega (arith, value, count) in
    graph_by (making_in c.args.orders.now) p (2 * length c.joints.result.now) (length c.args.plan.now.parts) c.in_ok-table.table c.in_ok-graph.graph.edges
    c.add_parts.new.graph c.choose.new.graph c.in_ok-keeps.keeps.items all (sym (length-map c.args.plan.now.parts part_of)) c.in_ok-table.ensures
    c.joints.ensures.right (ap (λ (g : Graph). g.edges) c.in_ok-graph.ensures) c.in_ok-add_parts.ensures.added
    (c.add_parts.ensures.nodes ∙ ap (λ (g : Graph). g.nodes) c.in_ok-graph.ensures) c.in_ok-keeps.ensures.nodes c.in_ok-keeps.ensures.edges
    c.in_ok-keeps.ensures.all
