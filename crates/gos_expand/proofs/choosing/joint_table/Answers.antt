use Rattle.std.proofs.Common.{ℕ, List, length, slice_index_or, subst, ap, arith}
use Rattle.gos_plan.specs.declared.plan.Joint as declared
use Rattle.gos_plan.specs.declared.plan.End.TheVariants as ends
use Rattle.gos_plan.specs.Plans.{Joint, Plan}
use Rattle.gos_plan.specs.Seen.{plan_of, joint_of}
use Rattle.gos_expand.specs.inner.Arrivals.{AreAt}
use Rattle.gos_expand.specs.inner.Choosing.{joint_among}
use Rattle.gos_expand.proofs.CountLemmas.{indexed_mapped}
use Rattle.gos_expand.proofs.NumberLemmas.{all_mapped}
use Rattle.gos_expand.proofs.JointLemmas.{joint_filled}
use Rattle.gos_expand.proofs.choosing.joint_table.Goals as goal

pub loop-index-preserved : goal.loop-index-preserved
loop-index-preserved c =
    let p : Plan = plan_of c.args.plan.now in
    let i : ℕ = c.loop-index.index in
    let none : declared.Joint = record { asks = ends.Part 0 0; serves = ends.Part 0 0 } in
    let joint : Joint = joint_of (slice_index_or c.joints-joints.result.now i none) in
    let there = indexed_mapped joint_of i c.joints-joints.result.now c.args.plan.now.joints none c.joints-joints.ensures.value c.loop-index-test.true in
    joint_filled p i joint there c.loop-index.table c.fill.new.self c.fill-in-loop-index.new.self c.loop-index.invariant c.fill.ensures
    c.fill-in-loop-index.ensures

pub returns : goal.returns
returns c =
    let p : Plan = plan_of c.args.plan.now in
    let long = ap length c.joints-joints.ensures.value in
    let end = c.loop-index-test.false in
    let all = all_mapped joint_of c.loop-index.index c.args.plan.now.joints (omega (arith, long, end)) in
    subst (λ (js : List Joint). AreAt p (joint_among 0 js) c.loop-index.table) all c.loop-index.invariant
