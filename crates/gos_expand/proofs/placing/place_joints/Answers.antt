use Rattle.std.proofs.Common.{◌≡◌, ◌∙◌, ℕ, List, length, ap, arith, slice_index_or}
use Rattle.std.proofs.lemmas.List.{length-map}
use Rattle.gos_pool.specs.Pools.{Pool}
use Rattle.gos_plan.specs.declared.plan.Joint as declared
use Rattle.gos_plan.specs.declared.plan.End.TheVariants as ends
use Rattle.gos_plan.specs.Plans.{Joint, Plan}
use Rattle.gos_plan.specs.Seen.{plan_of, joint_of}
use Rattle.gos_expand.specs.Starts.{Laying, joint_size}
use Rattle.gos_expand.specs.Laid.{joint_cells}
use Rattle.gos_expand.proofs.CountLemmas.{indexed_mapped, asking_there, serving_there}
use Rattle.gos_expand.proofs.GroupLemmas.{joint_length}
use Rattle.gos_expand.proofs.SeatLemmas.{joint_fits}
use Rattle.gos_expand.proofs.PlacingLemmas.{block_placed, block_fits}
use Rattle.gos_expand.specs.inner.Numbering.{laying_in}
use Rattle.gos_expand.proofs.placing.place_joints.Goals as goal

pub place_joint-requires-clause-index : goal.place_joint-requires-clause-index
place_joint-requires-clause-index c =
    let p : Plan = plan_of c.args.plan.now in
    let within = c.loop-index-test.true in
    let all = ap (λ (js : List declared.Joint). length js) c.joints-joints.ensures.value in
    let count = length-map c.args.plan.now.joints joint_of in
    let size = c.requires.size in
    omega (arith, within, all, count, size)

pub place_joint-requires-clause-asks : goal.place_joint-requires-clause-asks
place_joint-requires-clause-asks c =
    let p : Plan = plan_of c.args.plan.now in
    let none : declared.Joint = record { asks = ends.Part 0 0; serves = ends.Part 0 0 } in
    let there = indexed_mapped joint_of c.loop-index.index c.joints-joints.result.now c.args.plan.now.joints none c.joints-joints.ensures.value c.loop-index-test.true in
    asking_there p _ (joint_fits p _ p.joints c.loop-index.index (joint_of (slice_index_or c.joints-joints.result.now c.loop-index.index none)) c.joints-joints.ensures.right there)

pub place_joint-requires-clause-serves : goal.place_joint-requires-clause-serves
place_joint-requires-clause-serves c =
    let p : Plan = plan_of c.args.plan.now in
    let none : declared.Joint = record { asks = ends.Part 0 0; serves = ends.Part 0 0 } in
    let there = indexed_mapped joint_of c.loop-index.index c.joints-joints.result.now c.args.plan.now.joints none c.joints-joints.ensures.value c.loop-index-test.true in
    serving_there p _ (joint_fits p _ p.joints c.loop-index.index (joint_of (slice_index_or c.joints-joints.result.now c.loop-index.index none)) c.joints-joints.ensures.right there)

pub place_joint-requires-clause-spare : goal.place_joint-requires-clause-spare
place_joint-requires-clause-spare c =
    let lay : Laying = laying_in c.args.numbering.now in
    let p : Plan = plan_of c.args.plan.now in
    let i : ℕ = c.loop-index.index in
    let none : declared.Joint = record { asks = ends.Part 0 0; serves = ends.Part 0 0 } in
    let joint : Joint = joint_of (slice_index_or c.joints-joints.result.now i none) in
    let there = indexed_mapped joint_of i c.joints-joints.result.now c.args.plan.now.joints none c.joints-joints.ensures.value c.loop-index-test.true in
    let same = ap (λ (q : Pool). q.spare) c.begin-region.ensures.begun in
    let spare = c.requires.spare in
    let size : length (joint_cells lay p i joint) ≡ joint_size lay p i joint = joint_length lay p i joint in
    let fits = block_fits (joint_cells lay p) i 0 1 p.joints joint c.begin-region.new.self c.loop-index.pool there c.loop-index.invariant.0 (omega (arith, same, spare)) in
    omega (arith, fits, size)

pub loop-index-preserved : goal.loop-index-preserved
loop-index-preserved c =
    let lay : Laying = laying_in c.args.numbering.now in
    let p : Plan = plan_of c.args.plan.now in
    let i : ℕ = c.loop-index.index in
    let none : declared.Joint = record { asks = ends.Part 0 0; serves = ends.Part 0 0 } in
    let joint : Joint = joint_of (slice_index_or c.joints-joints.result.now i none) in
    let there = indexed_mapped joint_of i c.joints-joints.result.now c.args.plan.now.joints none c.joints-joints.ensures.value c.loop-index-test.true in (
      block_placed (joint_cells lay p) i 0 0 p.joints joint c.begin-region.new.self c.loop-index.pool c.place_joint.new.pool there c.loop-index.invariant.0 c.place_joint.ensures.placed,
      c.place_joint.ensures.region ∙ c.loop-index.invariant.1,
    )
