use Rattle.std.proofs.Common.{◌≡◌, ◌+◌, ℕ, subst, ap, sym, arith, slice_index_or, take}
use Rattle.gos_plan.specs.declared.plan.Joint as declared
use Rattle.gos_plan.specs.declared.plan.End.TheVariants as ends
use Rattle.gos_plan.specs.Plans.{Joint, Plan}
use Rattle.gos_plan.specs.Seen.{plan_of, joint_of}
use Rattle.gos_expand.specs.Starts.{Laying, chosen, joint_size}
use Rattle.gos_expand.specs.inner.Arrivals.{AreAt, or_else, start_by, start_by_joints}
use Rattle.gos_expand.specs.inner.Numbering.{laying}
use Rattle.gos_expand.proofs.BlockLemmas.{total_more}
use Rattle.gos_expand.proofs.CountLemmas.{indexed_mapped}
use Rattle.gos_expand.proofs.NumberLemmas.{joints_step}
use Rattle.gos_expand.proofs.numbering.number_joints.Goals as goal

pub loop-index-preserved : goal.loop-index-preserved
loop-index-preserved c =
    let p : Plan = plan_of c.args.plan.now in
    let i : ℕ = c.loop-index.index in
    let low = c.loop-index.invariant.2 in
    let few = c.number_joint-next.ensures.few in
    let none : declared.Joint = record { asks = ends.Part 0 0; serves = ends.Part 0 0 } in
    let joint : Joint = joint_of (slice_index_or c.joints-joints.result.now i none) in
    let there = indexed_mapped joint_of i c.joints-joints.result.now c.args.plan.now.joints none c.joints-joints.ensures.value c.loop-index-test.true in (
      (λ making.
          let lay : Laying = laying (chosen c.args.keep.now) making in
          let table = c.loop-index.invariant.0 making in
          let next = c.loop-index.invariant.1 making in
          joints_step lay p c.args.from i p.joints joint c.number_joint-next.new.arrivals there
          (subst
          (λ (n : ℕ). AreAt p (λ e. or_else (start_by_joints lay p 0 c.args.from (take i p.joints) e) (start_by lay p i n joint e)) c.number_joint-next.new.arrivals) next
          (c.number_joint-next.ensures.table lay p i _ (sym c.kept.ensures.request) (sym c.kept.ensures.answer) table))),
      (λ making.
          let lay : Laying = laying (chosen c.args.keep.now) making in
          let table = c.loop-index.invariant.0 making in
          let next = c.loop-index.invariant.1 making in
          let more = total_more (joint_size lay p) 0 i p.joints joint there in
          let first : 0 + i ≡ i = omega arith in
          let same_size : joint_size lay p (0 + i) joint ≡ joint_size lay p i joint = ap (λ (x : ℕ). joint_size lay p x joint) first in
          let behind = c.number_joint-next.ensures.next lay p i _ (sym c.kept.ensures.request) (sym c.kept.ensures.answer) table in
          omega (arith, next, more, behind, same_size)),
      omega (arith, low, few),
    )
