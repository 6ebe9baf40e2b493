use Rattle.std.proofs.Common.{List, map, sym, subst}
use Rattle.gos_plan.specs.Plans.{Joint}
use Rattle.gos_plan.specs.Seen.{joint_of}
use Rattle.gos_ties.specs.Ties.{Has, joint}
use Rattle.gos_ties.specs.inner.Found.{bare, far_by}
use Rattle.gos_ties.proofs.JointLemmas.{joints_found}
use Rattle.gos_ties.proofs.RightLemmas.{right_joints}
use Rattle.gos_ties.proofs.OrderLemmas.{in_order}
use Rattle.gos_ties.proofs.joints.tied_joints.Goals as goal

pub returns-clause-joints : goal.returns-clause-joints
returns-clause-joints c = λ a b.
    let known = c.in_ok-tables.ensures in
    let t = c.in_ok-tables.tables in
    let p = bare c.args.imports.now c.args.outcome.now c.args.parts.now in
    let (sound, complete) =
    joints_found c.args.ties.now t.far.items t.numbers.points.keys p known.numbered known.far known.free a b
    in (
      (λ h. sound (subst (λ (js : List Joint). Has js (joint a b)) c.in_ok-joints.ensures h)),
      (λ k. subst (λ (js : List Joint). Has js (joint a b)) (sym c.in_ok-joints.ensures) (complete k)),
    )

pub returns-clause-right : goal.returns-clause-right
returns-clause-right c = λ weight.
    right_joints
    (record { weight = weight; imports = c.args.imports.now; outcome = c.args.outcome.now; parts = c.args.parts.now; joints = c.in_ok-joints.joints.items })
    c.args.ties.now c.in_ok-tables.tables c.requires c.in_ok-tables.ensures c.in_ok-joints.ensures

pub returns-clause-order : goal.returns-clause-order
returns-clause-order c =
    in_order (bare c.args.imports.now c.args.outcome.now c.args.parts.now) (far_by c.in_ok-tables.tables) c.args.ties.now
    (map joint_of c.in_ok-joints.joints.items) c.requires c.in_ok-joints.ensures
