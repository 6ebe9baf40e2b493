use Rattle.std.proofs.Common.{List, map, take, reverse}
use Rattle.std.proofs.lemmas.Option.{slice_get-get_or}
use Rattle.gos_plan.specs.Plans.{Joint}
use Rattle.gos_plan.specs.Seen.{SeenPlan, plan_of, joint_of}
use Rattle.gos_plan.proofs.plan.judge.Goals as goal
use Rattle.gos_plan.proofs.MakeLemmas.{stands_at_first, judged_more, judged_all, first_wrong}

pub loop-index-init : goal.loop-index-init
loop-index-init c = λ weight.
    let p : SeenPlan = record { weight = weight; imports = c.args.imports.now; outcome = c.args.outcome.now; parts = c.args.parts.now; joints = c.args.joints.now } in
    record { stands = stands_at_first p c.in_ok-seats.seats c.in_ok-seats.ensures; right = tt }

pub loop-index-preserved : goal.loop-index-preserved
loop-index-preserved c = λ weight.
    let p : SeenPlan = record { weight = weight; imports = c.args.imports.now; outcome = c.args.outcome.now; parts = c.args.parts.now; joints = c.args.joints.now } in
    let so_far = c.loop-index.invariant weight in
    let before : List Joint = reverse (map joint_of (take c.loop-index.index c.args.joints.now)) in
    judged_more p c.loop-index.index _ c.loop-index.seats c.join.new.self c.loop-index-test.true
    (slice_get-get_or c.args.joints.now c.loop-index.index _ c.loop-index-test.true) so_far
    ((c.join.ensures.right (plan_of p) before so_far.stands).0 c.if-not-join.false)
    (c.join.ensures.joined c.if-not-join.false (plan_of p) before so_far.stands)

pub returns-then-not-join-clause-fault : goal.returns-then-not-join-clause-fault
returns-then-not-join-clause-fault c = λ weight.
    let p : SeenPlan = record { weight = weight; imports = c.args.imports.now; outcome = c.args.outcome.now; parts = c.args.parts.now; joints = c.args.joints.now } in
    let so_far = c.loop-index.invariant weight in
    let before : List Joint = reverse (map joint_of (take c.loop-index.index c.args.joints.now)) in
    first_wrong p c.loop-index.index _ c.loop-index.seats (slice_get-get_or c.args.joints.now c.loop-index.index _ c.loop-index-test.true) so_far
    (λ fits. let so = (c.join.ensures.right (plan_of p) before so_far.stands).1 fits in cc (so, c.if-not-join.true))

pub returns-clause-right : goal.returns-clause-right
returns-clause-right c = λ weight.
    let p : SeenPlan = record { weight = weight; imports = c.args.imports.now; outcome = c.args.outcome.now; parts = c.args.parts.now; joints = c.args.joints.now } in
    judged_all p c.loop-index.index c.loop-index.seats c.loop-index-test.false (c.loop-index.invariant weight)
