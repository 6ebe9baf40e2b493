use Rattle.std.proofs.Common.{sym, ◌∙◌, arith}
use Rattle.gos_plan.specs.Plans.{PartEnd}
use Rattle.gos_expand.proofs.choosing.directions_at.Goals as goal

pub overflow_add-result : goal.overflow_add-result
overflow_add-result c =
    let low = c.requires.small (PartEnd c.args.part c.args.shake) c.in_ok-entry.entry c.in_ok-joint.joint (sym c.get.ensures ∙ c.in_ok-entry.was)
    (sym c.number.ensures ∙ c.in_ok-joint.was) in
    omega (arith, low)

pub overflow_add-result-in-Serve : goal.overflow_add-result-in-Serve
overflow_add-result-in-Serve c =
    let low = c.requires.small (PartEnd c.args.part c.args.shake) c.in_ok-entry.entry c.in_ok-joint.joint (sym c.get.ensures ∙ c.in_ok-entry.was)
    (sym c.number.ensures ∙ c.in_ok-joint.was) in
    omega (arith, low)

pub overflow_add-result-in-Serve-2 : goal.overflow_add-result-in-Serve-2
overflow_add-result-in-Serve-2 c =
    let low = c.requires.small (PartEnd c.args.part c.args.shake) c.in_ok-entry.entry c.in_ok-joint.joint (sym c.get.ensures ∙ c.in_ok-entry.was)
    (sym c.number.ensures ∙ c.in_ok-joint.was) in
    omega (arith, low)

pub overflow_add-result-in-Ask : goal.overflow_add-result-in-Ask
overflow_add-result-in-Ask c =
    let low = c.requires.small (PartEnd c.args.part c.args.shake) c.in_ok-entry.entry c.in_ok-joint.joint (sym c.get.ensures ∙ c.in_ok-entry.was)
    (sym c.number.ensures ∙ c.in_ok-joint.was) in
    omega (arith, low)

pub overflow_add-result-in-Ask-2 : goal.overflow_add-result-in-Ask-2
overflow_add-result-in-Ask-2 c =
    let low = c.requires.small (PartEnd c.args.part c.args.shake) c.in_ok-entry.entry c.in_ok-joint.joint (sym c.get.ensures ∙ c.in_ok-entry.was)
    (sym c.number.ensures ∙ c.in_ok-joint.was) in
    omega (arith, low)

pub overflow_add-result-in-Ask-3 : goal.overflow_add-result-in-Ask-3
overflow_add-result-in-Ask-3 c =
    let low = c.requires.small (PartEnd c.args.part c.args.shake) c.in_ok-entry.entry c.in_ok-joint.joint (sym c.get.ensures ∙ c.in_ok-entry.was)
    (sym c.number.ensures ∙ c.in_ok-joint.was) in
    omega (arith, low)
