use Rattle.gos_link.proofs.CountedLemmas.{keeps_limits, limits_more}
use Rattle.gos_tool_tests.proofs.policies.plans_in.Goals as goal

pub loop-object-preserved : goal.loop-object-preserved
loop-object-preserved c =
    limits_more c.loop-object.plans.items c.push.new.self.items c.in-Ok.plan c.in_ok-push-in-Ok.ensures.items c.loop-object.invariant
    (keeps_limits _ _ c.in-Ok.ensures.read)
