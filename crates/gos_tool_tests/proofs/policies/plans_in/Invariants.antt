use Rattle.gos_link.specs.Linked.{AllKeepLimits, plans_of}
use Rattle.gos_tool_tests.proofs.policies.plans_in.Given as goal

-- the plans so far are within the limits
abbrev pub invariant-loop-object : goal.invariant-loop-object
invariant-loop-object l = AllKeepLimits (plans_of l.plans.items)
