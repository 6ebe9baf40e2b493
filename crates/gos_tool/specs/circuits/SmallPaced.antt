-- A plan that has ports such as a circuit may have, and one that hasn't.
--
-- Read first: Paced; SmallCalls and SmallPlans of gos_plan. They show that the definition can be met and can be missed.
use Rattle.gos_plan.specs.SmallCalls.{call_plan}
use Rattle.gos_plan.specs.SmallPlans.{same_plan}
use Rattle.gos_tool.specs.circuits.Paced.{HasOpenPorts}

-- a command that calls an imported one has, and a function has not
abbrev pub CallHasPorts : Type 0
CallHasPorts = HasOpenPorts call_plan

abbrev pub FunctionHasNone : Type 0
FunctionHasNone = HasOpenPorts same_plan → ⊥
