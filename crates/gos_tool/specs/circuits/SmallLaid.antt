-- Which netlists the plan of `skip` is laid out as, in each way.
--
-- Read first: Circuit; SmallNets of gos_expand; SmallPlans of gos_plan. They show that the definition can be met and can be missed.
use Rattle.std.specs.Prelude.{codes}
use Rattle.gos_netlist.specs.Nets.{Netlist}
use Rattle.gos_plan.specs.SmallPlans.{skip_plan}
use Rattle.gos_expand.specs.SmallNets.{skip_netlist, skip_straight}
use Rattle.gos_tidy.specs.Alike.{IsTidied}
use Rattle.gos_tool.specs.declared.circuits.layout.Layout.TheVariants.{Few, Fast}
use Rattle.gos_tool.specs.circuits.Circuit.{IsLaidAs}

-- with few registers it is the netlist without one in its joint, and not that with both
abbrev pub StraightIsFew : Type 0
StraightIsFew = IsLaidAs Few skip_plan (codes "main") skip_straight

abbrev pub RegistersAreNotFew : Type 0
RegistersAreNotFew = IsLaidAs Few skip_plan (codes "main") skip_netlist → ⊥

-- the fast one is whatever the former is made tidy to, and not that with both
abbrev pub TidiedIsFast : Type 0
TidiedIsFast = (net : Netlist) → IsTidied skip_straight net → IsLaidAs Fast skip_plan (codes "main") net

abbrev pub RegistersAreNotFast : Type 0
RegistersAreNotFast = IsLaidAs Fast skip_plan (codes "main") skip_netlist → ⊥
