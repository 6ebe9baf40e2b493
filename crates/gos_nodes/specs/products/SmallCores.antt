-- A side of the plan of `(skip, skip)`, and a plan that does nothing.
--
-- Read first: Cores, SmallBoth.
use Rattle.std.specs.Prelude.{[]}
use Rattle.gos_types.specs.Types.{Com}
use Rattle.gos_plan.specs.Plans.{Plan}
use Rattle.gos_plan.specs.SmallPlans.{skip_plan}
use Rattle.gos_realises.specs.realises.Links.{IsJoined}
use Rattle.gos_realises.specs.realises.Wirings.{side}
use Rattle.gos_nodes.specs.products.Cores.{IsStillCore}
use Rattle.gos_nodes.specs.products.SmallBoth.{skips_plan}

-- the first side, joined, has the plan of `skip` for its core
abbrev pub SkipIsCore : Type 0
SkipIsCore = (s : Plan) → IsJoined (side 0 Com skips_plan) s → IsStillCore s skip_plan

-- but the plan of `skip` has none without parts: its request would lie beside it
abbrev pub EmptyIsNone : Type 0
EmptyIsNone = IsStillCore skip_plan (record skip_plan { parts = []; joints = [] }) → ⊥
