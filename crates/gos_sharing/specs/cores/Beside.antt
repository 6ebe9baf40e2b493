-- A plan with loose parts beside it is the core of the whole.
--
-- Read first: Core; Beside of gos_supplies.
use Rattle.gos_plan.specs.Plans.{Plan}
use Rattle.gos_supplies.specs.unjoined.Beside.{Placing, IsBeside}
use Rattle.gos_sharing.specs.cores.Core.{Core, IsCore, IsStill}

abbrev pub core_of : Placing → Core
core_of f = record { part = f.part; number = f.number; import = f.import; origin = f.import_number }

-- And the whole is still. A core is more: dead parts may be joined to the core's.
abbrev pub BesideIsCore : Type 0
BesideIsCore = (f : Placing) (r c : Plan) → IsBeside f r c → IsCore (core_of f) r c × IsStill (core_of f) r c
