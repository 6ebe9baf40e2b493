-- A plan that realises a module whose imports are ground is one whose netlist keeps pace with the program.
--
-- Read first: Ports; Keeping.
use Rattle.gos_types.specs.Types.{IsDone}
use Rattle.gos_netlist.specs.Nets.{Netlist}
use Rattle.gos_model.specs.Terms.{Term}
use Rattle.gos_pace.specs.Pace.{KeepsPaceAlways}
use Rattle.gos_plan.specs.Plans.{Plan}
use Rattle.gos_realises.specs.realises.Matched.{program_of}
use Rattle.gos_realises.specs.realises.Realises.{AllGround}
use Rattle.gos_realises.specs.realises.Modules.{RealisesModule}
use Rattle.gos_linked.specs.keeping.Keeping.{IsNetOf, IsPlanFor}

-- the plan of a module, as pace asks for it
abbrev pub ModuleIsPlanFor : Type 0
ModuleIsPlanFor = (p : Plan) (m : Term) → RealisesModule p m → AllGround p.imports → IsDone p.outcome → IsPlanFor p m

-- so its netlist keeps pace with the module's program
abbrev pub ModulesKeepPace : Type 0
ModulesKeepPace =
    (p : Plan) (m : Term) (net : Netlist)
    → RealisesModule p m → AllGround p.imports → IsDone p.outcome → IsNetOf p net
    → KeepsPaceAlways p.weight (program_of p m) net
