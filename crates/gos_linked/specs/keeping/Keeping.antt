-- A netlist whose cycles are lists of a plan keeps pace with the program that the plan realises.
--
-- Read first: Ports; Pace and Cycles of gos_pace; Realises of gos_realises.
use Rattle.std.specs.Prelude.{List}
use Rattle.gos_types.specs.Types.{IsDone}
use Rattle.gos_netlist.specs.Nets.{Netlist}
use Rattle.gos_netlist.specs.Settling.{Numbers, IsRun}
use Rattle.gos_model.specs.Terms.{Term}
use Rattle.gos_pace.specs.RunProtocol.{InputsInRange}
use Rattle.gos_pace.specs.Pace.{KeepsPaceAlways}
use Rattle.gos_plan.specs.Plans.{Plan, IsRight}
use Rattle.gos_pace.specs.Cycles.{CyclesAreLists}
use Rattle.gos_realises.specs.realises.Matched.{RealisesDone, program_of}
use Rattle.gos_realises.specs.realises.Realises.{AllGround, NamesDiffer}
use Rattle.gos_realises.specs.realises.Slim.{IsSlim}
use Rattle.gos_linked.specs.keeping.Ports.{HasPorts}

-- The netlist has the plan's ports, and the cycles of its runs are lists of the plan.
pub record IsNetOf (p : Plan) (net : Netlist) : Type 0 where
  pub ports : HasPorts p net.ports
  pub cycles : (ins vs : List Numbers) → InputsInRange net ins → IsRun net.cells ins vs → CyclesAreLists p net vs

-- The plan is right and slim, has the type of a program that ends and ground imports of different names, and
-- realises the term.
pub record IsPlanFor (p : Plan) (m : Term) : Type 0 where
  pub right : IsRight p
  pub slim : IsSlim p
  pub outcome : IsDone p.outcome
  pub ground : AllGround p.imports
  pub names : NamesDiffer p.imports
  pub realises : RealisesDone p m

-- the netlist of such a plan keeps pace with the program of the term
abbrev pub NetKeepsPace : Type 0
NetKeepsPace = (p : Plan) (m : Term) (net : Netlist) → IsPlanFor p m → IsNetOf p net → KeepsPaceAlways p.weight (program_of p m) net
