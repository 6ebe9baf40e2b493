-- Which netlists are accepted, and why the others are not.
--
-- Read first: CellRules, PortRules; Cycles of gos_netlist.
use Rattle.std.specs.Prelude.{◌≡◌, ◌≢◌, ℕ, ◌≤◌, List, [], ◌∷◌, map}
use Rattle.std.specs.List.{AllByRecursion}
use Rattle.gos_netlist.specs.Nets.{Cell, Netlist}
use Rattle.gos_netlist.specs.Seen.{number_of}
use Rattle.gos_netlist.specs.Cycles.{CombinationalCycle, HasCycle}
use Rattle.gos_netcheck.specs.declared.fault.NetFault.{NetFault}
use Rattle.gos_netcheck.specs.declared.fault.NetFault.TheVariants as faults
use Rattle.gos_netcheck.specs.CellRules.{NetsExist, WidthsFit, IsFirstWithoutNet, IsFirstOfWrongWidth}
use Rattle.gos_netcheck.specs.PortRules.{PortsFit, IsFirstWrongPort}

-- what an accepted netlist keeps
pub record IsAccepted (net : Netlist) : Type 0 where
  pub nets : NetsExist net.cells
  pub widths : WidthsFit net.cells
  pub ports : PortsFit net.cells net.ports
  pub acyclic : HasCycle net.cells → ⊥

-- the list begins with its least net
abbrev pub BeginsWithLeast : List ℕ → Type 0
BeginsWithLeast [] = ⊥
BeginsWithLeast (a ∷ ns) = AllByRecursion (λ b. a ≤ b) ns

-- the nets are a combinational cycle, and the least of them stands first
abbrev pub IsCycleFromLeast : List Cell → List ℕ → Type 0
IsCycleFromLeast cells nets = CombinationalCycle cells nets × BeginsWithLeast nets

-- Why a netlist is refused. Each fault comes where none of those above it does.
abbrev pub HasFault : Netlist → NetFault → Type 0
HasFault net (faults.NoSuchNet cell) = IsFirstWithoutNet net.cells cell
HasFault net (faults.Width cell) = NetsExist net.cells × IsFirstOfWrongWidth net.cells cell
HasFault net (faults.Port index) = NetsExist net.cells × WidthsFit net.cells × IsFirstWrongPort net.cells net.ports index
HasFault net (faults.Cycle nets) =
    NetsExist net.cells × WidthsFit net.cells × PortsFit net.cells net.ports × IsCycleFromLeast net.cells (map number_of nets.items)
HasFault net faults.NoMemory = Unit {0}

-- an accepted netlist has no fault but want of memory
abbrev pub AcceptedHasNoFault : Netlist → Type 0
AcceptedHasNoFault net = (fault : NetFault) → IsAccepted net → HasFault net fault → fault ≡ faults.NoMemory

-- Two faults are one; but a netlist with several combinational cycles has each of them.
abbrev pub AreOneFault : NetFault → NetFault → Type 0
AreOneFault (faults.Cycle nets) (faults.Cycle others) = Unit {0}
AreOneFault fault other = fault ≡ other

-- besides want of memory a netlist has one fault at most
abbrev pub HasOneFault : Netlist → Type 0
HasOneFault net =
    (fault other : NetFault) → HasFault net fault → HasFault net other → fault ≢ faults.NoMemory → other ≢ faults.NoMemory → AreOneFault fault other
