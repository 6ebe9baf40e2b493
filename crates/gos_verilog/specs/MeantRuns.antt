-- The runs of a module that means an accepted netlist: they are the netlist's.
--
-- Read first: Meaning; Accepted of gos_netcheck.
use Rattle.std.specs.Prelude.{◌≡◌, ℕ, ◌^◌, ◌<◌, ◌↔◌, false, List, [], ◌∷◌, length, replicate, Some, slice_get}
use Rattle.std.specs.List.{AllByRecursion}
use Rattle.gos_netlist.specs.Nets.{Input, Cell, Netlist}
use Rattle.gos_netlist.specs.Settling.{Numbers, at, IsRun}
use Rattle.gos_netcheck.specs.Accepted.{IsAccepted}
use Rattle.gos_verilog.specs.PortNets.{port_nets}
use Rattle.gos_verilog.specs.Meaning.{Module, PortValues, MeetsAll, SetsAll, GivesInput, ShowsOutput, Means}

-- The cycles of a module from these registers on. In each the nets of ports show what stands in `seens`, the nets of cells
-- what stands in vs, and all lines are met; and at the clock edge behind it registers are set for the next one.
abbrev pub ModuleRunsFrom : Module → Numbers → List PortValues → List Numbers → Type 0
ModuleRunsFrom m regs [] vs = vs ≡ []
ModuleRunsFrom m regs (seen ∷ seens) [] = ⊥
ModuleRunsFrom m regs (seen ∷ seens) (v ∷ vs) =
    MeetsAll m regs seen v × (after : Numbers) × SetsAll false m seen v after × ModuleRunsFrom m after seens vs

-- from reset, where all registers are 0
abbrev pub ModuleRuns : Module → List PortValues → List Numbers → Type 0
ModuleRuns m seens vs = ModuleRunsFrom m (replicate (length m.nets) 0) seens vs

-- in each cycle inputs show what Input cells get, which has at most the bits of these
abbrev pub InputsGiven : Netlist → List PortValues → List Numbers → Type 0
InputsGiven net [] [] = Unit {0}
InputsGiven net [] (ins ∷ more) = ⊥
InputsGiven net (seen ∷ seens) [] = ⊥
InputsGiven net (seen ∷ seens) (ins ∷ more) =
    AllByRecursion (GivesInput seen ins) (port_nets net.ports)
    × ((n : ℕ) (c : Cell) → slice_get net.cells n ≡ Some c → c.gate ≡ Input → at ins n < 2 ^ c.width) × InputsGiven net seens more

-- in each cycle outputs show the nets of their cells
abbrev pub OutputsShown : Netlist → List PortValues → List Numbers → Type 0
OutputsShown net [] vs = Unit {0}
OutputsShown net (seen ∷ seens) [] = ⊥
OutputsShown net (seen ∷ seens) (v ∷ vs) = AllByRecursion (ShowsOutput seen v) (port_nets net.ports) × OutputsShown net seens vs

-- where inputs are given so, the module's runs are the netlist's runs in which outputs are shown so
abbrev pub RunsAreMeant : Type 0
RunsAreMeant =
    (net : Netlist) (m : Module) (seens : List PortValues) (ins vs : List Numbers) → IsAccepted net → Means m net → InputsGiven net seens ins
    → ModuleRuns m seens vs ↔ (IsRun net.cells ins vs × OutputsShown net seens vs)
