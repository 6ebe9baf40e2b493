-- A small circuit, a module that means it with its runs, and two that don't mean it.
--
-- Read first: Meaning, MeantRuns; SmallNets of gos_netlist (`bit`).
use Rattle.std.specs.Prelude.{ℕ, true, false, if◌then◌else◌, List, [], ◌∷◌, codes}
use Rattle.std.specs.Str.{bytes_eq}
use Rattle.gos_types.specs.Types.{Com}
use Rattle.gos_netlist.specs.Nets.{Netlist, Input, Reg, Give, Take}
use Rattle.gos_netlist.specs.Settling.{Numbers}
use Rattle.gos_netlist.specs.SmallNets.{bit}
use Rattle.gos_verilog.specs.Expressions.{OfPort, OfCell, Plain}
use Rattle.gos_verilog.specs.Meaning.{Module, Drives, Clocks, Assigns, PortValues, Means}
use Rattle.gos_verilog.specs.MeantRuns.{ModuleRuns}

-- the circuit of `import c : com; c`: a cycle after it is run it runs c, and a cycle after c is done it is done
abbrev pub caller : Netlist
caller =
    record {
      cells = bit Input ∷ bit Input ∷ bit (Reg 0) ∷ bit (Reg 1) ∷ [];
      ports = record { name = codes "main"; side = Give; ty = Com; nets = 0 ∷ 3 ∷ [] }
          ∷ record { name = codes "c"; side = Take; ty = Com; nets = 2 ∷ 1 ∷ [] } ∷ [];
    }

-- a module with its ports and nets, in which cells 0 and 1 read nets of these names, and its outputs are the nets of
-- cells `done` and `run`
abbrev pub calling : List ℕ → List ℕ → ℕ → ℕ → Module
calling first second done run =
    record {
      name = codes "main";
      ports = record { name = codes "main__run"; input = true; width = 1 } ∷ record { name = codes "main__done"; input = false; width = 1 }
          ∷ record { name = codes "c__run"; input = false; width = 1 } ∷ record { name = codes "c__done"; input = true; width = 1 } ∷ [];
      nets = record { clocked = false; width = 1 } ∷ record { clocked = false; width = 1 } ∷ record { clocked = true; width = 1 }
          ∷ record { clocked = true; width = 1 } ∷ [];
      lines = Drives 0 (Plain (OfPort first)) ∷ Drives 1 (Plain (OfPort second)) ∷ Clocks 2 1 (Plain (OfCell 0)) ∷ Clocks 3 1 (Plain (OfCell 1))
          ∷ Assigns (codes "main__done") done ∷ Assigns (codes "c__run") run ∷ [];
    }

abbrev pub CallerIsMeant : Type 0
CallerIsMeant = Means (calling (codes "main__run") (codes "c__done") 3 2) caller

-- each output is assigned the other's net
abbrev pub SwappedOutputsMeanOther : Type 0
SwappedOutputsMeanOther = Means (calling (codes "main__run") (codes "c__done") 2 3) caller → ⊥

-- each Input cell reads the other's port
abbrev pub SwappedInputsMeanOther : Type 0
SwappedInputsMeanOther = Means (calling (codes "c__done") (codes "main__run") 3 2) caller → ⊥

-- the net of this name shows 1, and all others show 0
abbrev pub only : List ℕ → PortValues
only name other = if bytes_eq name other then 1 else 0

-- run in one cycle, the caller runs c in the next
abbrev pub CallerRuns : Type 0
CallerRuns =
    ModuleRuns (calling (codes "main__run") (codes "c__done") 3 2) (only (codes "main__run") ∷ only (codes "c__run") ∷ [])
    ((1 ∷ 0 ∷ 0 ∷ 0 ∷ []) ∷ (0 ∷ 0 ∷ 1 ∷ 0 ∷ []) ∷ [])

-- and it doesn't in the first cycle
abbrev pub CallerWaits : Type 0
CallerWaits = (v : Numbers) → ModuleRuns (calling (codes "main__run") (codes "c__done") 3 2) (only (codes "c__run") ∷ []) (v ∷ []) → ⊥
