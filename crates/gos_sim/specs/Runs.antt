-- The cycles of a simulator, one after another, as a run of its netlist from reset.
--
-- Read first: Cycle; Settling of gos_netlist.
use Rattle.std.specs.Prelude.{◌≡◌, List, [], ◌∷◌, ◌++◌, length, replicate, reverse, take}
use Rattle.gos_netlist.specs.Nets.{Cell, Netlist}
use Rattle.gos_netlist.specs.Settling.{Numbers, IsRun, next_registers}
use Rattle.gos_sim.specs.declared.pulse.Pulse.{Pulse}
use Rattle.gos_sim.specs.EventNets.{input_events}
use Rattle.gos_sim.specs.Cycle.{GivesAll, IsCycle, Simulator, at_reset, outputs_shown}

-- the registers after cycles with these settlings, from these on
abbrev pub registers_after : List Cell → Numbers → List Numbers → Numbers
registers_after cells regs [] = regs
registers_after cells regs (v ∷ vs) = registers_after cells (next_registers cells v) vs

-- a simulator that has come through a run from reset with these inputs and settlings
pub record HasRun (sim : Simulator) (ins vs : List Numbers) : Type 0 where
  pub run : IsRun sim.net.cells ins vs
  pub registers : sim.registers ≡ registers_after sim.net.cells (replicate (length sim.net.cells) 0) vs
  pub settlings : sim.settlings ≡ take 2 (reverse vs)

-- at reset it has come through no cycle
abbrev pub BeginsRun : Type 0
BeginsRun = (net : Netlist) → HasRun (at_reset net) [] []

-- and a cycle more is a settling more of its run, with the inputs that the pulses give and the outputs that are shown
abbrev pub GoesOnRunning : Type 0
GoesOnRunning =
    (old new : Simulator) (given shown : List Pulse) (ins vs : List Numbers) → HasRun old ins vs → IsCycle old given shown new
    → (i : Numbers) × (v : Numbers) × HasRun new (ins ++ i ∷ []) (vs ++ v ∷ [])
    × GivesAll (input_events old.net) given i × (shown ≡ outputs_shown old.net v)
