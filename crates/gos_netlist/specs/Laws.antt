-- Laws of settling.
--
-- Read first: Settling, Cycles.
use Rattle.std.specs.Prelude.{◌≡◌, List}
use Rattle.gos_netlist.specs.Nets.{Cell}
use Rattle.gos_netlist.specs.Settling.{Numbers, Settling}
use Rattle.gos_netlist.specs.Cycles.{HasCycle}

-- cells without a combinational cycle have a settling, whatever registers and inputs hold
abbrev pub AcyclicSettles : Type 0
AcyclicSettles = (cells : List Cell) (regs ins : Numbers) → (HasCycle cells → ⊥) → (v : Numbers) × Settling cells regs ins v

-- and no other one
abbrev pub AcyclicSettlesOnce : Type 0
AcyclicSettlesOnce = (cells : List Cell) (regs ins u v : Numbers) → (HasCycle cells → ⊥) → Settling cells regs ins u → Settling cells regs ins v → u ≡ v
