-- The pulses of a small circuit; one that keeps pace with its program, for all inputs in range that keep the protocol, and one that
-- does not.
--
-- Read first: Pace; SmallNets of gos_netlist. They show that keeping pace can be met and can be missed.
use Rattle.std.specs.Prelude.{[], ◌∷◌, codes}
use Rattle.gos_types.specs.Types.{Com}
use Rattle.gos_model.specs.Terms.{Skip}
use Rattle.gos_model.specs.Weight.{weight}
use Rattle.gos_model.specs.Labels.{given}
use Rattle.gos_model.specs.Moves.{Program}
use Rattle.gos_netlist.specs.Nets.{Netlist, Input, Const, Reg, Give}
use Rattle.gos_netlist.specs.SmallNets.{bit, latch, latch_values}
use Rattle.gos_pace.specs.Flattening.{Flattening}
use Rattle.gos_pace.specs.Pace.{KeepsPaceAlways}

-- the latch of SmallNets: run in cycle 0, done in the cycles 1 and 2
abbrev pub LatchFlattens : Type 0
LatchFlattens = Flattening latch latch_values ((given 0 0 ∷ []) ∷ (given 1 0 ∷ []) ∷ (given 1 0 ∷ []) ∷ [])

-- `skip`
abbrev pub skip : Program
skip = record { imports = []; body = Skip }

-- it shows `done` in the cycle after each `run`
abbrev pub skip_circuit : Netlist
skip_circuit =
    record {
      cells = bit Input ∷ bit (Reg 0) ∷ [];
      ports = record { name = codes "main"; side = Give; ty = Com; nets = 0 ∷ 1 ∷ [] } ∷ [];
    }

-- the circuit keeps pace with the program
abbrev pub SkipKeepsPace : Type 0
SkipKeepsPace = KeepsPaceAlways (weight skip.imports skip.body) skip skip_circuit

-- it never shows `done`
abbrev pub silent_circuit : Netlist
silent_circuit =
    record {
      cells = bit Input ∷ bit (Const 0) ∷ [];
      ports = record { name = codes "main"; side = Give; ty = Com; nets = 0 ∷ 1 ∷ [] } ∷ [];
    }

-- a circuit that never answers does not keep pace
abbrev pub SilentLags : Type 0
SilentLags = KeepsPaceAlways (weight skip.imports skip.body) skip silent_circuit → ⊥
