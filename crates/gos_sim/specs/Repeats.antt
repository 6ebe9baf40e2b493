-- A simulator that another cycle with the same inputs leaves as it is.
--
-- Read first: Cycle; SmallNets of gos_netlist.
use Rattle.std.specs.Prelude.{◌≡◌, List, [], ◌∷◌}
use Rattle.gos_netlist.specs.Settling.{Numbers, Settling, next_registers}
use Rattle.gos_netlist.specs.SmallNets.{latch}
use Rattle.gos_sim.specs.declared.pulse.Pulse.{Pulse}
use Rattle.gos_sim.specs.EventNets.{input_events}
use Rattle.gos_sim.specs.Cycle.{GivesAll, IsCycle, Simulator, outputs_shown}

-- Its last two settlings are the same one, which is also that of the registers that it has now, with the same inputs; and
-- the registers after that are these again.
pub record Repeats (sim : Simulator) : Type 0 where
  pub values : Numbers
  pub twice : sim.settlings ≡ values ∷ values ∷ []
  pub settled : Settling sim.net.cells sim.registers values values
  pub registers : next_registers sim.net.cells values ≡ sim.registers

-- Then a cycle with the inputs that the values have leaves all of it as it is, and shows what the values show.
abbrev pub StaysAsItIs : Type 0
StaysAsItIs =
    (sim : Simulator) (given : List Pulse) (repeats : Repeats sim) → GivesAll (input_events sim.net) given repeats.values
    → IsCycle sim given (outputs_shown sim.net repeats.values) sim

-- a latch with these registers and settlings
abbrev pub latch_with : Numbers → List Numbers → Simulator
latch_with registers settlings = record { net = latch; registers = registers; settlings = settlings }

-- A latch whose request came in the first cycle and went in the second one repeats after the third one. After the second one
-- it doesn't yet, since its settling has changed; nor would it with other registers.
abbrev pub LatchRepeats : Type 0
LatchRepeats =
    Repeats (latch_with (0 ∷ 0 ∷ 1 ∷ 1 ∷ []) ((0 ∷ 1 ∷ 1 ∷ 1 ∷ []) ∷ (0 ∷ 1 ∷ 1 ∷ 1 ∷ []) ∷ []))
    × (Repeats (latch_with (0 ∷ 0 ∷ 1 ∷ 1 ∷ []) ((0 ∷ 1 ∷ 1 ∷ 1 ∷ []) ∷ (1 ∷ 1 ∷ 0 ∷ 0 ∷ []) ∷ [])) → ⊥)
    × (Repeats (latch_with (0 ∷ 0 ∷ 0 ∷ 0 ∷ []) ((0 ∷ 1 ∷ 1 ∷ 1 ∷ []) ∷ (0 ∷ 1 ∷ 1 ∷ 1 ∷ []) ∷ [])) → ⊥)
