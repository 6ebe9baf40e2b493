-- Small netlists: a latch and its run, its text, and a ring of gates.
--
-- Read first: Settling, Cycles, NetText.
use Rattle.std.specs.Prelude.{◌≡◌, List, [], ◌∷◌, codes}
use Rattle.gos_types.specs.Types.{Com}
use Rattle.gos_netlist.specs.Nets.{Netlist, Cell, Function, Input, Or, Reg, And, Give}
use Rattle.gos_netlist.specs.Settling.{Numbers, IsRun}
use Rattle.gos_netlist.specs.Cycles.{CombinationalCycle}
use Rattle.gos_netlist.specs.NetText.{text_of}

-- a cell of one bit
abbrev pub bit : Function → Cell
bit f = record { width = 1; gate = f }

-- it shows `done` from the cycle after `run` on
abbrev pub latch : Netlist
latch =
    record {
      cells = bit Input ∷ bit (Or 0 2) ∷ bit (Reg 1) ∷ bit (Reg 1) ∷ [];
      ports = record { name = codes "main"; side = Give; ty = Com; nets = 0 ∷ 3 ∷ [] } ∷ [];
    }

-- the values of its nets in three cycles
abbrev pub latch_values : List Numbers
latch_values = (1 ∷ 1 ∷ 0 ∷ 0 ∷ []) ∷ (0 ∷ 1 ∷ 1 ∷ 1 ∷ []) ∷ (0 ∷ 1 ∷ 1 ∷ 1 ∷ []) ∷ []

-- its inputs in these cycles
abbrev pub latch_inputs : List Numbers
latch_inputs = (1 ∷ []) ∷ (0 ∷ []) ∷ (0 ∷ []) ∷ []

-- these inputs give these values
abbrev pub LatchRuns : Type 0
LatchRuns = IsRun latch.cells latch_inputs latch_values

-- its text
abbrev pub LatchText : Type 0
LatchText = text_of latch ≡ codes "gosnet 1\ncells 4\ninput 1\nor 1 0 2\nreg 1 1\nreg 1 1\nports 1\ngive main com 0 3\nend\n"

-- with a gate in place of the first register, the nets 1 and 2 are a combinational cycle
abbrev pub LoopedGates : Type 0
LoopedGates = CombinationalCycle (bit Input ∷ bit (Or 0 2) ∷ bit (And 1 0) ∷ bit (Reg 1) ∷ []) (1 ∷ 2 ∷ [])
