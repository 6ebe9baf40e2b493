-- Circuits of small plans: cycles of theirs that are lists of the plans, and cycles that are not.
--
-- Read first: Cycles; SmallPlans and SmallCalls of gos_plan. The circuit of `import c : com; c` has a register in each
-- direction of the joint. In the cycle in which it answers it is run again.
use Rattle.std.specs.Prelude.{List, [], ◌∷◌, codes}
use Rattle.gos_types.specs.Types.{Com}
use Rattle.gos_netlist.specs.Nets.{Netlist, Input, Reg, Give, Take, Const}
use Rattle.gos_netlist.specs.Settling.{Numbers, IsRun}
use Rattle.gos_netlist.specs.SmallNets.{bit}
use Rattle.gos_pace.specs.Cycles.{CyclesAreLists}
use Rattle.gos_plan.specs.SmallPlans.{skip_plan}
use Rattle.gos_pace.specs.RunProtocol.{InputsInRange}
use Rattle.gos_pace.specs.SmallPace.{skip_circuit}
use Rattle.gos_plan.specs.SmallCalls.{call_plan}

-- nets: main.run, main.done, c.run, c.done
abbrev pub call_circuit : Netlist
call_circuit =
    record {
      cells = bit Input ∷ bit (Reg 3) ∷ bit (Reg 0) ∷ bit Input ∷ [];
      ports =
          record { name = codes "main"; side = Give; ty = Com; nets = 0 ∷ 1 ∷ [] }
          ∷ record { name = codes "c"; side = Take; ty = Com; nets = 2 ∷ 3 ∷ [] } ∷ [];
    }

-- main.run; then c.done; then main.run again
abbrev pub call_inputs : List Numbers
call_inputs = (1 ∷ 0 ∷ 0 ∷ 0 ∷ []) ∷ (0 ∷ 0 ∷ 0 ∷ 0 ∷ []) ∷ (0 ∷ 0 ∷ 0 ∷ 1 ∷ []) ∷ (1 ∷ 0 ∷ 0 ∷ 0 ∷ []) ∷ (0 ∷ 0 ∷ 0 ∷ 0 ∷ []) ∷ []

-- c.run comes a cycle after main.run, and main.done a cycle after c.done
abbrev pub call_cycles : List Numbers
call_cycles = (1 ∷ 0 ∷ 0 ∷ 0 ∷ []) ∷ (0 ∷ 0 ∷ 1 ∷ 0 ∷ []) ∷ (0 ∷ 0 ∷ 0 ∷ 1 ∷ []) ∷ (1 ∷ 1 ∷ 0 ∷ 0 ∷ []) ∷ (0 ∷ 0 ∷ 1 ∷ 0 ∷ []) ∷ []

-- they are a run of the circuit, and lists of the plan
abbrev pub CallIsListed : Type 0
CallIsListed = IsRun call_circuit.cells call_inputs call_cycles × CyclesAreLists call_plan call_circuit call_cycles

-- the cycles of the circuit that answers each run with done in the next cycle are lists of the plan, whatever comes in
abbrev pub SkipIsListed : Type 0
SkipIsListed = (ins vs : List Numbers) → InputsInRange skip_circuit ins → IsRun skip_circuit.cells ins vs → CyclesAreLists skip_plan skip_circuit vs

-- a circuit that shows done in every cycle
abbrev pub eager_circuit : Netlist
eager_circuit =
    record {
      cells = bit Input ∷ bit (Const 1) ∷ [];
      ports = record { name = codes "main"; side = Give; ty = Com; nets = 0 ∷ 1 ∷ [] } ∷ [];
    }

-- its cycles are no lists of the plan
abbrev pub EagerIsNotListed : Type 0
EagerIsNotListed = CyclesAreLists skip_plan eager_circuit ((0 ∷ 1 ∷ []) ∷ []) → ⊥
