-- The machine of a netlist, and how it runs through a cycle.
--
-- Read first: Running, Order, Ready, Past; Levels of gos_netcheck.
use Rattle.std.specs.Prelude.{◌≡◌, ◌≢◌, ℕ, ◌<◌, ◌≤◌, Bool, IsTrue, List, All, Some, length, map, replicate, slice_get}
use Rattle.gos_netlist.specs.Nets.{Cell, Netlist}
use Rattle.gos_netlist.specs.Cycles.{IsRegister}
use Rattle.gos_netlist.specs.Settling.{Numbers, at}
use Rattle.gos_netcheck.specs.Levels.{AreLevels}
use Rattle.gos_sim.specs.declared.event_nets.EventNets.{EventNets}
use Rattle.gos_sim.specs.declared.active.Active.{Active}
use Rattle.gos_sim.specs.declared.machine.Machine.{Machine}
use Rattle.gos_sim.specs.declared.program.Step.{Step}
use Rattle.gos_sim.specs.declared.past.Past.{Past}
use Rattle.gos_sim.specs.declared.places.Places.{Places}
use Rattle.gos_sim.specs.declared.program.Latch.{Latch}
use Rattle.gos_sim.specs.declared.pulse.Pulse.{Pulse}
use Rattle.gos_sim.specs.EventNets.{Names, OnNets, input_events, output_events}
use Rattle.gos_sim.specs.Cycle.{GivesAll, Simulator, pulse_shown}
use Rattle.gos_sim.specs.inner.Program.{AreLatches, HaveOneCell, IsLatchWithin, IsProgram, IsStepWithin, SparesEarlier}
use Rattle.gos_sim.specs.inner.Running.{AreLoaded, AreShown, AreTaken, HaveOnePin, KeepsOtherSteps, KeepsOthers}
use Rattle.gos_sim.specs.inner.Counting.{ChainLevels}
use Rattle.gos_sim.specs.inner.Ready.{AreApart, IsReady}
use Rattle.gos_sim.specs.inner.Past.{HasCome, IsPast, settlings_of}
use Rattle.gos_sim.specs.inner.Active.{HasSettled, IsAwake, Lacks}
use Rattle.gos_sim.specs.inner.Places.{AreStepsMoved, IsNumbering, by_net, event_moved, latch_moved}

-- what runs in each cycle
pub record Plan : Type 0 where
  pub inputs : List EventNets
  pub outputs : List EventNets
  pub steps : List Step
  pub latches : List Latch

-- that of a machine, which speaks of places
abbrev pub plan_of : Machine → Plan
plan_of m = record { inputs = m.inputs.items; outputs = m.outputs.items; steps = m.program; latches = m.latches.items }

-- that of a netlist, which speaks of its nets
pub record IsPlan (net : Netlist) (m : Plan) : Type 0 where
  pub ready : IsReady net
  pub inputs : m.inputs ≡ input_events net
  pub outputs : m.outputs ≡ output_events net
  pub program : IsProgram net.cells m.steps
  pub latched : AreLatches net.cells m.latches
  pub steps_within : All (IsStepWithin (length net.cells)) m.steps
  pub latches_within : All (IsLatchWithin (length net.cells)) m.latches

-- a plan of nets, moved to their places
pub record IsMoved (places : Numbers) (old new : Plan) : Type 0 where
  pub inputs : new.inputs ≡ map (event_moved (at places)) old.inputs
  pub outputs : new.outputs ≡ map (event_moved (at places)) old.outputs
  pub steps : AreStepsMoved (at places) old.steps new.steps
  pub latches : new.latches ≡ map (latch_moved (at places)) old.latches

-- the machine of a netlist
pub record IsMachine (net : Netlist) (m : Machine) : Type 0 where
  pub plan : Plan
  pub of_net : IsPlan net plan
  pub each : length m.places.items ≡ length net.cells
  pub numbering : IsNumbering m.places.items m.count
  pub moved : IsMoved m.places.items plan (plan_of m)
  pub levels : Numbers
  pub leveled : AreLevels net.cells levels
  pub chained : ChainLevels m.levels levels

-- the machine of these levels and registers of a netlist, by these places of its nets, with a program that is there already
pub record IsMachineAt (net : Netlist) (levels : Numbers) (registers : List Latch) (numbering : Places) (program : List Step) (m : Machine) : Type 0 where
  pub inputs : m.inputs.items ≡ map (event_moved (at m.places.items)) (input_events net)
  pub outputs : m.outputs.items ≡ map (event_moved (at m.places.items)) (output_events net)
  pub steps : m.program ≡ program
  pub latches : m.latches.items ≡ map (latch_moved (at m.places.items)) registers
  pub chained : ChainLevels m.levels levels
  pub places : m.places.items ≡ numbering.of.items
  pub count : m.count ≡ numbering.count

-- a plan can run over so many nets
pub record IsRunnable (count : ℕ) (m : Plan) : Type 0 where
  pub inputs : All (OnNets (λ a. a < count)) m.inputs
  pub outputs : All (OnNets (λ a. a < count)) m.outputs
  pub apart : AreApart m.inputs
  pub ordered : SparesEarlier m.steps
  pub one_cell : HaveOneCell m.steps
  pub steps : All (IsStepWithin count) m.steps
  pub latches : All (IsLatchWithin count) m.latches
  pub one_pin : HaveOnePin m.latches
  pub inputs_apart_from_steps : (j : ℕ) (e : EventNets) (a : ℕ) → slice_get m.inputs j ≡ Some e → Names e a → All (λ s. s.net ≢ a) m.steps
  pub inputs_apart_from_latches : (j : ℕ) (e : EventNets) (a : ℕ) → slice_get m.inputs j ≡ Some e → Names e a → All (λ l. l.net ≢ a) m.latches
  pub apart_from_steps : (j : ℕ) (l : Latch) → slice_get m.latches j ≡ Some l → All (λ s. s.net ≢ l.net) m.steps

-- The values are given and loaded: what the pulses give, and then the registers too.
pub record HasBegun (m : Plan) (given : List Pulse) (held loaded : Numbers) : Type 0 where
  pub first : Numbers
  pub pulses : GivesAll m.inputs given first
  pub registers : AreLoaded m.latches held loaded
  pub others : KeepsOthers m.latches first loaded

-- The values settle for what pulses give and registers hold: what the pulses give, then the registers too, then the steps.
pub record Settles (m : Plan) (given : List Pulse) (held values : Numbers) : Type 0 where
  pub first : Numbers
  pub loaded : Numbers
  pub pulses : GivesAll m.inputs given first
  pub registers : AreLoaded m.latches held loaded
  pub others : KeepsOthers m.latches first loaded
  pub evaluated : AreShown m.steps values
  pub sources : KeepsOtherSteps m.steps loaded values

-- The values settle where all registers and inputs are 0.
pub record SettlesAtReset (m : Plan) (values : Numbers) : Type 0 where
  pub evaluated : AreShown m.steps values
  pub sources : KeepsOtherSteps m.steps (replicate (length values) 0) values

-- A cycle is run through: the values settle; then what is shown of them, and the registers after it.
pub record RunsThrough (m : Plan) (given : List Pulse) (held values : Numbers) (seen : List Pulse) (after : Numbers) : Type 0 where
  pub settles : Settles m given held values
  pub shows : seen ≡ map (pulse_shown values) m.outputs
  pub taken : AreTaken m.latches values after
  pub rest : KeepsOthers m.latches held after

-- The values stand still: they are those of the registers, and each register holds what its pin has.
pub record IsStill (m : Plan) (held values : Numbers) : Type 0 where
  pub registers : AreLoaded m.latches held values
  pub evaluated : AreShown m.steps values
  pub taken : AreTaken m.latches values held

-- a cell that is no register holds 0
abbrev pub HoldNothingElse : List Cell → Numbers → Type 0
HoldNothingElse cells registers = (n : ℕ) (c : Cell) → slice_get cells n ≡ Some c → (IsRegister c.gate → ⊥) → at registers n ≡ 0

-- for each of so many places a register, a value and one before it
pub record IsState (count : ℕ) (registers values before : Numbers) : Type 0 where
  pub registers_each : length registers ≡ count
  pub values_each : length values ≡ count
  pub before_each : length before ≡ count

-- what a simulator keeps in words of so many bits; `still` only where a cycle has come and the values stand still
pub record IsBuilt (bits : ℕ) (net : Netlist) (m : Machine) (active : Active) (registers values before : Numbers) (still : Bool) (past : Past) : Type 0 where
  pub machine : IsMachine net m
  pub widths : All (λ c. c.width ≤ bits) net.cells
  pub state : IsState m.count registers values before
  pub others : HoldNothingElse net.cells (by_net m.places.items registers)
  pub stands : IsTrue still → IsStill (plan_of m) registers values × HasCome past
  pub came : IsPast net.cells past (by_net m.places.items values) (by_net m.places.items before)
  pub awake : IsAwake m.count m.program m.latches.items active
  pub settled : HasSettled m.program m.latches.items active values registers
  pub noted : IsTrue active.settled → (place : ℕ) → Lacks active.wake.touched place → at before place ≡ at values place

-- what clauses see of it
abbrev pub seen : Netlist → Machine → Numbers → Numbers → Numbers → Past → Simulator
seen net m registers values before past =
    record {
      net = net;
      registers = by_net m.places.items registers;
      settlings = settlings_of past (by_net m.places.items values) (by_net m.places.items before);
    }
