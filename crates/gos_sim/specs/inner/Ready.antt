-- What a simulator asks of a netlist. Each accepted netlist has it.
--
-- Read first: EventNets, Program.
use Rattle.std.specs.Prelude.{◌≡◌, ◌≢◌, ℕ, ◌<◌, ◌≤◌, List, All, Some, length, slice_get}
use Rattle.gos_netlist.specs.Nets.{Input, Cell, Netlist, pins}
use Rattle.gos_netlist.specs.Cycles.{IsRegister}
use Rattle.gos_sim.specs.declared.event_nets.EventNets.{EventNets}
use Rattle.gos_sim.specs.EventNets.{input_events, output_events, OnNets, Names}
use Rattle.gos_netlist.specs.Events.{net_count}
use Rattle.gos_sim.specs.inner.Program.{IsShort}

-- a cell whose pins are below a count
pub record IsCellWithin (count : ℕ) (c : Cell) : Type 0 where
  pub pins : All (λ a. a < count) (pins c.gate)

-- all cells, each with pins that are cells
abbrev pub AreCellsReady : List Cell → Type 0
AreCellsReady cells = (n : ℕ) (c : Cell) → slice_get cells n ≡ Some c → IsCellWithin (length cells) c

-- the net is an input
abbrev pub IsInputNet : List Cell → ℕ → Type 0
IsInputNet cells n = (c : Cell) × (slice_get cells n ≡ Some c) × (c.gate ≡ Input)

-- the net is a register
abbrev pub IsRegisterNet : List Cell → ℕ → Type 0
IsRegisterNet cells n = (c : Cell) × (slice_get cells n ≡ Some c) × IsRegister c.gate

-- the net of an event's pulse is not that of its number
abbrev pub AreTwo : EventNets → Type 0
AreTwo e = (x : ℕ) → e.number ≡ Some x → e.pulse ≢ x

-- no net stands twice among those of events
pub record AreApart (events : List EventNets) : Type 0 where
  pub within : All AreTwo events
  pub between : (j k a : ℕ) (e f : EventNets) → slice_get events j ≡ Some e → slice_get events k ≡ Some f → Names e a → Names f a → j ≡ k

-- what is asked
pub record IsReady (net : Netlist) : Type 0 where
  pub cells : AreCellsReady net.cells
  pub constants : (n : ℕ) (c : Cell) → slice_get net.cells n ≡ Some c → IsShort c.width c.gate
  pub counts : All (λ p. net_count p.ty ≤ length p.nets) net.ports
  pub inputs : All (OnNets (IsInputNet net.cells)) (input_events net)
  pub outputs : All (OnNets (IsRegisterNet net.cells)) (output_events net)
  pub apart : AreApart (input_events net)
