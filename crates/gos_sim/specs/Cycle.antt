-- What a simulator is seen as, and what a cycle does.
--
-- Read first: EventNets; Settling of gos_netlist.
use Rattle.std.specs.Prelude.{◌≡◌, ℕ, ◌<◌, ◌^◌, ◌⊎◌, Bool, Contains, List, [], ◌∷◌, take, Option, Some, None, slice_get, length, map, replicate, nat_eq, if◌then◌else◌}
use Rattle.gos_netlist.specs.Nets.{Cell, Netlist}
use Rattle.gos_netlist.specs.Settling.{Numbers, at, Settling, next_registers}
use Rattle.gos_sim.specs.declared.event_nets.EventNets.{EventNets}
use Rattle.gos_sim.specs.declared.pulse.Pulse.{Pulse}
use Rattle.gos_sim.specs.EventNets.{input_events, output_events}

-- A simulator: its netlist; a number for each cell, which is what its register holds, 0 where it is none; and the settlings
-- of its last two cycles since it was made or reset, the newest one first, or of as many as there were.
pub record Simulator : Type 0 where
  pub net : Netlist
  pub registers : Numbers
  pub settlings : List Numbers

-- the simulator of a netlist with all registers 0, before its first cycle
abbrev pub at_reset : Netlist → Simulator
at_reset net = record { net = net; registers = replicate (length net.cells) 0; settlings = [] }

-- a number of at most 32 bits, or of as many as one of these cells has
abbrev pub IsWord : List Cell → ℕ → Type 0
IsWord cells n = (n < 2 ^ 32) ⊎ ((c : Cell) × Contains cells c × (n < 2 ^ c.width))

-- the value of a pulse's net
abbrev pub bit : Bool → ℕ
bit on = if on then 1 else 0

-- an event without a number has no net for it, and any other one has the number there
abbrev pub HasNumber : Numbers → Option ℕ → ℕ → Type 0
HasNumber v None k = Unit {0}
HasNumber v (Some x) k = at v x ≡ k

-- the nets of an event have what the pulse gives
abbrev pub Gives : Numbers → EventNets → Pulse → Type 0
Gives v e p = (at v e.pulse ≡ bit p.on) × HasNumber v e.number p.value

-- the nets of each event have what its pulse gives
abbrev pub GivesAll : List EventNets → List Pulse → Numbers → Type 0
GivesAll es ps v = (k : ℕ) (e : EventNets) (p : Pulse) → slice_get es k ≡ Some e → slice_get ps k ≡ Some p → Gives v e p

-- the number that an event shows; 0 where it has none
abbrev pub number_shown : Numbers → Option ℕ → ℕ
number_shown v None = 0
number_shown v (Some x) = at v x

-- what an event shows where the nets have these values
abbrev pub pulse_shown : Numbers → EventNets → Pulse
pulse_shown v e = record { on = nat_eq (at v e.pulse) 1; value = number_shown v e.number }

-- the outputs of a cycle with these values, in event order
abbrev pub outputs_shown : Netlist → Numbers → List Pulse
outputs_shown net v = map (pulse_shown v) (output_events net)

-- A cycle takes a simulator from one state to the next: the values are the settling of the netlist for the registers and
-- the inputs given, outputs are what it shows, and the next registers are those after it.
pub record IsCycle (old : Simulator) (given shown : List Pulse) (new : Simulator) : Type 0 where
  pub ins : Numbers
  pub values : Numbers
  pub inputs : GivesAll (input_events old.net) given ins
  pub settled : Settling old.net.cells old.registers ins values
  pub outputs : shown ≡ outputs_shown old.net values
  pub registers : new ≡ record { net = old.net; registers = next_registers old.net.cells values; settlings = values ∷ take 1 old.settlings }

-- the outputs of every settling from here on, whatever the inputs are
abbrev pub IsNextOutput : Simulator → List Pulse → Type 0
IsNextOutput sim shown =
    (ins v : Numbers) → Settling sim.net.cells sim.registers ins v → shown ≡ outputs_shown sim.net v
