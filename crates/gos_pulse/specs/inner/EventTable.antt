-- The table of a netlist's input events, by name.
use Rattle.std.specs.Prelude.{◌≡◌, ◌<◌, ℕ, List, Some, All, length}
use Rattle.gos_lex.specs.NameTables.{number_at}
use Rattle.gos_lex.specs.declared.table.NameTable.{NameTable}
use Rattle.gos_netlist.specs.Events.{events_of}
use Rattle.gos_netlist.specs.declared.event.Event.{Event}
use Rattle.gos_netlist.specs.Nets.{NetPort, Netlist}
use Rattle.gos_lex.specs.Lines.{Word}
use Rattle.gos_pulse.specs.EventNames.{IsInputOf}
use Rattle.gos_pulse.specs.declared.event_table.EventTable.{EventTable}

-- the ports of all events are among so many
abbrev pub HasPorts : ℕ → List Event → Type 0
HasPorts n events = All (λ event. event.port < n) events

-- a table has the names of all inputs among the first n events, and has only such
pub record IsTableOf (ports : List NetPort) (events : List Event) (n : ℕ) (numbers : NameTable) : Type 0 where
  pub sound : (name : Word) (i : ℕ) → number_at numbers name ≡ Some i → (event : Event) × IsInputOf ports events i event name
  pub complete : (i : ℕ) (event : Event) (name : Word) → i < n → IsInputOf ports events i event name → (j : ℕ) × (number_at numbers name ≡ Some j)

-- the table of a netlist
pub record IsTable (net : Netlist) (table : EventTable) : Type 0 where
  pub events : table.events.items ≡ events_of net
  pub numbers : IsTableOf net.ports (events_of net) (length (events_of net)) table.numbers
