-- What a cycle of a driven run does.
--
-- Read first: Agenda, Queue. Between the driver's functions and their lemmas.
use Rattle.std.specs.Prelude.{◌≡◌, ◌≤◌, ◌<◌, ℕ, List, [], ◌∷◌, ◌++◌, All, reverse, take}
use Rattle.gos_netlist.specs.Settling.{Numbers, Settling, next_registers}
use Rattle.gos_netcheck.specs.Accepted.{IsAccepted}
use Rattle.gos_model.specs.Labels.{Label}
use Rattle.gos_pace.specs.Flattening.{inputs, outputs}
use Rattle.gos_pace.specs.Silence.{IsClean}
use Rattle.gos_sim.specs.Cycle.{Simulator}
use Rattle.gos_pulse.specs.declared.agenda.Agenda.{Agenda}
use Rattle.gos_pulse.specs.declared.board.Board.{Board}
use Rattle.gos_pulse.specs.declared.entries.Entry.{Entry}
use Rattle.gos_pulse.specs.Guarding.{inputs_of, outputs_of}
use Rattle.gos_pulse.specs.Driving.{GivesInput, GoesBy, BreaksAt, at_entries}
use Rattle.gos_pulse.specs.inner.Slots.{labels_of}
use Rattle.gos_pulse.specs.inner.Board.{Rests}
use Rattle.gos_pulse.specs.inner.Agenda.{IsAgenda}

-- cycle t of a run under the file can be run, with these `next` entries left
pub record CanRun (sim : Simulator) (t : ℕ) (agenda : Agenda) (file : List Entry) (since : ℕ) (queue : List Entry) (board : Board) : Type 0 where
  pub accepted : IsAccepted sim.net
  pub cycles : ℕ
  pub within : t < cycles
  pub agenda_of : IsAgenda cycles file agenda
  pub since_then : since ≤ t
  pub known : All (GivesInput sim.net) file
  pub left : All (GivesInput sim.net) queue
  pub past : List Label
  pub rests : Rests sim.net past board

-- Cycle t goes by the file, after these labels. It takes the simulator from one state to the next, and the board has
-- its pulses.
pub record RunsCycle (old : Simulator) (file : List Entry) (past : List Label) (t since : ℕ) (queue : List Entry) (last : ℕ) (rest : List Entry) (new : Simulator) (board : Board) : Type 0 where
  pub ins : Numbers
  pub values : Numbers
  pub came : List Label
  pub settled : Settling old.net.cells old.registers ins values
  pub clean : IsClean old.net ins
  pub registers : new.registers ≡ next_registers old.net.cells values
  pub newest : take 1 new.settlings ≡ values ∷ []
  pub goes : GoesBy old.net file past t since queue values came last rest
  pub rests : Rests old.net came board
  pub inputs_are : labels_of old.net.ports (inputs_of old.net) board.inputs.items ≡ inputs old.net values
  pub outputs_are : labels_of old.net.ports (outputs_of old.net) board.outputs.items ≡ outputs old.net values
  pub left : All (GivesInput old.net) rest

-- in cycle t, after these labels, the first `at` entry that the protocol doesn't allow gives this event
pub record BreaksCycle (old : Simulator) (file : List Entry) (past : List Label) (t event : ℕ) : Type 0 where
  pub ins : Numbers
  pub values : Numbers
  pub settled : Settling old.net.cells old.registers ins values
  pub clean : IsClean old.net ins
  pub breaks : BreaksAt old.net (reverse (outputs old.net values) ++ past) (at_entries t file) event
