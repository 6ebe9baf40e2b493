-- Which `at` entries each cycle has, and what is taken of them.
--
-- Read first: Board. Between the driver's functions and their lemmas.
use Rattle.std.specs.Prelude.{◌≡◌, ◌≤◌, ◌<◌, ℕ, suc, true, List, [], All, Some, length, drop, get_or, slice_get}
use Rattle.gos_netlist.specs.Nets.{Netlist}
use Rattle.gos_model.specs.Labels.{Label}
use Rattle.gos_pulse.specs.declared.agenda.Agenda.{Agenda}
use Rattle.gos_pulse.specs.declared.board.Board.{Board}
use Rattle.gos_pulse.specs.declared.entries.Entry.{Entry}
use Rattle.gos_pulse.specs.Driving.{GivesInput, TakesAll, at_entries}
use Rattle.gos_pulse.specs.Guarding.{HasPorts}
use Rattle.gos_pulse.specs.inner.Board.{Stands}

-- From place `from` on, the first `at` entry of cycle t stands at this place, or there is none and it is the
-- number of entries.
pub record IsNextAt (t : ℕ) (file : List Entry) (from place : ℕ) : Type 0 where
  pub after : from ≤ place
  pub within : place ≤ length file
  pub skips : at_entries t (drop from file) ≡ at_entries t (drop place file)
  pub here : (entry : Entry) → slice_get file place ≡ Some entry → (entry.at ≡ true) × (entry.number ≡ t)

-- the agenda of the entries from place `from` on
pub record IsAgendaFrom (cycles : ℕ) (file : List Entry) (from : ℕ) (agenda : Agenda) : Type 0 where
  pub first_each : length agenda.first.items ≡ cycles
  pub next_each : length agenda.next.items ≡ length file
  pub first : (t : ℕ) → t < cycles → IsNextAt t file from (get_or agenda.first.items t 0)
  pub next : (k : ℕ) (entry : Entry) → from ≤ k → slice_get file k ≡ Some entry → entry.at ≡ true → entry.number < cycles → IsNextAt entry.number file (suc k) (get_or agenda.next.items k 0)

abbrev pub IsAgenda : ℕ → List Entry → Agenda → Type 0
IsAgenda cycles file agenda = IsAgendaFrom cycles file 0 agenda

-- no cycle from one on, up to before another one, has an `at` entry
abbrev pub HaveNone : List Entry → ℕ → ℕ → Type 0
HaveNone file from end = (t : ℕ) → from ≤ t → t < end → at_entries t file ≡ []

-- the entries of the cycle may be taken
pub record CanTakeAll (agenda : Agenda) (cycle : ℕ) (file : List Entry) (board : Board) : Type 0 where
  pub net : Netlist
  pub ports : HasPorts net
  pub cycles : ℕ
  pub past : List Label
  pub agenda_of : IsAgenda cycles file agenda
  pub within : cycle < cycles
  pub stands : Stands net past [] board
  pub entries : All (GivesInput net) file

-- all these entries were taken
pub record AreTaken (net : Netlist) (past : List Label) (entries : List Entry) (board : Board) : Type 0 where
  pub taken : List Label
  pub takes : TakesAll net past entries taken
  pub stands : Stands net past taken board
