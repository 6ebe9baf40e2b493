-- Places: nets numbered anew, so that a simulator keeps their values in the order in which it writes them.
--
-- Read first: Program.
use Rattle.std.specs.Prelude.{◌≡◌, ◌≢◌, ℕ, suc, ◌<◌, ◌≤◌, if◌then◌else◌, Some, List, [], ◌∷◌, length, map, nat_eq, slice_get}
use Rattle.std.specs.Option.{option_map}
use Rattle.gos_netlist.specs.Renamed.{renamed}
use Rattle.gos_netlist.specs.Seen.{function_of}
use Rattle.gos_netlist.specs.Settling.{Numbers, at}
use Rattle.gos_sim.specs.declared.event_nets.EventNets.{EventNets}
use Rattle.gos_sim.specs.declared.program.Step.{Step}
use Rattle.gos_sim.specs.declared.program.Latch.{Latch}
use Rattle.gos_sim.specs.inner.Evaluation.{bits_of}

-- the values of the nets, from those at their places
abbrev pub by_net : Numbers → Numbers → Numbers
by_net places values = map (at values) places

-- a step, a latch and an event whose nets are moved to their places; the step keeps its bits only where they matter
pub record IsStepMoved (p : ℕ → ℕ) (old new : Step) : Type 0 where
  pub net : new.net ≡ p old.net
  pub width : new.width ≡ bits_of (function_of old.gate) old.width
  pub gate : function_of new.gate ≡ renamed p (function_of old.gate)

abbrev pub latch_moved : (ℕ → ℕ) → Latch → Latch
latch_moved p l = record { net = p l.net; pin = p l.pin }

abbrev pub event_moved : (ℕ → ℕ) → EventNets → EventNets
event_moved p e = record { input = e.input; pulse = p e.pulse; number = option_map p e.number }

-- each of these steps is the one of those, moved
pub record AreStepsMoved (p : ℕ → ℕ) (old new : List Step) : Type 0 where
  pub each : length new ≡ length old
  pub moved : (j : ℕ) (s t : Step) → slice_get old j ≡ Some s → slice_get new j ≡ Some t → IsStepMoved p s t

-- where a net has no place yet
abbrev pub none : ℕ
none = 4294967295

-- how many nets have a place
abbrev pub placed : Numbers → ℕ
placed [] = 0
placed (p ∷ ps) = if nat_eq p none then placed ps else suc (placed ps)

-- so many nets have places below their number, no two the same, and places are numbers of 32 bits
pub record IsPartly (places : Numbers) (count : ℕ) : Type 0 where
  pub few : length places ≤ none
  pub counted : count ≡ placed places
  pub below : (n : ℕ) → n < length places → at places n ≢ none → at places n < count
  pub one : (a b : ℕ) → a < length places → b < length places → at places a ≢ none → at places b ≢ none → at places a ≡ at places b → a ≡ b

-- all nets have places below a number, no two the same
pub record IsNumbering (places : Numbers) (count : ℕ) : Type 0 where
  pub below : (n : ℕ) → n < length places → at places n < count
  pub one : (a b : ℕ) → a < length places → b < length places → at places a ≡ at places b → a ≡ b
