-- What is given of the `next` entries in a cycle.
--
-- Read first: Board. Between the driver's functions and their lemmas.
use Rattle.std.specs.Prelude.{◌≡◌, ◌≤◌, ◌<◌, ◌+◌, ℕ, true, List, ◌∷◌, ◌++◌, All, reverse}
use Rattle.gos_netlist.specs.Nets.{Netlist}
use Rattle.gos_model.specs.Labels.{Label}
use Rattle.gos_pulse.specs.declared.board.Board.{Board}
use Rattle.gos_pulse.specs.declared.entries.Entry.{Entry}
use Rattle.gos_pulse.specs.Guarding.{HasPorts}
use Rattle.gos_pulse.specs.Driving.{GivesInput, GivesIn, IsHeld}
use Rattle.gos_pulse.specs.inner.Board.{IsTried, Stands}

-- these entries may be given
pub record CanGiveAll (entries : List Entry) (board : Board) : Type 0 where
  pub net : Netlist
  pub ports : HasPorts net
  pub past : List Label
  pub given : List Label
  pub stands : Stands net past given board
  pub known : All (GivesInput net) entries

-- in cycle t the first of the entries was given
pub record IsFirstGiven (net : Netlist) (past given : List Label) (t since : ℕ) (entries rest : List Entry) (board : Board) : Type 0 where
  pub entry : Entry
  pub first : entries ≡ entry ∷ rest
  pub passed : since + entry.number ≤ t
  pub tried : IsTried net past given entry true board

-- it was not
pub record IsFirstHeld (net : Netlist) (past given : List Label) (t since : ℕ) (entries : List Entry) (board : Board) : Type 0 where
  pub held : IsHeld net (reverse given ++ past) t since entries
  pub stands : Stands net past given board

-- where the first of the `next` entries is held in cycle t, it is so in the cycles behind it up to before another one, after
-- the same labels
abbrev pub StaysHeld : ℕ → ℕ → List Entry → ℕ → Type 0
StaysHeld t since entries end =
    (net : Netlist) (past : List Label) (later : ℕ) → t < later → later < end → IsHeld net past t since entries → IsHeld net past later since entries

-- In cycle t all was given that may be given of the entries. What is left is `rest`, and the last was given
-- in cycle `last`.
pub record AreGiven (net : Netlist) (past given : List Label) (t since : ℕ) (entries : List Entry) (last : ℕ) (rest : List Entry) (board : Board) : Type 0 where
  pub labels : List Label
  pub gives : GivesIn net (reverse given ++ past) t since entries labels last rest
  pub stands : Stands net past (given ++ labels) board
  pub known : All (GivesInput net) rest
