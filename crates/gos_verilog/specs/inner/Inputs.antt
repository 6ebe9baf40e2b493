-- Which cells are taken by inputs, and which inputs feed Input cells.
--
-- Read first: Drivers, Readable. Between the reader's test and its lemmas.
use Rattle.std.specs.Prelude.{◌≡◌, ℕ, ◌<◌, true, Bool, List, Some, slice_get}
use Rattle.gos_netlist.specs.Nets.{Input, Cell}
use Rattle.gos_netcheck.specs.Rules.{KeptBefore, Kept}
use Rattle.gos_verilog.specs.PortNets.{PortNet}
use Rattle.gos_verilog.specs.Readable.{IsInputCell, HasOwnCell}
use Rattle.gos_verilog.specs.inner.Drivers.{FeedsAt}

-- a cell is taken
abbrev pub IsTaken : List Bool → ℕ → Type 0
IsTaken taken n = slice_get taken n ≡ Some true

-- an Input cell is taken
abbrev pub IsTakenInput : List Bool → ℕ → Cell → Type 0
IsTakenInput taken n cell = cell.gate ≡ Input → IsTaken taken n

-- each Input cell is an input
abbrev pub AreFed : List PortNet → List Cell → Type 0
AreFed nets = Kept (λ n cell. cell.gate ≡ Input → (k : ℕ) × FeedsAt nets k n)

-- the nets before place i keep the rules for inputs, and the cells that are taken are those of the inputs among them
pub record AreTaken (cells : List Cell) (nets : List PortNet) (i : ℕ) (taken : List Bool) : Type 0 where
  pub inputs : KeptBefore (λ _ n. IsInputCell cells n) nets i
  pub once : KeptBefore (HasOwnCell nets) nets i
  pub marks : KeptBefore (λ _ n. n.input ≡ true → IsTaken taken n.cell) nets i
  pub only : (n : ℕ) → IsTaken taken n → (k : ℕ) × (k < i) × FeedsAt nets k n
