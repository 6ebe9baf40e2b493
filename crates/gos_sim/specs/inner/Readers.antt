-- Readers: the items that read each place. The items are the steps, by number, and then the latches.
--
-- Read first: Program, Marks. The readers of a place are linked, each to the one before it. A link is one more than the reader's
-- place; 0 is none.
use Rattle.std.specs.Prelude.{◌≡◌, ℕ, ◌+◌, ◌<◌, ◌≤◌, ◌/◌, List, All, Some, length, slice_get}
use Rattle.gos_netlist.specs.Settling.{at}
use Rattle.gos_sim.specs.declared.program.Step.{Step}
use Rattle.gos_sim.specs.declared.program.Latch.{Latch}
use Rattle.gos_sim.specs.declared.readers.Reader.{Reader}
use Rattle.gos_sim.specs.declared.readers.Readers.{Readers}
use Rattle.gos_sim.specs.inner.Program.{reads}

-- an item stands on the chain that a link begins
pub data IsOn (all : List Reader) (item : ℕ) : ℕ → Type 0 where
  here : (link place : ℕ) (r : Reader) → link ≡ place + 1 → slice_get all place ≡ Some r → r.item ≡ item → IsOn all item link
  behind : (link place : ℕ) (r : Reader) → link ≡ place + 1 → slice_get all place ≡ Some r → IsOn all item r.next → IsOn all item link

-- an item reads a place
abbrev pub Reads : Readers → ℕ → ℕ → Type 0
Reads readers place item = IsOn readers.all.items item (at readers.heads.items place)

-- what reads a place goes on reading it
abbrev pub KeepsReaders : Readers → Readers → Type 0
KeepsReaders old new = (place item : ℕ) → Reads old place item → Reads new place item

-- links that stay among the readers and go down, and items within so many words of marks
pub record AreLinked (words : ℕ) (readers : Readers) : Type 0 where
  pub heads : All (λ link. link ≤ length readers.all.items) readers.heads.items
  pub down : (k : ℕ) (r : Reader) → slice_get readers.all.items k ≡ Some r → r.next ≤ k
  pub items : (k : ℕ) (r : Reader) → slice_get readers.all.items k ≡ Some r → r.item / 64 < words

-- each step reads its pins
abbrev pub AreStepsReading : List Step → Readers → Type 0
AreStepsReading steps readers =
    (k : ℕ) (s : Step) → slice_get steps k ≡ Some s → All (λ p. Reads readers p k) (reads s)

-- each latch reads its pin; the first of them has this number
abbrev pub AreLatchesReading : ℕ → List Latch → Readers → Type 0
AreLatchesReading first latches readers =
    (k : ℕ) (l : Latch) → slice_get latches k ≡ Some l → Reads readers l.pin (first + k)

-- each step reads its pins, and each latch behind them its own
pub record ReadAll (steps : List Step) (latches : List Latch) (readers : Readers) : Type 0 where
  pub stepped : AreStepsReading steps readers
  pub latched : AreLatchesReading (length steps) latches readers
