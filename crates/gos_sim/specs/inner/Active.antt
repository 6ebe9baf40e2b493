-- What has to be evaluated: steps and latches are items, and an item that isn't marked stands as it must.
--
-- Read first: Running, Marks, Readers.
use Rattle.std.specs.Prelude.{◌≡◌, ◌≢◌, ℕ, ◌+◌, ◌<◌, ◌≤◌, ◌^◌, IsTrue, IsFalse, List, All, Some, length, slice_get}
use Rattle.gos_netlist.specs.Settling.{Numbers, at, shown}
use Rattle.gos_netlist.specs.Seen.{function_of}
use Rattle.gos_sim.specs.declared.event_nets.EventNets.{EventNets}
use Rattle.gos_sim.specs.declared.program.Step.{Step}
use Rattle.gos_sim.specs.declared.program.Latch.{Latch}
use Rattle.gos_sim.specs.declared.log.Log.{Log}
use Rattle.gos_sim.specs.declared.active.Active.{Active}
use Rattle.gos_sim.specs.declared.wake.Wake.{Wake}
use Rattle.gos_sim.specs.EventNets.{Names}
use Rattle.gos_sim.specs.inner.Program.{HasLatch}
use Rattle.gos_sim.specs.inner.Running.{AreShown, AreTaken, KeepsOtherSteps, KeepsOthers}
use Rattle.gos_sim.specs.inner.Marks.{AreUnmarked, IsUnmarked, KeepsMarks}
use Rattle.gos_sim.specs.inner.Readers.{AreLinked, ReadAll, Reads}

-- a log that had room for all places lacks this one
abbrev pub Lacks : Log → ℕ → Type 0
Lacks log place = IsFalse log.full × All (λ p. p ≢ place) log.places.items

-- readers of so many places, with marks for all of them, and places that are noted
pub record IsWake (count : ℕ) (wake : Wake) : Type 0 where
  pub each : length wake.readers.heads.items ≡ count
  pub linked : AreLinked (length wake.marks.words.items) wake.readers
  pub few : length wake.marks.words.items ≤ 2 ^ 32
  pub within : All (λ p. p < count) wake.touched.places.items

-- Values change: what reads a place whose value differs is marked, and the place is noted.
pub record Follows (old new : Wake) (before after : Numbers) : Type 0 where
  pub readers : new.readers ≡ old.readers
  pub each : length new.marks.words.items ≡ length old.marks.words.items
  pub kept : KeepsMarks old.marks.words.items new.marks.words.items
  pub marked : (place item : ℕ) → Reads old.readers place item → IsUnmarked new.marks.words.items item → at after place ≡ at before place
  pub noted : (place : ℕ) → Lacks new.touched place → Lacks old.touched place × (at after place ≡ at before place)

-- nets that no event names have what they had
abbrev pub KeepsOtherEvents : List EventNets → Numbers → Numbers → Type 0
KeepsOtherEvents events old new =
    (n : ℕ) → ((j : ℕ) (e : EventNets) → slice_get events j ≡ Some e → Names e n → ⊥) → at new n ≡ at old n

-- the nets of the registers that aren't noted have what these hold
abbrev pub AreLoadedButNoted : List Latch → Log → Numbers → Numbers → Type 0
AreLoadedButNoted latches changed registers v =
    (j : ℕ) (l : Latch) → slice_get latches j ≡ Some l → Lacks changed l.net → at v l.net ≡ at registers l.net

-- a step that isn't marked shows what its cell does, but for one item
abbrev pub AreShownBut : List Step → Numbers → Numbers → ℕ → Type 0
AreShownBut steps marks v item =
    (k : ℕ) (s : Step) → slice_get steps k ≡ Some s → IsUnmarked marks k → k ≢ item → at v s.net ≡ shown s.width (function_of s.gate) 0 0 (at v)

-- a register that isn't marked holds what its pin has, but for one item
abbrev pub AreTakenBut : ℕ → List Latch → Numbers → Numbers → Numbers → ℕ → Type 0
AreTakenBut first latches marks v registers item =
    (j : ℕ) (l : Latch) → slice_get latches j ≡ Some l → IsUnmarked marks (first + j) → first + j ≢ item → at registers l.net ≡ at v l.pin

-- an item that isn't marked stands as it must, but for one
pub record StandBut (steps : List Step) (latches : List Latch) (marks v registers : Numbers) (item : ℕ) : Type 0 where
  pub shown : AreShownBut steps marks v item
  pub taken : AreTakenBut (length steps) latches marks v registers item

-- an item that isn't marked stands as it must
pub record Stand (steps : List Step) (latches : List Latch) (marks v registers : Numbers) : Type 0 where
  pub shown : (k : ℕ) (s : Step) → slice_get steps k ≡ Some s → IsUnmarked marks k → at v s.net ≡ shown s.width (function_of s.gate) 0 0 (at v)
  pub taken : (j : ℕ) (l : Latch) → slice_get latches j ≡ Some l → IsUnmarked marks (length steps + j) → at registers l.net ≡ at v l.pin

-- How far a cycle has come that began with some values and registers, and in which others were loaded.
pub record HasSwept (steps : List Step) (latches : List Latch) (start loaded held : Numbers) (active : Active) (v registers : Numbers) : Type 0 where
  pub noted : (place : ℕ) → Lacks active.wake.touched place → at v place ≡ at start place
  pub others : KeepsOtherSteps steps loaded v
  pub rest : KeepsOthers latches held registers
  pub unchanged : AreLoadedButNoted latches active.changed registers v
  pub listed : All (HasLatch latches) active.changed.places.items

-- it comes further, whatever it began with
abbrev pub SweepsOn : List Step → List Latch → Active → Numbers → Numbers → Active → Numbers → Numbers → Type 0
SweepsOn steps latches old v registers new w after =
    (start loaded held : Numbers) → HasSwept steps latches start loaded held old v registers → HasSwept steps latches start loaded held new w after

-- Between cycles nothing is marked.
pub record IsAwake (count : ℕ) (steps : List Step) (latches : List Latch) (active : Active) : Type 0 where
  pub wake : IsWake count active.wake
  pub reading : ReadAll steps latches active.wake.readers
  pub unmarked : AreUnmarked active.wake.marks.words.items
  pub noted : All (HasLatch latches) active.changed.places.items

-- After a cycle each step shows what its cell does, each register holds what its pin has, and the nets of the registers that aren't
-- noted have what these hold.
pub record IsSettled (steps : List Step) (latches : List Latch) (active : Active) (v registers : Numbers) : Type 0 where
  pub shown : AreShown steps v
  pub taken : AreTaken latches v registers
  pub unchanged : AreLoadedButNoted latches active.changed registers v

-- where it says so, it has settled
abbrev pub HasSettled : List Step → List Latch → Active → Numbers → Numbers → Type 0
HasSettled steps latches active v registers = IsTrue active.settled → IsSettled steps latches active v registers

-- what is awake stays so
abbrev pub KeepsAwake : Active → Active → Type 0
KeepsAwake old new = (count : ℕ) (steps : List Step) (latches : List Latch) → IsAwake count steps latches old → IsAwake count steps latches new

-- nothing more is asked for it to be settled than of a cycle that evaluated all
abbrev pub IsReadyToSettle : Active → Type 0
IsReadyToSettle active =
    (steps : List Step) (latches : List Latch) (v registers : Numbers) → AreShown steps v → AreTaken latches v registers → IsSettled steps latches active v registers
