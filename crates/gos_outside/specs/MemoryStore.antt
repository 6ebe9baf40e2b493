-- What a store in memory knows, and how a call changes it.
use Rattle.std.specs.Prelude.{ℕ, List, ◌/◌, length, take}
use Rattle.std.specs.FinMap.{insert}
use Rattle.gos_outside.specs.Files.{Files}
use Rattle.gos_outside.specs.Faults.{LastFault, WriteFault, count_after}

-- the files, how many calls were made, the numbers of those that are to fail, and the faults so far
pub record StoreState : Type 0 where
  pub files : Files
  pub calls : ℕ
  pub fail : List ℕ
  pub faults : ℕ
  pub last_fault : LastFault

-- one more call was made
abbrev pub called : StoreState → StoreState
called state = record state { calls = count_after state.calls }

-- one more call was made, and failed so; the files are as they were
abbrev pub failed_by : LastFault → StoreState → StoreState
failed_by fault state =
    record (called state) { faults = count_after state.faults; last_fault = fault }

-- one more call was made, and the file of this name now holds these bytes
abbrev pub written_to : List ℕ → List ℕ → StoreState → StoreState
written_to name bytes state = record (called state) { files = insert state.files name bytes }

-- the first half of these bytes, rounded down
abbrev pub first_half : List ℕ → List ℕ
first_half bytes = take (length bytes / 2) bytes

-- one more call was made, a write that failed, and the file of this name now holds the first half of the bytes
abbrev pub half_written_to : List ℕ → List ℕ → StoreState → StoreState
half_written_to name bytes state = failed_by (WriteFault name) (record state { files = insert state.files name (first_half bytes) })
