-- What a sink in memory knows, and how a call changes it.
use Rattle.std.specs.Prelude.{ℕ, List, ◌++◌}
use Rattle.gos_outside.specs.Faults.{count_after}

-- the bytes so far, how many calls were made, the numbers of those that are to fail, and how many did
pub record SinkState : Type 0 where
  pub bytes : List ℕ
  pub calls : ℕ
  pub fail : List ℕ
  pub faults : ℕ

-- one more call was made
abbrev pub called : SinkState → SinkState
called state = record state { calls = count_after state.calls }

-- one more call was made, and failed; the bytes are as they were
abbrev pub failed : SinkState → SinkState
failed state = record (called state) { faults = count_after state.faults }

-- one more call was made, and appended these bytes
abbrev pub appended_to : List ℕ → SinkState → SinkState
appended_to bytes state = record (called state) { bytes = state.bytes ++ bytes }
