use Rattle.std.proofs.Common.{◌≢◌, ◌<◌, ℕ, None}
use Rattle.gos_model.specs.Stores.{entry_at}
use Rattle.gos_witness.specs.inner.Rows.{entries_of}
use Rattle.gos_witness.proofs.store.least_new.Given as goal

-- the store has all locations so far
abbrev pub invariant-loop-place : goal.invariant-loop-place
invariant-loop-place l = (k : ℕ) → k < l.place → entry_at (entries_of l.store) k ≢ None
