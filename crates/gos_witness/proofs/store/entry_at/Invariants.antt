use Rattle.std.proofs.Common.{◌≡◌, drop}
use Rattle.gos_model.specs.Stores.{entry_at}
use Rattle.gos_witness.specs.inner.Rows.{AreNarrow, entries_of}
use Rattle.gos_witness.proofs.store.entry_at.Given as goal

-- none of the entries so far has the location
abbrev pub invariant-loop-entry : goal.invariant-loop-entry
invariant-loop-entry l =
    (entry_at (entries_of (drop l.entry-index l.store)) l.place ≡ entry_at (entries_of l.store) l.place)
    × (AreNarrow l.store → AreNarrow (drop l.entry-index l.store))
