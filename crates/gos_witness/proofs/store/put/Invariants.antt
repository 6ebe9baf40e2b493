use Rattle.std.proofs.Common.{◌≡◌, ◌++◌, take, drop}
use Rattle.gos_model.specs.Stores.{store_put}
use Rattle.gos_witness.specs.inner.Rows.{entries_of}
use Rattle.gos_witness.proofs.store.put.Given as goal

-- nothing is written yet, and none of the entries so far has the location
abbrev pub invariant-loop-at : goal.invariant-loop-at
invariant-loop-at l =
    (l.store ≡ l.fn.store)
    × (store_put (entries_of l.fn.store) l.place l.index l.number
    ≡ entries_of (take l.at l.fn.store) ++ store_put (entries_of (drop l.at l.fn.store)) l.place l.index l.number)
