use Rattle.std.proofs.Common.{◌≡◌, ◌+◌, length}
use Rattle.gos_witness.specs.inner.Compaction.{ArePlaces, IsBeginning}
use Rattle.gos_witness.proofs.compacting.copy_marked.Given as goal

-- the places so far
abbrev pub invariant-loop-number : goal.invariant-loop-number
invariant-loop-number l =
    IsBeginning l.fn.list l.base l.kept
    × ArePlaces l.fn.list l.kept l.base l.places.items
    × (l.base + length l.places.items ≡ l.number)
