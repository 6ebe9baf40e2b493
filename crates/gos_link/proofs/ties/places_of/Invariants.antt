use Rattle.std.proofs.Common.{◌≡◌, ◌≤◌, ◌+◌, length}
use Rattle.gos_link.specs.inner.Wired.{PlacesAre, rank}
use Rattle.gos_link.proofs.ties.places_of.Given as goal

-- the places of the imports so far
abbrev pub invariant-loop-number : goal.invariant-loop-number
invariant-loop-number l =
    PlacesAre l.services l.plan l.from l.each.items × (length l.each.items ≡ l.number) × (l.stay ≡ l.from + rank l.services l.plan l.number)
    × (l.stay ≤ l.from + l.number)
