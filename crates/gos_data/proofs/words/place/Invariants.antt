use Rattle.std.proofs.Common.{◌≡◌, ◌+◌, ◌*◌, ◌≤◌}
use Rattle.gos_pool.specs.Pools.{Pool}
use Rattle.gos_macro.specs.Cells.{Places}
use Rattle.gos_data.specs.Words.{words_cells}
use Rattle.gos_data.specs.inner.Seen.{nets_of}
use Rattle.gos_data.proofs.words.place.Given as goal

-- who places the words that are left places all of them
abbrev pub invariant-loop-left : goal.invariant-loop-left
invariant-loop-left l =
    ((new : Pool) → Places (words_cells l.w l.bits (nets_of l.nets) l.next.base l.next.at l.next.x l.next.picked.0 l.left) l.pool new
    → Places (words_cells l.w l.bits (nets_of l.nets) l.fn.spot.base l.fn.spot.at l.fn.spot.x l.fn.spot.picked.0 l.fn.count) l.initial.pool new)
    × (l.next.base ≡ l.fn.spot.base)
    × (l.next.at + 7 * l.left ≡ l.fn.spot.at + 7 * l.fn.count)
    × (l.next.x + l.left ≡ l.fn.spot.x + l.fn.count)
    × (7 * l.left ≤ l.pool.spare)
    × (l.pool.begun ≡ l.initial.pool.begun)
    × (l.region ≡ l.initial.region)

abbrev pub decreases-loop-left : goal.decreases-loop-left
decreases-loop-left l = l.left
