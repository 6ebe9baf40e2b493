use Rattle.std.proofs.Common.{◌≡◌, ◌+◌, ◌*◌, ◌≤◌, length}
use Rattle.gos_fast_share.specs.inner.Seen.{all_of, from, blocks_size}
use Rattle.gos_fast_share.proofs.blocks.all.Given as goal

-- the cells so far and those of the blocks to come are those of all
abbrev pub invariant-loop-shared : goal.invariant-loop-shared
invariant-loop-shared l =
    (l.total + blocks_size (from l.j l.ty) ≡ blocks_size (all_of l.ty))
    × (l.total ≤ 7 * l.j)
    × (l.j + length (from l.j l.ty) ≡ length (all_of l.ty))

abbrev pub decreases-loop-shared : goal.decreases-loop-shared
decreases-loop-shared l = length (from l.j l.ty)
