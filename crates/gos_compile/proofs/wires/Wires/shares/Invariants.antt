use Rattle.std.proofs.Common.{◌≡◌, ◌≤◌, ◌+◌, drop}
use Rattle.gos_compile.specs.inner.Tables.{types_at}
use Rattle.gos_compile.specs.inner.Walked.{seen, with_shares}
use Rattle.gos_compile.specs.inner.Loads.{spent, splits_load}
use Rattle.gos_compile.proofs.wires.Wires.shares.Given as goal

-- with the splits that are left it is what it is with all of them, and there is room for them
abbrev pub invariant-loop-split : goal.invariant-loop-split
invariant-loop-split l =
    (with_shares (types_at l.types) (drop l.split-index l.splits) (seen l.self) ≡ with_shares (types_at l.types) l.splits (seen l.initial.self))
    × (spent l.self + splits_load (drop l.split-index l.splits) (types_at l.types)
    ≤ spent l.initial.self + splits_load l.splits (types_at l.types))
