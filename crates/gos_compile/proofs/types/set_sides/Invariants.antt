use Rattle.std.proofs.Common.{◌≡◌, drop}
use Rattle.gos_compile.specs.inner.Tables.{types_at}
use Rattle.gos_compile.specs.Wiring.{with_sides}
use Rattle.gos_compile.proofs.types.set_sides.Given as goal

-- with the splits that are left the types are those with all splits
abbrev pub invariant-loop-split : goal.invariant-loop-split
invariant-loop-split l =
    with_sides (drop l.split-index l.splits) (types_at l.types.items) ≡ with_sides l.splits (types_at l.initial.types.items)
