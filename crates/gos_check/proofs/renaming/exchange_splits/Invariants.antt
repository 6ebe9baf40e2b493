use Rattle.std.specs.Prelude.{◌≡◌, ◌++◌, map, take, drop}
use Rattle.gos_check.specs.Numbering.{exchanged, renamed_split}
use Rattle.gos_check.proofs.renaming.exchange_splits.Given as goal

-- the splits before the index are renamed, and the others are as they were
abbrev pub invariant-loop-split : goal.invariant-loop-split
invariant-loop-split l =
    l.splits ≡ map (renamed_split (exchanged l.a l.b)) (take l.split-index l.initial.splits) ++ drop l.split-index l.initial.splits
