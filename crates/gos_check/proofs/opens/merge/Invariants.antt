use Rattle.std.proofs.Common.{◌≡◌, ◌+◌, ◌++◌, ◌≤◌, length}
use Rattle.gos_check.specs.Opens.{merged_splits, merged_names, merged_next}
use Rattle.gos_check.proofs.opens.merge.Given as goal

-- what is merged so far, and then what is left
abbrev pub invariant-loop-one : goal.invariant-loop-one
invariant-loop-one l =
    (l.merged.splits.items ++ merged_splits l.one-iterator.rest.items l.right.items l.merged.next ≡ merged_splits l.fn.left.items l.fn.right.items l.fn.next)
    × (l.merged.names.items ++ merged_names l.one-iterator.rest.items l.right.items l.merged.next ≡ merged_names l.fn.left.items l.fn.right.items l.fn.next)
    × (merged_next l.one-iterator.rest.items l.right.items l.merged.next ≡ merged_next l.fn.left.items l.fn.right.items l.fn.next)
    × (l.merged.next + length l.one-iterator.rest.items ≤ l.fn.next + length l.fn.left.items)
