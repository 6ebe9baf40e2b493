use Rattle.std.proofs.Common.{◌≡◌}
use Rattle.gos_link.specs.BuildFile.{sum_of, nothing}
use Rattle.gos_link.specs.inner.Noting.{sum_noted}
use Rattle.gos_link.proofs.noting.note_all.Given as goal

-- what is noted and the lines that are left say what all lines say
abbrev pub invariant-loop-item : goal.invariant-loop-item
invariant-loop-item l = sum_of (sum_noted l.noted) l.item-iterator.rest.items ≡ sum_of nothing l.fn.items.items
