use Rattle.std.proofs.Common.{◌≡◌, ◌++◌}
use Rattle.gos_check.specs.Opens.{others}
use Rattle.gos_check.proofs.opens.others.Given as goal

-- the names kept so far, and those that are kept of what is left
abbrev pub invariant-loop-one : goal.invariant-loop-one
invariant-loop-one l = l.kept.items ++ others l.name l.one-iterator.rest.items ≡ others l.name l.fn.names.items
