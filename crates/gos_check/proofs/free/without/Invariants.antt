use Rattle.std.proofs.Common.{◌≡◌, ◌++◌}
use Rattle.gos_check.specs.Free.{without}
use Rattle.gos_check.proofs.free.without.Given as goal

-- the names kept so far, and those that are kept of what is left
abbrev pub invariant-loop-occurrence : goal.invariant-loop-occurrence
invariant-loop-occurrence l =
    l.kept.items ++ without l.name l.occurrence-iterator.rest.items ≡ without l.name l.fn.names.items
