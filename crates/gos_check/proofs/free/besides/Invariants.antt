use Rattle.std.specs.Prelude.{◌≡◌, ◌++◌}
use Rattle.gos_check.specs.Free.{besides}
use Rattle.gos_check.proofs.free.besides.Given as goal

-- the names kept so far, and then those of the rest
abbrev pub invariant-loop-occurrence : goal.invariant-loop-occurrence
invariant-loop-occurrence l =
    l.kept.items ++ besides l.fn.names l.occurrence-iterator.rest.items ≡ besides l.fn.names l.fn.others.items
