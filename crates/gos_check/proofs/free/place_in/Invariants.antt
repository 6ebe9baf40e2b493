use Rattle.std.proofs.Common.{◌≡◌, drop}
use Rattle.gos_check.specs.Free.{place_in}
use Rattle.gos_check.proofs.free.place_in.Given as goal

-- what is left has the place that all have
abbrev pub invariant-loop-occurrence : goal.invariant-loop-occurrence
invariant-loop-occurrence l = place_in (drop l.occurrence-index l.names) l.name ≡ place_in l.names l.name
