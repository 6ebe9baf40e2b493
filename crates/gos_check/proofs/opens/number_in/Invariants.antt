use Rattle.std.proofs.Common.{◌≡◌, drop}
use Rattle.gos_check.specs.Opens.{number_in}
use Rattle.gos_check.proofs.opens.number_in.Given as goal

-- the name isn't among those before
abbrev pub invariant-loop-one : goal.invariant-loop-one
invariant-loop-one l = number_in l.names l.name ≡ number_in (drop l.one-index l.names) l.name
