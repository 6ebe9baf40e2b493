use Rattle.std.proofs.Common.{◌≡◌, take, map}
use Rattle.gos_ties.specs.inner.Found.{bond_of}
use Rattle.gos_ties.proofs.numbers.bonds_of.Given as goal

-- the bonds of the ties so far
abbrev pub invariant-loop-tie : goal.invariant-loop-tie
invariant-loop-tie l = l.bonds.items ≡ map (bond_of l.numbers.points.keys) (take l.tie-index l.ties)
