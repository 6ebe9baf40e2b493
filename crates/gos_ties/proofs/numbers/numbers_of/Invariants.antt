use Rattle.std.proofs.Common.{drop}
use Rattle.gos_ties.proofs.PointLemmas.{HaveNumbers}
use Rattle.gos_ties.proofs.numbers.numbers_of.Given as goal

-- the points of the ties so far have numbers
abbrev pub invariant-loop-tie : goal.invariant-loop-tie
invariant-loop-tie l = HaveNumbers l.numbers.points.keys (drop l.tie-index l.ties) l.ties
