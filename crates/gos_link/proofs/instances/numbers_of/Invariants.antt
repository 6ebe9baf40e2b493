use Rattle.std.proofs.Common.{drop}
use Rattle.gos_link.proofs.FirstLemmas.{AreFirstSo}
use Rattle.gos_link.proofs.instances.numbers_of.Given as goal

-- the table has the names of the instances so far
abbrev pub invariant-loop-number : goal.invariant-loop-number
invariant-loop-number l = AreFirstSo l.numbers.entries l.number (drop l.number l.instances) l.instances
