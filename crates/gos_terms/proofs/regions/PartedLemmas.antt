-- The numbers of either part of a node whose parts share nothing are among the node's.
use Rattle.std.specs.Prelude.{ℕ, List, Contains}
use Rattle.std.proofs.Common.{arith}
use Rattle.gos_check.specs.Nodes.{Numbered}
use Rattle.gos_check.proofs.TimesLemmas.{some_times, listed_times}
use Rattle.gos_terms.specs.regions.Frames.{AreParted}

module _ (m n : Numbered) (ns ms ks : List ℕ) (is : AreParted m n ns ms ks) where
  pub first_among : (k : ℕ) → Contains ms k → Contains ns k
  first_among k has = let some = some_times k ms has in let sum = is.split k in listed_times k ns (omega (arith, some, sum))

  pub second_among : (k : ℕ) → Contains ks k → Contains ns k
  second_among k has = let some = some_times k ks has in let sum = is.split k in listed_times k ns (omega (arith, some, sum))
