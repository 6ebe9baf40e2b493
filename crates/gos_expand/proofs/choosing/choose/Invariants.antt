use Rattle.std.proofs.Common.{◌≡◌, length}
use Rattle.gos_expand.proofs.ChoosingLemmas.{Chosen}
use Rattle.gos_expand.proofs.choosing.choose.Given as goal

-- as many directions are chosen, and the order has the edges of those left out
abbrev pub invariant-loop-direction : goal.invariant-loop-direction
invariant-loop-direction l = Chosen l.directions l.initial.graph.edges l.keeps.items l.graph × (length l.keeps.items ≡ l.direction)
