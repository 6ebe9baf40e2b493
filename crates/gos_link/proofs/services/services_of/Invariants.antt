use Rattle.std.proofs.Common.{ℕ, List, length, drop}
use Rattle.gos_link.specs.inner.Served.{AreAbove}
use Rattle.gos_link.specs.inner.Tops.{AreTops}
use Rattle.gos_link.proofs.BindLemmas.{MeansSoFar}
use Rattle.gos_link.proofs.services.services_of.Given as goal

-- whatever the lines that are left mean, all lines mean the services so far and then that
abbrev pub invariant-loop-bind : goal.invariant-loop-bind
invariant-loop-bind l =
    MeansSoFar l.instances l.plans l.binds l.services (drop l.bind-index l.binds)
    × (tops : List ℕ) × AreTops (length l.instances) l.services tops × AreAbove l.services tops l.above.items
