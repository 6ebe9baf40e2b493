use Rattle.std.proofs.Common.{◌≡◌, ◌++◌, drop, map}
use Rattle.std.specs.List.{AllByRecursion}
use Rattle.gos_witness.specs.Ports.{imported}
use Rattle.gos_witness.specs.Substituted.{AreOnSides}
use Rattle.gos_witness.specs.inner.Built.{opens_from}
use Rattle.gos_witness.specs.inner.TraceParts.{IsNamed}
use Rattle.gos_witness.proofs.OpenLemmas.{MayBeTaken}
use Rattle.gos_witness.proofs.opening.push_all_open.Given as goal

-- the ports so far, and those of the rest
abbrev pub invariant-loop-number : goal.invariant-loop-number
invariant-loop-number l =
    (map imported l.ports.items ++ opens_from l.lists l.number (drop l.number l.modules) ≡ map imported l.initial.ports.items ++ opens_from l.lists 0 l.modules)
    × MayBeTaken (opens_from l.lists l.number (drop l.number l.modules))
    × AllByRecursion IsNamed l.ports.items
    × AreOnSides l.ports.items
