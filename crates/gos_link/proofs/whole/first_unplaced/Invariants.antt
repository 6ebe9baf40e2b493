use Rattle.std.proofs.Common.{◌≡◌, drop}
use Rattle.gos_link.specs.Linked.{first_unplaced}
use Rattle.gos_link.proofs.whole.first_unplaced.Given as goal

-- the first is among the instances that are left
abbrev pub invariant-loop-number : goal.invariant-loop-number
invariant-loop-number l = first_unplaced l.root l.services l.number (drop l.number l.instances) ≡ first_unplaced l.root l.services 0 l.instances
