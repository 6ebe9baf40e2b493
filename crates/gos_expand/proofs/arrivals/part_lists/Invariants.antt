use Rattle.std.proofs.Common.{◌≡◌, take, map}
use Rattle.gos_plan.specs.Kinds.{part_contacts}
use Rattle.gos_plan.specs.Seen.{part_of}
use Rattle.gos_expand.specs.inner.Arrivals.{new_arrival}
use Rattle.gos_expand.proofs.arrivals.part_lists.Given as goal

-- the entries of the parts so far
abbrev pub invariant-loop-kind : goal.invariant-loop-kind
invariant-loop-kind l = map (λ s. s.items) l.lists.items ≡ map (λ k. map new_arrival (part_contacts (part_of k))) (take l.kind-index l.parts)
