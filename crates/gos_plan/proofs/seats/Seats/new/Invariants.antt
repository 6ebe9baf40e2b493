use Rattle.std.proofs.Common.{◌≡◌, take, map}
use Rattle.gos_plan.specs.inner.Seats.{kind_seats}
use Rattle.gos_plan.proofs.seats.Seats.new.Given as goal

-- the seats of the parts so far
abbrev pub invariant-loop-kind : goal.invariant-loop-kind
invariant-loop-kind l = map (λ seats. seats.items) l.part_lists.items ≡ map kind_seats (take l.kind-index l.parts)
