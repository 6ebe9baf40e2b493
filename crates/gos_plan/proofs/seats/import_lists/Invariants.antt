use Rattle.std.proofs.Common.{◌≡◌, take, map}
use Rattle.gos_plan.specs.inner.Seats.{import_seats}
use Rattle.gos_plan.proofs.seats.import_lists.Given as goal

-- the seats of the imports so far
abbrev pub invariant-loop-import : goal.invariant-loop-import
invariant-loop-import l = map (λ seats. seats.items) l.lists.items ≡ map import_seats (take l.import-index l.imports)
