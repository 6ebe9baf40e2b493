use Rattle.std.proofs.Common.{◌≡◌, replicate}
use Rattle.gos_gates.proofs.draft.Draft.new.Given as goal

-- the places so far
abbrev pub invariant-loop : goal.invariant-loop
invariant-loop l = l.places.items ≡ replicate l.counter (record { from = 0; to = 0 })
