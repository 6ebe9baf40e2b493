use Rattle.std.proofs.Common.{◌≡◌, ◌++◌, map}
use Rattle.gos_plan.specs.Seen.{end_of}
use Rattle.gos_expand.specs.inner.Numbering.{end_at, ends_from}
use Rattle.gos_expand.proofs.places.add_ends.Given as goal

-- the ends of the handshakes so far
abbrev pub invariant-loop-shake : goal.invariant-loop-shake
invariant-loop-shake l = map end_of l.ends.items ≡ map end_of l.initial.ends.items ++ ends_from (end_at l.place) 0 l.shake
