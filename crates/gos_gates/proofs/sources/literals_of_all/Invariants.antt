use Rattle.std.specs.Prelude.{◌≡◌, take}
use Rattle.gos_gates.specs.inner.Laying.{literals_at}
use Rattle.gos_gates.proofs.sources.literals_of_all.Given as goal

-- the literals so far
abbrev pub invariant-loop-net : goal.invariant-loop-net
invariant-loop-net l = l.literals.items ≡ literals_at l.draft (take l.net-index l.nets)
