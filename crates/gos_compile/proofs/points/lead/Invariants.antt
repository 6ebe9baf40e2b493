use Rattle.std.proofs.Common.{◌≡◌, ◌+◌, ◌++◌, drop}
use Rattle.gos_compile.specs.Wiring.{led}
use Rattle.gos_compile.proofs.points.lead.Given as goal

-- with the ties that are left to add they are all of them
abbrev pub invariant-loop-one : goal.invariant-loop-one
invariant-loop-one l =
    (l.shake ≡ l.from + l.one-index)
    × (l.ties.items ++ led (drop l.one-index l.points) l.place l.shake ≡ l.initial.ties.items ++ led l.points l.place l.from)
