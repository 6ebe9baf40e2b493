use Rattle.std.proofs.Common.{◌≡◌, drop, length}
use Rattle.gos_witness.specs.inner.Built.{is_ready, AreBelow}
use Rattle.gos_witness.proofs.binding.is_ready.Given as goal

-- all are ready where the rest is
abbrev pub invariant-loop-bind : goal.invariant-loop-bind
invariant-loop-bind l = (is_ready l.nodes (drop l.bind-index l.binds) ≡ is_ready l.nodes l.binds) × AreBelow (length l.nodes) (drop l.bind-index l.binds)
