use Rattle.std.proofs.Common.{◌≡◌, drop}
use Rattle.gos_witness.specs.inner.Adding.{node_for}
use Rattle.gos_witness.proofs.adding.supply_of.Given as goal

-- what is left has the node that all have
abbrev pub invariant-loop-supply : goal.invariant-loop-supply
invariant-loop-supply l = node_for (drop l.supply-index l.supplies) l.name ≡ node_for l.supplies l.name
