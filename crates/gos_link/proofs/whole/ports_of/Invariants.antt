use Rattle.std.proofs.Common.{◌≡◌, ◌∷◌, ◌++◌, map, drop}
use Rattle.gos_link.specs.Linked.{port_of}
use Rattle.gos_link.specs.inner.Opens.{open_seen}
use Rattle.gos_link.specs.inner.Ports.{port_seen}
use Rattle.gos_link.proofs.whole.ports_of.Given as goal

-- with those of the imports that are left they are all
abbrev pub invariant-loop-open : goal.invariant-loop-open
invariant-loop-open l =
    map port_seen l.ports.items ++ map (port_of l.instances) (map open_seen (drop l.open-index l.opens))
    ≡ (record { name = l.root; instance = l.root }) ∷ map (port_of l.instances) (map open_seen l.opens)
