use Rattle.std.proofs.Common.{◌≡◌, drop, length, true}
use Rattle.gos_model.specs.Terms.{Name}
use Rattle.gos_witness.specs.inner.Adding.{node_for}
use Rattle.gos_witness.specs.inner.Built.{or_else, node_of, giver_in, is_ready, AreBelow, AreImports}
use Rattle.gos_witness.proofs.substituting.supplies_of.Given as goal

-- the supplies so far, or else those of the rest
abbrev pub invariant-loop-bind : goal.invariant-loop-bind
invariant-loop-bind l =
    ((x : Name) → or_else (node_for l.supplies.items x) (node_of l.nodes (giver_in l.imports (drop l.bind-index l.binds) x)) ≡ node_of l.nodes (giver_in l.imports l.binds x))
    × (is_ready l.nodes (drop l.bind-index l.binds) ≡ true) × AreBelow (length l.nodes) (drop l.bind-index l.binds)
    × AreImports (length l.imports) (drop l.bind-index l.binds)
