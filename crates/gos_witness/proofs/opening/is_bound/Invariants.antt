use Rattle.std.proofs.Common.{◌≡◌, drop, length}
use Rattle.gos_witness.specs.inner.Built.{AreImports, giver_in, is_made}
use Rattle.gos_witness.proofs.opening.is_bound.Given as goal

-- the rest has the giver that all have
abbrev pub invariant-loop-bind : goal.invariant-loop-bind
invariant-loop-bind l =
    (is_made (giver_in l.imports (drop l.bind-index l.binds) l.name) ≡ is_made (giver_in l.imports l.binds l.name))
    × AreImports (length l.imports) (drop l.bind-index l.binds)
