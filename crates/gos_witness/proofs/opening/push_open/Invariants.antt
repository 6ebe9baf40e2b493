use Rattle.std.proofs.Common.{◌≡◌, ◌++◌, drop, map}
use Rattle.std.specs.List.{AllByRecursion}
use Rattle.gos_model.specs.Typing.{Imported}
use Rattle.gos_netlist.specs.Writable.{IsPortType}
use Rattle.gos_witness.specs.Ports.{imported}
use Rattle.gos_witness.specs.Substituted.{AreOnSides}
use Rattle.gos_witness.specs.inner.Built.{open_in}
use Rattle.gos_witness.specs.inner.TraceParts.{IsNamed}
use Rattle.gos_witness.proofs.opening.push_open.Given as goal

-- the ports so far, and those of the rest
abbrev pub invariant-loop-import : goal.invariant-loop-import
invariant-loop-import l =
    (map imported l.ports.items ++ open_in l.imports l.binds (drop l.import-index l.imports)
    ≡ map imported l.initial.ports.items ++ open_in l.imports l.binds l.imports)
    × AllByRecursion (λ (x : Imported). IsPortType x.ty) (open_in l.imports l.binds (drop l.import-index l.imports))
    × AllByRecursion IsNamed l.ports.items
    × AreOnSides l.ports.items
