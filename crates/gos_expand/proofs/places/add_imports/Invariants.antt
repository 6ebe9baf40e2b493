use Rattle.std.proofs.Common.{◌≡◌, ◌++◌, take, map}
use Rattle.gos_plan.specs.Seen.{end_of, import_of}
use Rattle.gos_expand.specs.Starts.{taken_ports, port_ends}
use Rattle.gos_expand.proofs.places.add_imports.Given as goal

-- the ends of the imports so far
abbrev pub invariant-loop-index : goal.invariant-loop-index
invariant-loop-index l =
    map end_of l.ends.items ≡ map end_of l.initial.ends.items ++ port_ends (taken_ports 0 (take l.index (map import_of l.plan.imports)))
