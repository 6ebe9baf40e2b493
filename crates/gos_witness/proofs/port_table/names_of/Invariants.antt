use Rattle.std.proofs.Common.{◌≡◌, take}
use Rattle.gos_witness.specs.inner.TraceParts.{names_of}
use Rattle.gos_witness.proofs.port_table.names_of.Given as goal

-- the names so far
abbrev pub invariant-loop-port : goal.invariant-loop-port
invariant-loop-port l = l.names.items ≡ names_of (take l.port-index l.ports)
