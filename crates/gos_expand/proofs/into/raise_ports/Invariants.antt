use Rattle.std.specs.Prelude.{◌≡◌, ◌++◌, map, take, drop}
use Rattle.gos_expand.specs.Into.{raised_port}
use Rattle.gos_expand.proofs.into.raise_ports.Given as goal

-- the ports before the index are raised, and the others are as they were
abbrev pub invariant-loop-port : goal.invariant-loop-port
invariant-loop-port l = l.ports ≡ map (raised_port l.by) (take l.port-index l.initial.ports) ++ drop l.port-index l.initial.ports
