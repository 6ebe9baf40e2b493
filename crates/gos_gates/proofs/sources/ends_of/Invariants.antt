use Rattle.std.proofs.Common.{◌≡◌, not, filter, map, take}
use Rattle.gos_netlist.specs.Seen.{cell_of}
use Rattle.gos_gates.specs.Lowered.{function_at, is_input, port_nets}
use Rattle.gos_gates.proofs.sources.ends_of.Given as goal

-- the ends of the ports so far
abbrev pub invariant-loop-port : goal.invariant-loop-port
invariant-loop-port l = record {
  inputs : l.ends.inputs.items ≡ filter (λ n. is_input (function_at (map cell_of l.cells) n)) (port_nets (take l.port-index l.ports));
  outputs : l.ends.outputs.items ≡ filter (λ n. not (is_input (function_at (map cell_of l.cells) n))) (port_nets (take l.port-index l.ports));
}
