use Rattle.std.proofs.Common.{◌≡◌, ◌++◌, not, filter, map, take}
use Rattle.gos_netlist.specs.Seen.{cell_of, number_of}
use Rattle.gos_gates.specs.Lowered.{function_at, is_input}
use Rattle.gos_gates.proofs.sources.Ends.add.Given as goal

-- the ends so far
abbrev pub invariant-loop-net : goal.invariant-loop-net
invariant-loop-net l = record {
  inputs : l.self.inputs.items ≡ l.initial.self.inputs.items ++ filter (λ n. is_input (function_at (map cell_of l.cells) n)) (map number_of (take l.net-index l.nets));
  outputs : l.self.outputs.items ≡ l.initial.self.outputs.items ++ filter (λ n. not (is_input (function_at (map cell_of l.cells) n))) (map number_of (take l.net-index l.nets));
}
