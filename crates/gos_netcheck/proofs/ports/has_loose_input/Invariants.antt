use Rattle.std.proofs.Common.{◌≡◌, map}
use Rattle.std.specs.Prelude.{Some, true, slice_get}
use Rattle.gos_netlist.specs.Nets.{Input}
use Rattle.gos_netlist.specs.Seen.{cell_of}
use Rattle.gos_netcheck.specs.Rules.{KeptBefore}
use Rattle.gos_netcheck.proofs.ports.has_loose_input.Given as goal

-- all input cells so far are taken
abbrev pub invariant-loop-n : goal.invariant-loop-n
invariant-loop-n l = KeptBefore (λ n c. c.gate ≡ Input → slice_get l.taken n ≡ Some true) (map cell_of l.cells) l.n
