use Rattle.std.proofs.Common.{◌≡◌, length, map}
use Rattle.gos_netlist.specs.Seen.{cell_of}
use Rattle.gos_verilog.specs.inner.Inputs.{AreTaken}
use Rattle.gos_verilog.proofs.readable.are_inputs.Given as goal

-- the nets so far take cells of their own
abbrev pub invariant-loop-net : goal.invariant-loop-net
invariant-loop-net l =
    record { count : length l.taken.items ≡ length l.cells; are : AreTaken (map cell_of l.cells) l.nets l.net-index l.taken.items }
