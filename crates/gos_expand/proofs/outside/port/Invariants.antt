use Rattle.std.proofs.Common.{◌≡◌, map}
use Rattle.gos_netlist.specs.Seen.{number_of}
use Rattle.gos_expand.specs.Blocks.{nets_on}
use Rattle.gos_expand.proofs.outside.port.Given as goal

-- the nets so far
abbrev pub invariant-loop-place : goal.invariant-loop-place
invariant-loop-place l = map number_of l.nets.items ≡ nets_on l.start l.place
