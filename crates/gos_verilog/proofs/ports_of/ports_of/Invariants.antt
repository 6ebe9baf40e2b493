use Rattle.std.proofs.Common.{◌-◌, length}
use Rattle.std.specs.List.{AllByRecursion}
use Rattle.gos_netlist.specs.Writable.{IsWritablePort}
use Rattle.gos_verilog.proofs.FoundLemmas.{PortsSoFar}
use Rattle.gos_verilog.proofs.ports_of.ports_of.Given as goal

-- the ports so far are in the ranges of the format, and those whose nets stand first
abbrev pub invariant-loop-at : goal.invariant-loop-at
invariant-loop-at l = record { writable : AllByRecursion IsWritablePort l.ports.items; far : PortsSoFar l.nets l.at l.ports.items }

abbrev pub decreases-loop-at : goal.decreases-loop-at
decreases-loop-at l = length l.nets - l.at
