use Rattle.std.proofs.Common.{◌≡◌, length, map, take}
use Rattle.gos_netlist.specs.Seen.{cell_of}
use Rattle.gos_netcheck.specs.Rules.{KeptBefore}
use Rattle.gos_netcheck.specs.PortRules.{IsRightPort, all_inputs}
use Rattle.gos_netcheck.specs.inner.PortSearch.{HasNames, AreTaken}
use Rattle.gos_netcheck.proofs.ports.first_wrong_port.Given as goal

-- all ports so far are right, and their names and inputs are known
abbrev pub invariant-loop-k : goal.invariant-loop-k
invariant-loop-k l =
    record {
      count : length l.taken.items ≡ length l.cells;
      kept : KeptBefore (IsRightPort (map cell_of l.cells) l.ports) l.ports l.k;
      names : HasNames l.names (take l.k l.ports);
      taken : AreTaken l.taken.items (all_inputs (take l.k l.ports));
    }
