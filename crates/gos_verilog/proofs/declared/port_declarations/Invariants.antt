use Rattle.std.proofs.Common.{◌≤◌, ℕ, List, [], length, drop}
use Rattle.gos_netlist.specs.Nets.{Give}
use Rattle.gos_netlist.specs.Seen.{side_of}
use Rattle.gos_verilog.specs.declared.slots.TheConstants.{LAST_BIT}
use Rattle.gos_verilog.specs.declared.port_net.Role.{Role}
use Rattle.gos_verilog.specs.inner.Breaks.{LeadsOn}
use Rattle.gos_verilog.specs.inner.Left.{AreNamed, LeftNets}
use Rattle.gos_verilog.proofs.LeftNetLemmas.{NetsRead}
use Rattle.gos_verilog.proofs.declared.port_declarations.Given as goal

-- so many nets are read
abbrev pub invariant-loop-name : goal.invariant-loop-name
invariant-loop-name l =
    record {
      within : l.at ≤ length l.text;
      few : l.last ≤ LAST_BIT;
      read : NetsRead l.names l.name-index l.nets.items l.text l.initial.at l.at;
      left : (named : List (Role × List ℕ)) → AreNamed named l.names
          → LeadsOn (LeftNets [] Give 0 named) (LeftNets l.nets.items (side_of l.side) l.last (drop l.name-index named)) (record { text = l.text; at = l.initial.at }) (record { text = l.text; at = l.at });
    }
