-- What is noted of the lines of a build file while they are read.
use Rattle.std.specs.Option.{option_map}
use Rattle.gos_link.specs.declared.noting.Noted.{Noted}
use Rattle.gos_link.specs.declared.noting.RootLine as declared_root
use Rattle.gos_link.specs.BuildFile.{Sum, RootLine}

abbrev pub root_seen : declared_root.RootLine → RootLine
root_seen r = record { line = r.line; name = r.name }

abbrev pub sum_noted : Noted → Sum
sum_noted n =
    record {
      instances = n.instances.items;
      binds = n.binds.items;
      root = option_map root_seen n.root;
      net = n.net;
      verilog = n.verilog;
      pulses = n.pulses;
      trace = n.trace;
    }
