use Rattle.gos_verilog.proofs.PrintLemmas.{lines_parts}
use Rattle.std.proofs.Common.{map}
use Rattle.gos_netlist.specs.Seen.{cell_of}
use Rattle.gos_verilog.proofs.writing.lines.Goals as goal

pub returns : goal.returns
returns c =
    lines_parts c.args.name.now c.args.nets.now c.args.table.now (map cell_of c.args.cells.now) c.new-text.result.items c.add_head.new.text.items c.add_clock.new.text.items c.add_ports.new.text.items c.add_cells.new.text.items c.add_drivers.new.text.items c.add_outputs.new.text.items
    c.new-text.ensures.items c.in_ok-add_head.ensures c.in_ok-add_clock.ensures c.in_ok-add_ports.ensures c.in_ok-add_cells.ensures c.in_ok-add_drivers.ensures c.in_ok-add_outputs.ensures
