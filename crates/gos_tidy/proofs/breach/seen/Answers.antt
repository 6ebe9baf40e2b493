use Rattle.std.specs.Prelude.{◌≡◌, map, get_or}
use Rattle.gos_netlist.specs.declared.nets.Cell as declared
use Rattle.gos_netlist.specs.declared.nets.Gate.TheVariants as gates
use Rattle.gos_netlist.specs.Nets.{Input}
use Rattle.gos_netlist.specs.Seen.{cell_of}
use Rattle.gos_netcheck.proofs.RuleLemmas.{get_mapped}
use Rattle.gos_tidy.proofs.RootLemmas.{not_so}
use Rattle.gos_tidy.proofs.BreachLemmas.{table_past, found_again, found_new, table_more}
use Rattle.gos_tidy.proofs.breach.seen.Goals as goal

pub returns-then-is_input-clause-table : goal.returns-then-is_input-clause-table
returns-then-is_input-clause-table c =
    let cells = map cell_of c.args.cells.now in
    let nothing : declared.Cell = record { width = 0; gate = gates.Input } in
    let cell = cell_of (get_or c.args.cells.now c.args.net nothing) in
    let there = get_mapped cell_of c.args.cells.now c.args.net nothing c.requires.there in
    λ _. table_past cells c.args.net cell there c.args.table.now (c.is_input.ensures.0 c.if-is_input.true) c.requires.table

pub returns-clause-again : goal.returns-clause-again
returns-clause-again c =
    let cells = map cell_of c.args.cells.now in
    let nothing : declared.Cell = record { width = 0; gate = gates.Input } in
    let cell = cell_of (get_or c.args.cells.now c.args.net nothing) in
    let there = get_mapped cell_of c.args.cells.now c.args.net nothing c.requires.there in
    let other = not_so (cell.gate ≡ Input) c.is_input.result c.is_input.ensures c.if-is_input.false in
    found_again cells c.args.net cell there c.args.table.now c.shape_of.result c.in_ok-insert.field-0 c.shape_of.ensures c.in_ok-insert.ensures.old c.requires.table other

pub returns-clause-new : goal.returns-clause-new
returns-clause-new c =
    let cells = map cell_of c.args.cells.now in
    let nothing : declared.Cell = record { width = 0; gate = gates.Input } in
    let cell = cell_of (get_or c.args.cells.now c.args.net nothing) in
    let there = get_mapped cell_of c.args.cells.now c.args.net nothing c.requires.there in
    found_new cells c.args.net cell there c.args.table.now c.shape_of.result c.in_ok-insert.field-0 c.shape_of.ensures c.in_ok-insert.ensures.old c.requires.table

pub returns-clause-table : goal.returns-clause-table
returns-clause-table c =
    let cells = map cell_of c.args.cells.now in
    let nothing : declared.Cell = record { width = 0; gate = gates.Input } in
    let cell = cell_of (get_or c.args.cells.now c.args.net nothing) in
    let there = get_mapped cell_of c.args.cells.now c.args.net nothing c.requires.there in
    λ _. table_more cells c.args.net cell there c.args.table.now c.insert.new.self c.shape_of.result c.shape_of.ensures c.requires.table c.in_ok-insert.ensures.updates.0
