use Rattle.std.proofs.Common.{◌≤◌, map, arith}
use Rattle.std.proofs.lemmas.Result.{err_from_is_err_and}
use Rattle.gos_netlist.specs.Seen.{cell_of}
use Rattle.gos_netlist.specs.Nets.{Cell, Input}
use Rattle.gos_netlist.specs.NetText.{cell_text}
use Rattle.gos_netlist.specs.Writable.{IsWritableCell}
use Rattle.gos_netlist.proofs.SectionLemmas.{section_count, section_lines, section_passed}
use Rattle.gos_netlist.proofs.sections.cells.Goals as goal

-- some cell
abbrev some : Cell
some = record { width = 1; gate = Input }

is_some : IsWritableCell some
is_some = ((omega arith, omega arith), tt)

pub returns-in_err-n-clause-wrong : goal.returns-in_err-n-clause-wrong
returns-in_err-n-clause-wrong c =
    let old = c.args.cursor.now in
    let known = section_count Cell IsWritableCell cell_text some is_some 5000000 old.text old.at c.in_err-n.field-0.0 c.in_err-n.ensures.wrong in
    let p = err_from_is_err_and c.from_residual.result c.from_residual.ensures.1 in
    rw (p.1, p.2) known

pub returns-in_err-cells-clause-wrong : goal.returns-in_err-cells-clause-wrong
returns-in_err-cells-clause-wrong c =
    let small : c.in_ok-n.n ≤ 4294967295 = omega (arith, c.in_ok-n.ensures.few) in
    let known = section_lines Cell IsWritableCell cell_text 5000000 c.in_ok-n.n c.args.cursor.now c.count.new.cursor c.in_err-cells.field-0.0 small c.in_ok-n.ensures.passed c.in_ok-n.ensures.under c.in_err-cells.ensures.wrong in
    let p = err_from_is_err_and c.from_residual-in_err-cells.result c.from_residual-in_err-cells.ensures.1 in
    rw (p.1, p.2) known

pub returns-clause-passed : goal.returns-clause-passed
returns-clause-passed c =
    section_passed Cell cell_text c.in_ok-n.n (map cell_of c.in_ok-cells.cells.items) c.args.cursor.now c.count.new.cursor c.cell_lines.new.cursor c.in_ok-cells.ensures.cells.0 c.in_ok-n.ensures.passed c.in_ok-cells.ensures.passed
