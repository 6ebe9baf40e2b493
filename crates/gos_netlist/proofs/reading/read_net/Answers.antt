use Rattle.std.proofs.Common.{ℕ, map, subst, sym, arith, refl}
use Rattle.std.proofs.lemmas.Result.{err_from_is_err_and}
use Rattle.gos_netlist.specs.Seen.{cell_of}
use Rattle.gos_netlist.specs.NetFaults.{HasFault}
use Rattle.gos_netlist.specs.declared.fault.NetTextFault.TheVariants as faults
use Rattle.gos_netlist.proofs.StageLemmas.{head_read, cells_read, middle_read, ports_read, all_read, whole_read, fault_head, fault_cells, fault_middle, fault_ports, fault_foot, fault_behind}
use Rattle.gos_netlist.proofs.reading.read_net.Goals as goal

pub returns-in_err-word-clause-fault : goal.returns-in_err-word-clause-fault
returns-in_err-word-clause-fault c =
    let start = c.new-cursor.ensures in
    let known = fault_head c.args.text.now c.new-cursor.result c.in_err-word.field-0.0 (omega (arith, c.if-text-gt-LONGEST_TEXT.false)) start.text start.at c.in_err-word.ensures.wrong in
    let p = err_from_is_err_and c.from_residual.result c.from_residual.ensures.1 in
    rw (p.1, p.2) known

pub returns-in_err-cells-clause-fault : goal.returns-in_err-cells-clause-fault
returns-in_err-cells-clause-fault c =
    let start = c.new-cursor.ensures in
    let head = head_read c.args.text.now c.new-cursor.result c.word.new.cursor (omega (arith, c.if-text-gt-LONGEST_TEXT.false)) start.text start.at c.in_ok-word.ensures.passed in
    let known = fault_cells c.in_err-cells.field-0.0 head c.in_err-cells.ensures.wrong in
    let p = err_from_is_err_and c.from_residual-in_err-cells.result c.from_residual-in_err-cells.ensures.1 in
    rw (p.1, p.2) known

pub returns-in_err-word-2-clause-fault : goal.returns-in_err-word-2-clause-fault
returns-in_err-word-2-clause-fault c =
    let start = c.new-cursor.ensures in
    let head = head_read c.args.text.now c.new-cursor.result c.word.new.cursor (omega (arith, c.if-text-gt-LONGEST_TEXT.false)) start.text start.at c.in_ok-word.ensures.passed in
    let found = c.in_ok-cells.ensures in
    let cells = cells_read c.cells.new.cursor (map cell_of c.in_ok-cells.cells.items) head found.cells found.few found.under found.passed in
    let known = fault_middle c.in_err-word-2.field-0.0 cells c.in_err-word-2.ensures.wrong in
    let p = err_from_is_err_and c.from_residual-in_err-word-2.result c.from_residual-in_err-word-2.ensures.1 in
    rw (p.1, p.2) known

pub returns-in_err-ports-clause-fault : goal.returns-in_err-ports-clause-fault
returns-in_err-ports-clause-fault c =
    let start = c.new-cursor.ensures in
    let head = head_read c.args.text.now c.new-cursor.result c.word.new.cursor (omega (arith, c.if-text-gt-LONGEST_TEXT.false)) start.text start.at c.in_ok-word.ensures.passed in
    let found = c.in_ok-cells.ensures in
    let cells = cells_read c.cells.new.cursor (map cell_of c.in_ok-cells.cells.items) head found.cells found.few found.under found.passed in
    let middle = middle_read c.word-2.new.cursor cells c.in_ok-word-2.ensures.passed in
    let known = fault_ports c.in_err-ports.field-0.0 middle c.in_err-ports.ensures.wrong in
    let p = err_from_is_err_and c.from_residual-in_err-ports.result c.from_residual-in_err-ports.ensures.1 in
    rw (p.1, p.2) known

pub returns-in_err-word-3-clause-fault : goal.returns-in_err-word-3-clause-fault
returns-in_err-word-3-clause-fault c =
    let start = c.new-cursor.ensures in
    let head = head_read c.args.text.now c.new-cursor.result c.word.new.cursor (omega (arith, c.if-text-gt-LONGEST_TEXT.false)) start.text start.at c.in_ok-word.ensures.passed in
    let found = c.in_ok-cells.ensures in
    let cells = cells_read c.cells.new.cursor (map cell_of c.in_ok-cells.cells.items) head found.cells found.few found.under found.passed in
    let middle = middle_read c.word-2.new.cursor cells c.in_ok-word-2.ensures.passed in
    let listed = c.in_ok-ports.ensures in
    let ports = ports_read c.ports.new.cursor c.in_ok-ports.ports.items middle listed.ports listed.few listed.under listed.passed in
    let known = fault_foot c.in_err-word-3.field-0.0 ports c.in_err-word-3.ensures.wrong in
    let p = err_from_is_err_and c.from_residual-in_err-word-3.result c.from_residual-in_err-word-3.ensures.1 in
    rw (p.1, p.2) known

pub returns-then-finished-clause-read : goal.returns-then-finished-clause-read
returns-then-finished-clause-read c =
    let start = c.new-cursor.ensures in
    let head = head_read c.args.text.now c.new-cursor.result c.word.new.cursor (omega (arith, c.if-text-gt-LONGEST_TEXT.false)) start.text start.at c.in_ok-word.ensures.passed in
    let found = c.in_ok-cells.ensures in
    let cells = cells_read c.cells.new.cursor (map cell_of c.in_ok-cells.cells.items) head found.cells found.few found.under found.passed in
    let middle = middle_read c.word-2.new.cursor cells c.in_ok-word-2.ensures.passed in
    let listed = c.in_ok-ports.ensures in
    let ports = ports_read c.ports.new.cursor c.in_ok-ports.ports.items middle listed.ports listed.few listed.under listed.passed in
    whole_read (all_read c.word-3.new.cursor ports c.in_ok-word-3.ensures.passed) (c.if-finished.ensures.0 refl)

pub returns-else-finished-clause-fault : goal.returns-else-finished-clause-fault
returns-else-finished-clause-fault c =
    let start = c.new-cursor.ensures in
    let head = head_read c.args.text.now c.new-cursor.result c.word.new.cursor (omega (arith, c.if-text-gt-LONGEST_TEXT.false)) start.text start.at c.in_ok-word.ensures.passed in
    let found = c.in_ok-cells.ensures in
    let cells = cells_read c.cells.new.cursor (map cell_of c.in_ok-cells.cells.items) head found.cells found.few found.under found.passed in
    let middle = middle_read c.word-2.new.cursor cells c.in_ok-word-2.ensures.passed in
    let listed = c.in_ok-ports.ensures in
    let ports = ports_read c.ports.new.cursor c.in_ok-ports.ports.items middle listed.ports listed.few listed.under listed.passed in
    subst (λ (n : ℕ). HasFault c.args.text.now (faults.Form n)) (sym c.at.ensures.at)
    (fault_behind (all_read c.word-3.new.cursor ports c.in_ok-word-3.ensures.passed) (λ same. absurd (cc (c.if-finished.ensures.1 same))))
