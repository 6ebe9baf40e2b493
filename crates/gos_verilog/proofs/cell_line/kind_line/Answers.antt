use Rattle.gos_verilog.specs.Lines.{driver_of}
use Rattle.std.proofs.Common.{[]}
use Rattle.gos_verilog.specs.inner.Slots.{line_text}
use Rattle.gos_verilog.specs.inner.CellLines.{kind_slots, kind_tail, made}
use Rattle.gos_lex.proofs.PassedLemmas.{passed_as}
use Rattle.gos_verilog.proofs.KindLemmas.{is_made, nets_fit, no_kind}
use Rattle.std.proofs.lemmas.Result.{err_from_is_err_and}
use Rattle.gos_verilog.proofs.cell_line.kind_line.Goals as goal

pub gate-requires : goal.gate-requires
gate-requires c =
    let ns = c.in_ok-numbers.numbers.items in
    let is = is_made c.args.kind c.args.i c.args.width ns c.in_ok-numbers.ensures.fit in
    rw c.deref.ensures (nets_fit c.args.width (made c.args.kind ns) is.kind_is.1)

pub returns-clause-kind : goal.returns-clause-kind
returns-clause-kind c =
    let is = is_made c.args.kind c.args.i c.args.width c.in_ok-numbers.numbers.items c.in_ok-numbers.ensures.fit in
    rw (c.gate.ensures, c.deref.ensures) is.kind_is

pub returns-clause-passed : goal.returns-clause-passed
returns-clause-passed c =
    let ns = c.in_ok-numbers.numbers.items in
    let is = is_made c.args.kind c.args.i c.args.width ns c.in_ok-numbers.ensures.fit in
    let slots = kind_slots c.args.kind c.args.i c.args.width in
    rw (c.gate.ensures, c.deref.ensures)
    (passed_as c.args.cursor.now c.numbers.new.cursor (line_text slots (kind_tail c.args.kind) ns) (driver_of c.args.i c.args.width [] (made c.args.kind ns)) is.text c.in_ok-numbers.ensures.passed)

pub returns-in_err-numbers-clause-wrong : goal.returns-in_err-numbers-clause-wrong
returns-in_err-numbers-clause-wrong c =
    let old = c.args.cursor.now in
    let known = no_kind c.args.kind c.args.i c.args.width old.text old.at c.in_err-numbers.field-0.0 c.in_err-numbers.ensures.wrong in
    let p = err_from_is_err_and c.from_residual.result c.from_residual.ensures.1 in
    rw (p.1, p.2) known
