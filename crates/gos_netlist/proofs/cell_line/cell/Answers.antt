use Rattle.std.proofs.Common.{ℕ, subst}
use Rattle.std.specs.Fmt.{decimal}
use Rattle.gos_lex.specs.Items.{Misses}
use Rattle.gos_lex.specs.ItemTexts.{IsNumberText, Passed, ended}
use Rattle.std.proofs.lemmas.Result.{err_from_is_err_and}
use Rattle.gos_types.specs.declared.widths.TheConstants.{GREATEST_WIDTH}
use Rattle.gos_netlist.specs.Seen.{function_of}
use Rattle.gos_netlist.proofs.CellLemmas.{no_word, no_width, no_operands, cell_passed}
use Rattle.gos_netlist.proofs.cell_line.cell.Goals as goal

pub returns-in_err-word-clause-wrong : goal.returns-in_err-word-clause-wrong
returns-in_err-word-clause-wrong c =
    let known = no_word c.args.cursor.now.text c.args.cursor.now.at c.in_err-word.field-0.0 c.in_err-word.ensures.wrong in
    let p = err_from_is_err_and c.from_residual.result c.from_residual.ensures.1 in
    rw (p.1, p.2) known

pub returns-in_err-width-clause-wrong : goal.returns-in_err-width-clause-wrong
returns-in_err-width-clause-wrong c =
    let mid = c.gate_word.new.cursor in
    let here = subst (λ (end : ℕ). Misses (IsNumberText 1 GREATEST_WIDTH end) mid.text mid.at c.in_err-width.field-0.0) c.width_end.ensures c.in_err-width.ensures.wrong in
    let known = no_width c.args.cursor.now c.gate_word.new.cursor c.in_ok-word.word c.in_err-width.field-0.0 c.in_ok-word.ensures.passed here in
    let p = err_from_is_err_and c.from_residual-in_err-width.result c.from_residual-in_err-width.ensures.1 in
    rw (p.1, p.2) known

pub returns-in_err-gate-clause-wrong : goal.returns-in_err-gate-clause-wrong
returns-in_err-gate-clause-wrong c =
    let width = subst (λ (end : ℕ). Passed c.gate_word.new.cursor c.ended_number.new.self (ended end (decimal c.in_ok-width.field-0))) c.width_end.ensures c.in_ok-width.ensures.passed in
    let known = no_operands c.args.cursor.now c.gate_word.new.cursor c.ended_number.new.self c.in_ok-word.word c.in_ok-width.field-0 c.in_err-gate.field-0.0 c.in_ok-word.ensures.passed c.in_ok-width.ensures.range width c.in_err-gate.ensures.wrong in
    let p = err_from_is_err_and c.from_residual-in_err-gate.result c.from_residual-in_err-gate.ensures.1 in
    rw (p.1, p.2) known

pub returns-clause-passed : goal.returns-clause-passed
returns-clause-passed c =
    let width = subst (λ (end : ℕ). Passed c.gate_word.new.cursor c.ended_number.new.self (ended end (decimal c.in_ok-width.field-0))) c.width_end.ensures c.in_ok-width.ensures.passed in
    cell_passed c.args.cursor.now c.gate_word.new.cursor c.ended_number.new.self c.gate.new.cursor c.in_ok-word.word c.in_ok-width.field-0 (function_of c.in_ok-gate.gate) c.in_ok-gate.ensures.word.0 c.in_ok-word.ensures.passed width c.in_ok-gate.ensures.passed
