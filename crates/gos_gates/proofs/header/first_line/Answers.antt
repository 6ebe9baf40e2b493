use Rattle.std.proofs.Common.{ℕ}
use Rattle.std.proofs.lemmas.Result.{err_from_is_err_and}
use Rattle.gos_gates.specs.inner.Shapes.{whole_shape, counts_shape, behind_variables, behind_inputs, behind_latches, behind_outputs, lines_shape}
use Rattle.gos_gates.proofs.ShapeLemmas.{leads_on, breaks_on}
use Rattle.gos_gates.proofs.header.first_line.Goals as goal

pub returns-in_err-word-clause-wrong : goal.returns-in_err-word-clause-wrong
returns-in_err-word-clause-wrong c =
    let known = c.in_err-word.ensures.wrong counts_shape in
    let p = err_from_is_err_and c.from_residual.result c.from_residual.ensures.1 in
    rw (p.1, p.2) known

pub returns-in_err-variables-clause-wrong : goal.returns-in_err-variables-clause-wrong
returns-in_err-variables-clause-wrong c =
    let word = c.in_ok-word.ensures.passed counts_shape in
    let known = breaks_on c.args.cursor.now c.word.new.cursor whole_shape counts_shape c.in_err-variables.field-0.0 word (c.in_err-variables.ensures.wrong behind_variables) in
    let p = err_from_is_err_and c.from_residual-in_err-variables.result c.from_residual-in_err-variables.ensures.1 in
    rw (p.1, p.2) known

pub returns-in_err-inputs-clause-wrong : goal.returns-in_err-inputs-clause-wrong
returns-in_err-inputs-clause-wrong c =
    let old = c.args.cursor.now in
    let m : ℕ = c.in_ok-variables.variables in
    let word = c.in_ok-word.ensures.passed counts_shape in
    let variables = leads_on old c.word.new.cursor c.number.new.cursor whole_shape counts_shape (behind_variables m) word (c.in_ok-variables.ensures.passed behind_variables) in
    let known = breaks_on old c.number.new.cursor whole_shape (behind_variables m) c.in_err-inputs.field-0.0 variables (c.in_err-inputs.ensures.wrong (behind_inputs m)) in
    let p = err_from_is_err_and c.from_residual-in_err-inputs.result c.from_residual-in_err-inputs.ensures.1 in
    rw (p.1, p.2) known

pub returns-in_err-latches-clause-wrong : goal.returns-in_err-latches-clause-wrong
returns-in_err-latches-clause-wrong c =
    let old = c.args.cursor.now in
    let m : ℕ = c.in_ok-variables.variables in
    let i : ℕ = c.in_ok-inputs.inputs in
    let word = c.in_ok-word.ensures.passed counts_shape in
    let variables = leads_on old c.word.new.cursor c.number.new.cursor whole_shape counts_shape (behind_variables m) word (c.in_ok-variables.ensures.passed behind_variables) in
    let inputs = leads_on old c.number.new.cursor c.number-2.new.cursor whole_shape (behind_variables m) (behind_inputs m i) variables (c.in_ok-inputs.ensures.passed (behind_inputs m)) in
    let known = breaks_on old c.number-2.new.cursor whole_shape (behind_inputs m i) c.in_err-latches.field-0.0 inputs (c.in_err-latches.ensures.wrong (behind_latches m i)) in
    let p = err_from_is_err_and c.from_residual-in_err-latches.result c.from_residual-in_err-latches.ensures.1 in
    rw (p.1, p.2) known

pub returns-in_err-outputs-clause-wrong : goal.returns-in_err-outputs-clause-wrong
returns-in_err-outputs-clause-wrong c =
    let old = c.args.cursor.now in
    let m : ℕ = c.in_ok-variables.variables in
    let i : ℕ = c.in_ok-inputs.inputs in
    let l : ℕ = c.in_ok-latches.latches in
    let word = c.in_ok-word.ensures.passed counts_shape in
    let variables = leads_on old c.word.new.cursor c.number.new.cursor whole_shape counts_shape (behind_variables m) word (c.in_ok-variables.ensures.passed behind_variables) in
    let inputs = leads_on old c.number.new.cursor c.number-2.new.cursor whole_shape (behind_variables m) (behind_inputs m i) variables (c.in_ok-inputs.ensures.passed (behind_inputs m)) in
    let latches = leads_on old c.number-2.new.cursor c.number-3.new.cursor whole_shape (behind_inputs m i) (behind_latches m i l) inputs (c.in_ok-latches.ensures.passed (behind_latches m i)) in
    let known = breaks_on old c.number-3.new.cursor whole_shape (behind_latches m i l) c.in_err-outputs.field-0.0 latches (c.in_err-outputs.ensures.wrong (behind_outputs m i l)) in
    let p = err_from_is_err_and c.from_residual-in_err-outputs.result c.from_residual-in_err-outputs.ensures.1 in
    rw (p.1, p.2) known

pub returns-in_err-exactly-clause-wrong : goal.returns-in_err-exactly-clause-wrong
returns-in_err-exactly-clause-wrong c =
    let old = c.args.cursor.now in
    let m : ℕ = c.in_ok-variables.variables in
    let i : ℕ = c.in_ok-inputs.inputs in
    let l : ℕ = c.in_ok-latches.latches in
    let o : ℕ = c.in_ok-outputs.outputs in
    let word = c.in_ok-word.ensures.passed counts_shape in
    let variables = leads_on old c.word.new.cursor c.number.new.cursor whole_shape counts_shape (behind_variables m) word (c.in_ok-variables.ensures.passed behind_variables) in
    let inputs = leads_on old c.number.new.cursor c.number-2.new.cursor whole_shape (behind_variables m) (behind_inputs m i) variables (c.in_ok-inputs.ensures.passed (behind_inputs m)) in
    let latches = leads_on old c.number-2.new.cursor c.number-3.new.cursor whole_shape (behind_inputs m i) (behind_latches m i l) inputs (c.in_ok-latches.ensures.passed (behind_latches m i)) in
    let outputs = leads_on old c.number-3.new.cursor c.number-4.new.cursor whole_shape (behind_latches m i l) (behind_outputs m i l o) latches (c.in_ok-outputs.ensures.passed (behind_outputs m i l)) in
    let known = breaks_on old c.number-4.new.cursor whole_shape (behind_outputs m i l o) c.in_err-exactly.field-0.0 outputs (c.in_err-exactly.ensures.wrong (lines_shape (record { variables = m; inputs = i; latches = l; outputs = o }))) in
    let p = err_from_is_err_and c.from_residual-in_err-exactly.result c.from_residual-in_err-exactly.ensures.1 in
    rw (p.1, p.2) known

pub returns-clause-passed : goal.returns-clause-passed
returns-clause-passed c =
    let old = c.args.cursor.now in
    let m : ℕ = c.in_ok-variables.variables in
    let i : ℕ = c.in_ok-inputs.inputs in
    let l : ℕ = c.in_ok-latches.latches in
    let o : ℕ = c.in_ok-outputs.outputs in
    let word = c.in_ok-word.ensures.passed counts_shape in
    let variables = leads_on old c.word.new.cursor c.number.new.cursor whole_shape counts_shape (behind_variables m) word (c.in_ok-variables.ensures.passed behind_variables) in
    let inputs = leads_on old c.number.new.cursor c.number-2.new.cursor whole_shape (behind_variables m) (behind_inputs m i) variables (c.in_ok-inputs.ensures.passed (behind_inputs m)) in
    let latches = leads_on old c.number-2.new.cursor c.number-3.new.cursor whole_shape (behind_inputs m i) (behind_latches m i l) inputs (c.in_ok-latches.ensures.passed (behind_latches m i)) in
    let outputs = leads_on old c.number-3.new.cursor c.number-4.new.cursor whole_shape (behind_latches m i l) (behind_outputs m i l o) latches (c.in_ok-outputs.ensures.passed (behind_outputs m i l)) in
    let lines = lines_shape (record { variables = m; inputs = i; latches = l; outputs = o }) in
    leads_on old c.number-4.new.cursor c.exactly.new.cursor whole_shape (behind_outputs m i l o) lines outputs (c.in_ok-exactly.ensures.passed lines)
