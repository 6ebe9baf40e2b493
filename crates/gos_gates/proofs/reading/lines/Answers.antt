use Rattle.std.proofs.Common.{ℕ, List, []}
use Rattle.std.proofs.lemmas.Result.{err_from_is_err_and}
use Rattle.gos_gates.specs.Gates.{Gates}
use Rattle.gos_gates.specs.inner.Shapes.{End, lines_shape, all_latches, all_outputs, all_gates}
use Rattle.gos_gates.proofs.ShapeLemmas.{leads_on, breaks_off_on, leads_within}
use Rattle.gos_gates.proofs.reading.lines.Goals as goal

pub returns-in_err-inputs-clause-wrong : goal.returns-in_err-inputs-clause-wrong
returns-in_err-inputs-clause-wrong c =
    let known = c.in_err-inputs.ensures.wrong in
    let p = err_from_is_err_and c.from_residual.result c.from_residual.ensures.1 in
    rw (p.1, p.2) known

pub returns-in_err-latches-clause-wrong : goal.returns-in_err-latches-clause-wrong
returns-in_err-latches-clause-wrong c =
    let h = c.args.header in
    let known = breaks_off_on c.args.cursor.now c.inputs.new.cursor (lines_shape h) (all_latches h) c.in_err-latches.field-0.0 c.in_ok-inputs.ensures.passed c.in_err-latches.ensures.wrong in
    let p = err_from_is_err_and c.from_residual-in_err-latches.result c.from_residual-in_err-latches.ensures.1 in
    rw (p.1, p.2) known

pub returns-in_err-outputs-clause-wrong : goal.returns-in_err-outputs-clause-wrong
returns-in_err-outputs-clause-wrong c =
    let h = c.args.header in
    let old = c.args.cursor.now in
    let ls : List ℕ = c.in_ok-latches.latches.items in
    let latches = leads_on old c.inputs.new.cursor c.latches.new.cursor (lines_shape h) (all_latches h) (all_outputs h ls) c.in_ok-inputs.ensures.passed c.in_ok-latches.ensures.passed in
    let known = breaks_off_on old c.latches.new.cursor (lines_shape h) (all_outputs h ls) c.in_err-outputs.field-0.0 latches (c.in_err-outputs.ensures.wrong ls) in
    let p = err_from_is_err_and c.from_residual-in_err-outputs.result c.from_residual-in_err-outputs.ensures.1 in
    rw (p.1, p.2) known

pub gates-requires-clause-within : goal.gates-requires-clause-within
gates-requires-clause-within c =
    let h = c.args.header in
    leads_within c.latches.new.cursor c.outputs.new.cursor (all_outputs h []) (all_gates h [] c.in_ok-outputs.outputs.items) (c.in_ok-outputs.ensures.passed [])

pub returns-in_err-gates-clause-wrong : goal.returns-in_err-gates-clause-wrong
returns-in_err-gates-clause-wrong c =
    let h = c.args.header in
    let old = c.args.cursor.now in
    let ls : List ℕ = c.in_ok-latches.latches.items in
    let os : List ℕ = c.in_ok-outputs.outputs.items in
    let latches = leads_on old c.inputs.new.cursor c.latches.new.cursor (lines_shape h) (all_latches h) (all_outputs h ls) c.in_ok-inputs.ensures.passed c.in_ok-latches.ensures.passed in
    let outputs = leads_on old c.latches.new.cursor c.outputs.new.cursor (lines_shape h) (all_outputs h ls) (all_gates h ls os) latches (c.in_ok-outputs.ensures.passed ls) in
    let known = breaks_off_on old c.outputs.new.cursor (lines_shape h) (all_gates h ls os) c.in_err-gates.field-0.0 outputs (c.in_err-gates.ensures.wrong ls os) in
    let p = err_from_is_err_and c.from_residual-in_err-gates.result c.from_residual-in_err-gates.ensures.1 in
    rw (p.1, p.2) known

pub returns-clause-passed : goal.returns-clause-passed
returns-clause-passed c =
    let h = c.args.header in
    let old = c.args.cursor.now in
    let ls : List ℕ = c.in_ok-latches.latches.items in
    let os : List ℕ = c.in_ok-outputs.outputs.items in
    let a : Gates = record { inputs = h.inputs; latches = ls; outputs = os; gates = c.in_ok-gates.gates.items } in
    let latches = leads_on old c.inputs.new.cursor c.latches.new.cursor (lines_shape h) (all_latches h) (all_outputs h ls) c.in_ok-inputs.ensures.passed c.in_ok-latches.ensures.passed in
    let outputs = leads_on old c.latches.new.cursor c.outputs.new.cursor (lines_shape h) (all_outputs h ls) (all_gates h ls os) latches (c.in_ok-outputs.ensures.passed ls) in
    leads_on old c.outputs.new.cursor c.gates.new.cursor (lines_shape h) (all_gates h ls os) (End a) outputs (c.in_ok-gates.ensures.passed ls os)
