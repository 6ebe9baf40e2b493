use Rattle.std.proofs.Common.{ℕ, ◌+◌, ◌*◌}
use Rattle.std.proofs.lemmas.Result.{err_from_is_err_and}
use Rattle.gos_gates.specs.AagText.{spaced}
use Rattle.gos_gates.specs.inner.Shapes.{Shape, Word, Number, Breaks}
use Rattle.gos_gates.proofs.ShapeLemmas.{leads_on, breaks_on}
use Rattle.gos_gates.proofs.sections.latch.Goals as goal

pub returns-in_err-exactly-clause-wrong : goal.returns-in_err-exactly-clause-wrong
returns-in_err-exactly-clause-wrong c =
    let high : ℕ = 2 * c.args.header.variables + 1 in
    let known : (rest : ℕ → Shape) → Breaks (Word (spaced (2 * c.args.variable)) (Number high 10 rest)) c.args.cursor.now c.in_err-exactly.field-0.0 =
    λ rest. c.in_err-exactly.ensures.wrong (Number high 10 rest) in
    let p = err_from_is_err_and c.from_residual.result c.from_residual.ensures.1 in
    rw (p.1, p.2) known

pub returns-in_err-literal-clause-wrong : goal.returns-in_err-literal-clause-wrong
returns-in_err-literal-clause-wrong c =
    let high : ℕ = 2 * c.args.header.variables + 1 in
    let known : (rest : ℕ → Shape) → Breaks (Word (spaced (2 * c.args.variable)) (Number high 10 rest)) c.args.cursor.now c.in_err-literal.field-0.0 =
    λ rest. breaks_on c.args.cursor.now c.exactly.new.cursor (Word (spaced (2 * c.args.variable)) (Number high 10 rest)) (Number high 10 rest) c.in_err-literal.field-0.0 (c.in_ok-exactly.ensures.passed (Number high 10 rest)) (c.in_err-literal.ensures.wrong rest) in
    let p = err_from_is_err_and c.from_residual-in_err-literal.result c.from_residual-in_err-literal.ensures.1 in
    rw (p.1, p.2) known

pub returns-clause-passed : goal.returns-clause-passed
returns-clause-passed c =
    let high : ℕ = 2 * c.args.header.variables + 1 in
    λ rest. leads_on c.args.cursor.now c.exactly.new.cursor c.number.new.cursor (Word (spaced (2 * c.args.variable)) (Number high 10 rest)) (Number high 10 rest) (rest c.in_ok-literal.literal) (c.in_ok-exactly.ensures.passed (Number high 10 rest)) (c.in_ok-literal.ensures.passed rest)
