use Rattle.std.proofs.Common.{ℕ, ◌-◌, ◌*◌}
use Rattle.std.proofs.lemmas.Result.{err_from_is_err_and}
use Rattle.gos_gates.specs.AagText.{spaced}
use Rattle.gos_gates.specs.inner.Shapes.{Shape, Word, Number, Breaks}
use Rattle.gos_gates.proofs.ShapeLemmas.{leads_on, breaks_on}
use Rattle.gos_gates.proofs.sections.gate.Goals as goal

-- what stands behind the gate's own literal
abbrev behind : ℕ → (ℕ → ℕ → Shape) → Shape
behind v rest = Number (2 * v - 1) 32 (λ a. Number a 10 (rest a))

-- a gate's line
abbrev whole : ℕ → (ℕ → ℕ → Shape) → Shape
whole v rest = Word (spaced (2 * v)) (behind v rest)

pub returns-in_err-exactly-clause-wrong : goal.returns-in_err-exactly-clause-wrong
returns-in_err-exactly-clause-wrong c =
    let known : (rest : ℕ → ℕ → Shape) → Breaks (whole c.args.variable rest) c.args.cursor.now c.in_err-exactly.field-0.0 =
    λ rest. c.in_err-exactly.ensures.wrong (behind c.args.variable rest) in
    let p = err_from_is_err_and c.from_residual.result c.from_residual.ensures.1 in
    rw (p.1, p.2) known

pub returns-in_err-first-clause-wrong : goal.returns-in_err-first-clause-wrong
returns-in_err-first-clause-wrong c =
    let v : ℕ = c.args.variable in
    let known : (rest : ℕ → ℕ → Shape) → Breaks (whole v rest) c.args.cursor.now c.in_err-first.field-0.0 =
    λ rest. breaks_on c.args.cursor.now c.exactly.new.cursor (whole v rest) (behind v rest) c.in_err-first.field-0.0 (c.in_ok-exactly.ensures.passed (behind v rest)) (c.in_err-first.ensures.wrong (λ a. Number a 10 (rest a))) in
    let p = err_from_is_err_and c.from_residual-in_err-first.result c.from_residual-in_err-first.ensures.1 in
    rw (p.1, p.2) known

pub returns-in_err-second-clause-wrong : goal.returns-in_err-second-clause-wrong
returns-in_err-second-clause-wrong c =
    let v : ℕ = c.args.variable in
    let a : ℕ = c.in_ok-first.first in
    let old = c.args.cursor.now in
    let one = c.exactly.new.cursor in
    let two = c.number.new.cursor in
    let known : (rest : ℕ → ℕ → Shape) → Breaks (whole v rest) old c.in_err-second.field-0.0 =
    λ rest. breaks_on old two (whole v rest) (Number a 10 (rest a)) c.in_err-second.field-0.0
    (leads_on old one two (whole v rest) (behind v rest) (Number a 10 (rest a)) (c.in_ok-exactly.ensures.passed (behind v rest)) (c.in_ok-first.ensures.passed (λ x. Number x 10 (rest x))))
    (c.in_err-second.ensures.wrong (rest a)) in
    let p = err_from_is_err_and c.from_residual-in_err-second.result c.from_residual-in_err-second.ensures.1 in
    rw (p.1, p.2) known

pub returns-clause-passed : goal.returns-clause-passed
returns-clause-passed c =
    let v : ℕ = c.args.variable in
    let a : ℕ = c.in_ok-first.first in
    let b : ℕ = c.in_ok-second.second in
    let old = c.args.cursor.now in
    let one = c.exactly.new.cursor in
    let two = c.number.new.cursor in
    let new = c.number-2.new.cursor in
    λ rest. leads_on old two new (whole v rest) (Number a 10 (rest a)) (rest a b)
    (leads_on old one two (whole v rest) (behind v rest) (Number a 10 (rest a)) (c.in_ok-exactly.ensures.passed (behind v rest)) (c.in_ok-first.ensures.passed (λ x. Number x 10 (rest x))))
    (c.in_ok-second.ensures.passed (rest a))
