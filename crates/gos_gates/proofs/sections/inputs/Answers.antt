use Rattle.std.proofs.Common.{◌≡◌, ℕ, suc, ◌+◌, ◌-◌, subst, arith}
use Rattle.gos_gates.specs.inner.Shapes.{Leads, lines_shape, inputs_shape}
use Rattle.gos_gates.proofs.ShapeLemmas.{stands, one_more, no_more, none_left}
use Rattle.gos_gates.proofs.sections.inputs.Goals as goal

pub loop-variable-init : goal.loop-variable-init
loop-variable-init c =
    let old = c.args.cursor.now in
    let h = c.args.header in
    let all : h.inputs ≡ h.inputs + 1 - 1 = omega arith in
    subst (λ (k : ℕ). Leads old old (lines_shape h) (inputs_shape h 1 k)) all (stands old (lines_shape h) c.requires.within)

pub returns-in-Err-clause-wrong : goal.returns-in-Err-clause-wrong
returns-in-Err-clause-wrong c =
    let h = c.args.header in
    let v : ℕ = c.loop-variable.variable in
    let before : ℕ = h.inputs + 1 - v in
    let left : ℕ = h.inputs + 1 - (v + 1) in
    let fewer : before ≡ suc left = omega (arith, c.loop-variable-test.true) in
    no_more c.args.cursor.now c.loop-variable.cursor (lines_shape h) (inputs_shape h v) before left c.in-Err.at fewer c.loop-variable.invariant (c.in-Err.ensures.wrong (inputs_shape h (v + 1) left))

pub loop-variable-preserved : goal.loop-variable-preserved
loop-variable-preserved c =
    let h = c.args.header in
    let v : ℕ = c.loop-variable.variable in
    let before : ℕ = h.inputs + 1 - v in
    let left : ℕ = h.inputs + 1 - (v + 1) in
    let fewer : before ≡ suc left = omega (arith, c.loop-variable-test.true) in
    one_more c.args.cursor.now c.loop-variable.cursor c.exactly.new.cursor (lines_shape h) (inputs_shape h (v + 1) left) (inputs_shape h v) before left fewer c.loop-variable.invariant (c.in-Ok.ensures.passed (inputs_shape h (v + 1) left))

pub returns-clause-passed : goal.returns-clause-passed
returns-clause-passed c =
    let h = c.args.header in
    let v : ℕ = c.loop-variable.variable in
    none_left c.args.cursor.now c.loop-variable.cursor (lines_shape h) (inputs_shape h v) (h.inputs + 1 - v) (omega (arith, c.loop-variable-test.false)) c.loop-variable.invariant
