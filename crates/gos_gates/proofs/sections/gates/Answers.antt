use Rattle.std.proofs.Common.{◌≡◌, ℕ, suc, ◌+◌, ◌-◌, List, [], ◌∷◌, ◌++◌, sym, subst, arith}
use Rattle.gos_gates.specs.inner.Shapes.{Leads, all_gates, gates_shape}
use Rattle.gos_gates.proofs.ShapeLemmas.{stands, one_more, no_more, none_left}
use Rattle.gos_gates.proofs.sections.gates.Goals as goal

pub loop-variable-init : goal.loop-variable-init
loop-variable-init c = λ ls os.
    let old = c.args.cursor.now in
    let h = c.args.header in
    let v : ℕ = h.inputs + h.latches + 1 in
    let all : h.variables - h.inputs - h.latches ≡ h.variables + 1 - v = omega arith in
    let none = subst (λ (k : ℕ). Leads old old (all_gates h ls os) (gates_shape h ls os v k [])) all (stands old (all_gates h ls os) c.requires.within) in
    subst (λ (gs : List (ℕ × ℕ)). Leads old old (all_gates h ls os) (gates_shape h ls os v (h.variables + 1 - v) gs)) (sym c.new-gates.ensures.items) none

pub returns-in-Err-clause-wrong : goal.returns-in-Err-clause-wrong
returns-in-Err-clause-wrong c = λ ls os.
    let h = c.args.header in
    let v : ℕ = c.loop-variable.variable in
    let gs : List (ℕ × ℕ) = c.loop-variable.gates.items in
    let before : ℕ = h.variables + 1 - v in
    let left : ℕ = h.variables + 1 - (v + 1) in
    let fewer : before ≡ suc left = omega (arith, c.loop-variable-test.true) in
    no_more c.args.cursor.now c.loop-variable.cursor (all_gates h ls os) (λ k. gates_shape h ls os v k gs) before left c.in-Err.at fewer (c.loop-variable.invariant ls os)
    (c.in-Err.ensures.wrong (λ a b. gates_shape h ls os (v + 1) left (gs ++ (a, b) ∷ [])))

pub loop-variable-preserved : goal.loop-variable-preserved
loop-variable-preserved c = λ ls os.
    let h = c.args.header in
    let old = c.args.cursor.now in
    let new = c.gate.new.cursor in
    let v : ℕ = c.loop-variable.variable in
    let gs : List (ℕ × ℕ) = c.loop-variable.gates.items in
    let g : ℕ × ℕ = c.in-Ok.literals in
    let before : ℕ = h.variables + 1 - v in
    let left : ℕ = h.variables + 1 - (v + 1) in
    let fewer : before ≡ suc left = omega (arith, c.loop-variable-test.true) in
    let known =
    one_more old c.loop-variable.cursor new (all_gates h ls os) (gates_shape h ls os (v + 1) left (gs ++ g ∷ [])) (λ k. gates_shape h ls os v k gs) before left fewer (c.loop-variable.invariant ls os)
    (c.in-Ok.ensures.passed (λ a b. gates_shape h ls os (v + 1) left (gs ++ (a, b) ∷ []))) in
    subst (λ (all : List (ℕ × ℕ)). Leads old new (all_gates h ls os) (gates_shape h ls os (v + 1) left all)) (sym c.in_ok-push-in-Ok.ensures.items) known

pub returns-clause-passed : goal.returns-clause-passed
returns-clause-passed c = λ ls os.
    let h = c.args.header in
    let v : ℕ = c.loop-variable.variable in
    let gs : List (ℕ × ℕ) = c.loop-variable.gates.items in
    none_left c.args.cursor.now c.loop-variable.cursor (all_gates h ls os) (λ k. gates_shape h ls os v k gs) (h.variables + 1 - v) (omega (arith, c.loop-variable-test.false)) (c.loop-variable.invariant ls os)
