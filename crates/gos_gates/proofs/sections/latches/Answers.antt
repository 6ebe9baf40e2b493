use Rattle.std.proofs.Common.{◌≡◌, ℕ, suc, ◌+◌, ◌-◌, List, [], ◌∷◌, ◌++◌, sym, subst, arith}
use Rattle.gos_gates.specs.inner.Shapes.{Leads, all_latches, latches_shape}
use Rattle.gos_gates.proofs.ShapeLemmas.{stands, one_more, no_more, none_left}
use Rattle.gos_gates.proofs.sections.latches.Goals as goal

pub loop-variable-init : goal.loop-variable-init
loop-variable-init c =
    let old = c.args.cursor.now in
    let h = c.args.header in
    let all : h.latches ≡ h.inputs + h.latches + 1 - (h.inputs + 1) = omega arith in
    let none = subst (λ (k : ℕ). Leads old old (all_latches h) (latches_shape h (h.inputs + 1) k [])) all (stands old (all_latches h) c.requires.within) in
    subst (λ (ls : List ℕ). Leads old old (all_latches h) (latches_shape h (h.inputs + 1) (h.inputs + h.latches + 1 - (h.inputs + 1)) ls)) (sym c.new-latches.ensures.items) none

pub returns-in-Err-clause-wrong : goal.returns-in-Err-clause-wrong
returns-in-Err-clause-wrong c =
    let h = c.args.header in
    let v : ℕ = c.loop-variable.variable in
    let ls : List ℕ = c.loop-variable.latches.items in
    let before : ℕ = h.inputs + h.latches + 1 - v in
    let left : ℕ = h.inputs + h.latches + 1 - (v + 1) in
    let fewer : before ≡ suc left = omega (arith, c.loop-variable-test.true) in
    no_more c.args.cursor.now c.loop-variable.cursor (all_latches h) (λ k. latches_shape h v k ls) before left c.in-Err.at fewer c.loop-variable.invariant
    (c.in-Err.ensures.wrong (λ l. latches_shape h (v + 1) left (ls ++ l ∷ [])))

pub loop-variable-preserved : goal.loop-variable-preserved
loop-variable-preserved c =
    let h = c.args.header in
    let old = c.args.cursor.now in
    let new = c.latch.new.cursor in
    let v : ℕ = c.loop-variable.variable in
    let ls : List ℕ = c.loop-variable.latches.items in
    let l : ℕ = c.in-Ok.literal in
    let before : ℕ = h.inputs + h.latches + 1 - v in
    let left : ℕ = h.inputs + h.latches + 1 - (v + 1) in
    let fewer : before ≡ suc left = omega (arith, c.loop-variable-test.true) in
    let known =
    one_more old c.loop-variable.cursor new (all_latches h) (latches_shape h (v + 1) left (ls ++ l ∷ [])) (λ k. latches_shape h v k ls) before left fewer c.loop-variable.invariant
    (c.in-Ok.ensures.passed (λ x. latches_shape h (v + 1) left (ls ++ x ∷ []))) in
    subst (λ (all : List ℕ). Leads old new (all_latches h) (latches_shape h (v + 1) left all)) (sym c.in_ok-push-in-Ok.ensures.items) known

pub returns-clause-passed : goal.returns-clause-passed
returns-clause-passed c =
    let h = c.args.header in
    let v : ℕ = c.loop-variable.variable in
    let ls : List ℕ = c.loop-variable.latches.items in
    none_left c.args.cursor.now c.loop-variable.cursor (all_latches h) (λ k. latches_shape h v k ls) (h.inputs + h.latches + 1 - v) (omega (arith, c.loop-variable-test.false)) c.loop-variable.invariant
