use Rattle.std.proofs.Common.{◌≡◌, ℕ, suc, ◌+◌, ◌-◌, List, [], ◌∷◌, ◌++◌, sym, subst, arith}
use Rattle.gos_gates.specs.inner.Shapes.{Leads, all_outputs, outputs_shape}
use Rattle.gos_gates.proofs.ShapeLemmas.{stands, one_more, no_more, none_left}
use Rattle.gos_gates.proofs.sections.outputs.Goals as goal

pub loop-count-init : goal.loop-count-init
loop-count-init c = λ ls.
    let old = c.args.cursor.now in
    let h = c.args.header in
    let all : h.outputs ≡ h.outputs - 0 = omega arith in
    let none = subst (λ (k : ℕ). Leads old old (all_outputs h ls) (outputs_shape h ls k [])) all (stands old (all_outputs h ls) c.requires.within) in
    subst (λ (os : List ℕ). Leads old old (all_outputs h ls) (outputs_shape h ls (h.outputs - 0) os)) (sym c.new-outputs.ensures.items) none

pub returns-in-Err-clause-wrong : goal.returns-in-Err-clause-wrong
returns-in-Err-clause-wrong c = λ ls.
    let h = c.args.header in
    let os : List ℕ = c.loop-count.outputs.items in
    let before : ℕ = h.outputs - c.loop-count._count in
    let left : ℕ = h.outputs - (c.loop-count._count + 1) in
    let fewer : before ≡ suc left = omega (arith, c.loop-count-test.true) in
    no_more c.args.cursor.now c.loop-count.cursor (all_outputs h ls) (λ k. outputs_shape h ls k os) before left c.in-Err.at fewer (c.loop-count.invariant ls)
    (c.in-Err.ensures.wrong (λ l. outputs_shape h ls left (os ++ l ∷ [])))

pub loop-count-preserved : goal.loop-count-preserved
loop-count-preserved c = λ ls.
    let h = c.args.header in
    let old = c.args.cursor.now in
    let new = c.number.new.cursor in
    let os : List ℕ = c.loop-count.outputs.items in
    let l : ℕ = c.in-Ok.literal in
    let before : ℕ = h.outputs - c.loop-count._count in
    let left : ℕ = h.outputs - (c.loop-count._count + 1) in
    let fewer : before ≡ suc left = omega (arith, c.loop-count-test.true) in
    let known =
    one_more old c.loop-count.cursor new (all_outputs h ls) (outputs_shape h ls left (os ++ l ∷ [])) (λ k. outputs_shape h ls k os) before left fewer (c.loop-count.invariant ls)
    (c.in-Ok.ensures.passed (λ x. outputs_shape h ls left (os ++ x ∷ []))) in
    subst (λ (all : List ℕ). Leads old new (all_outputs h ls) (outputs_shape h ls left all)) (sym c.in_ok-push-in-Ok.ensures.items) known

pub returns-clause-passed : goal.returns-clause-passed
returns-clause-passed c = λ ls.
    let h = c.args.header in
    let os : List ℕ = c.loop-count.outputs.items in
    none_left c.args.cursor.now c.loop-count.cursor (all_outputs h ls) (λ k. outputs_shape h ls k os) (h.outputs - c.loop-count._count) (omega (arith, c.loop-count-test.false)) (c.loop-count.invariant ls)
