use Rattle.std.proofs.Common.{[], ◌∙◌, ℕ, List, ap, subst, sym}
use Rattle.gos_lex.specs.ItemTexts.{Passed}
use Rattle.gos_witness.specs.inner.Left.{Leads}
use Rattle.gos_witness.specs.inner.Parts.{IsPath, PathLeft, is_first, path_line}
use Rattle.gos_witness.proofs.PathLemmas.{path_starts, step_breaks, step_more, step_end, step_shorter}
use Rattle.gos_witness.proofs.path_text.path.Goals as goal

pub loop-next-init : goal.loop-next-init
loop-next-init c =
    let old = c.args.cursor.now in (
      subst (λ (steps : List ℕ). Leads (List ℕ) (PathLeft []) (PathLeft steps) old old) (sym c.new-steps.ensures.items) (path_starts old c.requires),
      subst IsPath (sym c.new-steps.ensures.items) tt,
    )

pub returns-in-Err-clause-wrong : goal.returns-in-Err-clause-wrong
returns-in-Err-clause-wrong c =
    step_breaks c.args.cursor.now c.loop-next.cursor c.loop-next.steps.items c.is_first.result c.in-Err.at (c.is_first.ensures ∙ ap is_first c.deref.ensures.value) c.loop-next.invariant.0 c.in-Err.ensures.wrong

pub loop-next-preserved : goal.loop-next-preserved
loop-next-preserved c =
    let old = c.args.cursor.now in
    let new = c.step.new.cursor in
    let known = step_more old c.loop-next.cursor new c.loop-next.steps.items c.is_first.result c.in-Ok.next c.in-Some.child (c.is_first.ensures ∙ ap is_first c.deref.ensures.value) c.in-Some.is c.loop-next.invariant.0 c.loop-next.invariant.1 c.in-Ok.ensures.is c.in-Ok.ensures.passed in (
      subst (λ (steps : List ℕ). Leads (List ℕ) (PathLeft []) (PathLeft steps) old new) (sym c.in_ok-push-in-Some.ensures.items) known.0,
      subst IsPath (sym c.in_ok-push-in-Some.ensures.items) known.1,
    )

pub returns-in-None-clause-passed : goal.returns-in-None-clause-passed
returns-in-None-clause-passed c =
    subst (λ (path : List ℕ). Passed c.args.cursor.now c.step.new.cursor (path_line path)) (sym c.new.ensures)
    (step_end c.args.cursor.now c.loop-next.cursor c.step.new.cursor c.loop-next.steps.items c.is_first.result c.in-Ok.next (c.is_first.ensures ∙ ap is_first c.deref.ensures.value) c.in-None.is c.loop-next.invariant.0 c.in-Ok.ensures.is c.in-Ok.ensures.passed)

pub loop-next-smaller : goal.loop-next-smaller
loop-next-smaller c =
    step_shorter c.args.cursor.now c.loop-next.cursor c.step.new.cursor c.loop-next.steps.items c.is_first.result c.in-Ok.next c.loop-next.invariant.0 c.in-Ok.ensures.is c.in-Ok.ensures.passed
