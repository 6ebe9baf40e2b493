use Rattle.std.specs.List.{flat_map}
use Rattle.std.proofs.Common.{List, ◌≡◌, ◌∙◌, ap, subst, sym}
use Rattle.gos_netlist.specs.Settling.{Numbers}
use Rattle.gos_sim.specs.declared.evaluation.Run.{Run}
use Rattle.gos_sim.specs.declared.program.Step.{Step}
use Rattle.gos_sim.specs.inner.Evaluation.{after, steps_of}
use Rattle.gos_sim.specs.inner.Running.{AreShown, KeepsOtherSteps}
use Rattle.gos_sim.proofs.EvaluationLemmas.{kept_after, shown_after}
use Rattle.gos_sim.proofs.evaluation.Program.evaluate.Goals as goal

pub returns-clause-shown : goal.returns-clause-shown
returns-clause-shown g c =
    let steps : flat_map (steps_of c.self.inside.operands) c.deref.result.now ≡ c.args.self.now = ap (λ (rs : List Run). flat_map (steps_of c.self.inside.operands) rs) c.deref.ensures.value ∙ c.self.view_is in
    let all = c.evaluate_words.ensures.values ∙ ap (λ (ss : List Step). after ss c.args.values.now) steps in
    subst (λ (v : Numbers). AreShown c.args.self.now v) (sym all) (shown_after c.args.self.now c.args.values.now c.requires.order c.requires.one c.requires.steps)

pub returns-clause-others : goal.returns-clause-others
returns-clause-others g c =
    let steps : flat_map (steps_of c.self.inside.operands) c.deref.result.now ≡ c.args.self.now = ap (λ (rs : List Run). flat_map (steps_of c.self.inside.operands) rs) c.deref.ensures.value ∙ c.self.view_is in
    let all = c.evaluate_words.ensures.values ∙ ap (λ (ss : List Step). after ss c.args.values.now) steps in
    subst (λ (v : Numbers). KeepsOtherSteps c.args.self.now c.args.values.now v) (sym all) (kept_after c.args.self.now c.args.values.now)
