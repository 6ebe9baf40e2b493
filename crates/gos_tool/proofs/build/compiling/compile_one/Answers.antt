use Rattle.std.specs.Prelude.{IfSome}
use Rattle.gos_outside.specs.Files.{bytes_at}
use Rattle.gos_plan.specs.Seen.{SeenPlan, plan_of}
use Rattle.gos_command.proofs.EndLemmas.{of_result, early, made_of}
use Rattle.gos_tool.specs.objects.Typed.{IsPlanFor}
use Rattle.gos_tool.specs.build.inner.Compiling.{IsCompiledAs, IsFit}
use Rattle.gos_tool.proofs.lemmas.build.ObjectLemmas.{compiled_as, instance_call}
use Rattle.std.proofs.Common.{◌∷◌, []}
use Rattle.gos_outside.specs.Calls.{Write, Whole}
use Rattle.gos_outside.proofs.CallsLemmas.{goes_on}
use Rattle.gos_tool.specs.Calls.{read_source}
use Rattle.gos_lex.specs.Lines.{Word}
use Rattle.gos_tool.proofs.build.compiling.compile_one.Goals as goal

pub returns-clause-made : goal.returns-clause-made
returns-clause-made g c =
    let old = g.S.Store.contents c.args.store.now in
    let source = c.args.instance.now.source in
    let linear = c.in_ok-linear.linear in
    of_result (λ (plan : SeenPlan). IsPlanFor linear (plan_of plan)) (λ (plan : SeenPlan). IfSome old (λ files. IsCompiledAs (bytes_at files source) (plan_of plan)))
    c.write_plan.result
    (λ plan is. compiled_as old c.bytes.result.now source c.bytes.ensures.bytes linear (plan_of plan) c.in_ok-linear.ensures.typed is) c.write_plan.ensures.made

pub returns-clause-fit : goal.returns-clause-fit
returns-clause-fit g c =
    let linear = c.in_ok-linear.linear in
    of_result (λ (plan : SeenPlan). IsPlanFor linear (plan_of plan)) (λ (plan : SeenPlan). IsFit (plan_of plan)) c.write_plan.result
    (λ plan is. record { right = is.realises.right; slim = is.slim }) c.write_plan.ensures.made

pub returns-clause-failed_call : goal.returns-clause-failed_call
returns-clause-failed_call g c = λ failed.
    instance_call (g.S.Store.contents c.args.store.now) (g.S.Store.contents c.module_in.new.store) (g.S.Store.contents c.write_plan.new.store) c.args.instance.now
    c.bytes.result.now c.bytes-2.result.now c.in_ok-linear.linear (g.S.Store.last_fault c.write_plan.new.store)
    c.bytes.ensures.bytes c.bytes-2.ensures.bytes c.in_ok-linear.ensures.same_files c.in_ok-linear.ensures.typed (c.write_plan.ensures.failed_call failed)
    c.write_plan.ensures.others

pub returns-in_err-linear-clause-calls : goal.returns-in_err-linear-clause-calls
returns-in_err-linear-clause-calls g c =
    early _ _ (read_source c.args.instance.now.source ∷ []) (Write c.args.instance.now.object ∷ []) (g.S.Store.calls c.args.store.now) (g.S.Store.calls c.module_in.new.store) c.from_residual.ensures.1
    (made_of (λ (n : Word). read_source n ∷ []) _ (g.S.Store.calls c.args.store.now) (g.S.Store.calls c.module_in.new.store) _ _ c.bytes.ensures.bytes c.in_err-linear.ensures.calls)

pub returns-clause-calls : goal.returns-clause-calls
returns-clause-calls g c =
    goes_on _ (read_source c.args.instance.now.source ∷ []) (Write c.args.instance.now.object ∷ []) (g.S.Store.calls c.args.store.now) (g.S.Store.calls c.module_in.new.store) (g.S.Store.calls c.write_plan.new.store)
    (made_of (λ (n : Word). read_source n ∷ []) Whole (g.S.Store.calls c.args.store.now) (g.S.Store.calls c.module_in.new.store) _ _ c.bytes.ensures.bytes c.in_ok-linear.ensures.calls)
    (made_of (λ (n : Word). Write n ∷ []) _ (g.S.Store.calls c.module_in.new.store) (g.S.Store.calls c.write_plan.new.store) _ _ c.bytes-2.ensures.bytes c.write_plan.ensures.calls)
