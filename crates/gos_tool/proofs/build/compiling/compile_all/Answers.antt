use Rattle.std.proofs.Common.{◌≡◌, ◌∙◌, ◌∷◌, ◌++◌, refl, [], List, length, ap, sym, subst, arith, drop, ◌+◌}
use Rattle.std.specs.Prelude.{IfSome}
use Rattle.std.proofs.lemmas.List.{length-append, drop_all}
use Rattle.gos_plan.specs.Seen.{SeenPlan}
use Rattle.gos_link.proofs.CountedLemmas.{limits_more}
use Rattle.gos_command.proofs.EndLemmas.{of_stopped_both, not_whole}
use Rattle.gos_tool.proofs.lemmas.circuits.ExitLemmas.{err_is, failed_as}
use Rattle.gos_tool.specs.build.Objects.{RejectsModule}
use Rattle.gos_tool.specs.build.inner.Compiling.{AreFit, AreSoFar}
use Rattle.gos_tool.proofs.lemmas.build.ObjectLemmas.{is_next, so_far, some_written, rejects, calls, all_written, objects_same}
use Rattle.gos_tool.proofs.lemmas.build.FitLemmas.{one_more_fits}
use Rattle.gos_command.proofs.LoopLemmas.{IsLeft, turn_made, turn_ends, ends_after, none_left}
use Rattle.gos_tool.specs.Calls.{compile_calls, module_calls}
use Rattle.gos_tool.proofs.lemmas.circuits.ObjectLemmas.{next_instance}
use Rattle.gos_link.specs.declared.build.Instance.{Instance}
use Rattle.gos_tool.proofs.build.compiling.compile_all.Goals as goal

pub loop-instance-preserved : goal.loop-instance-preserved
loop-instance-preserved g c =
    let all = c.args.instances.now in
    let old = g.S.Store.contents c.args.store.now in
    let new = g.S.Store.contents c.compile_one.new.store in
    let plans = c.loop-instance.plans.items in
    let p = c.in_ok-plan.plan in
    let next = is_next c.requires c.loop-instance.invariant.0 c.loop-instance.invariant.1 c.loop-instance.invariant.2 c.loop-instance-test.true c.instance-item.is in
    let items = ap (λ (ps : List SeenPlan). length ps) c.in-Ok.ensures.items in
    let joined = length-append plans (p ∷ []) in
    let i = c.instance-item.result in
    let k = c.loop-instance.instance-index in
    let first = g.S.Store.calls c.args.store.now in
    let now = g.S.Store.calls c.loop-instance.store in
    let one_more_compiled =
    turn_made (module_calls all) (compile_calls i.source i.object) (module_calls (drop (k + 1) all)) first now (g.S.Store.calls c.compile_one.new.store)
    (subst (λ (rest : List Instance). IsLeft (module_calls all) (module_calls rest) first now) (next_instance all k i c.loop-instance-test.true c.instance-item.is) c.loop-instance.invariant.6)
    c.in_ok-plan.ensures.calls in (
      subst (λ (ps : List SeenPlan). IfSome old (λ files. AreSoFar files new all ps)) (sym c.in-Ok.ensures.items)
          (so_far next _ p c.in_ok-plan.ensures.wrote c.in_ok-plan.ensures.made),
      omega (arith, items, joined, c.loop-instance.invariant.1),
      objects_same next _ c.in_ok-plan.ensures.others,
      c.in_ok-plan.ensures.counts.1 (λ e. cc e) ∙ c.loop-instance.invariant.3,
      limits_more plans _ p c.in-Ok.ensures.items c.loop-instance.invariant.4 c.in_ok-plan.ensures.limits,
      subst AreFit (sym c.in-Ok.ensures.items) (one_more_fits plans p c.loop-instance.invariant.5 c.in_ok-plan.ensures.fit),
      one_more_compiled,
    )

pub returns-in_err-plan-clause-rejected : goal.returns-in_err-plan-clause-rejected
returns-in_err-plan-clause-rejected g c =
    let all = c.args.instances.now in
    let old = g.S.Store.contents c.args.store.now in
    let new = g.S.Store.contents c.compile_one.new.store in
    let next = is_next c.requires c.loop-instance.invariant.0 c.loop-instance.invariant.1 c.loop-instance.invariant.2 c.loop-instance-test.true c.instance-item.is in
    rw (err_is _ c.from_residual.ensures.1)
    (of_stopped_both _ _ (λ fault line. IfSome old (λ files. RejectsModule files new all fault line)) c.in_err-plan.field-0.0
    (λ fault line why kept. rejects next _ fault line kept why) c.in_err-plan.ensures.rejected c.in_err-plan.ensures.rejected_files)

pub returns-in_err-plan-clause-failed_call : goal.returns-in_err-plan-clause-failed_call
returns-in_err-plan-clause-failed_call g c = λ failed.
    let next = is_next c.requires c.loop-instance.invariant.0 c.loop-instance.invariant.1 c.loop-instance.invariant.2 c.loop-instance-test.true c.instance-item.is in
    calls next _ (g.S.Store.last_fault c.compile_one.new.store) (c.in_err-plan.ensures.failed_call (failed_as _ c.from_residual.ensures.1 failed))

pub returns-in_err-plan-clause-memory_files : goal.returns-in_err-plan-clause-memory_files
returns-in_err-plan-clause-memory_files g c = λ failed.
    some_written _ _ _ _ _ (c.in_err-plan.ensures.memory_files (failed_as _ c.from_residual.ensures.1 failed)) c.loop-instance.invariant.0

pub returns-in_err-plan-clause-others : goal.returns-in_err-plan-clause-others
returns-in_err-plan-clause-others g c =
    let next = is_next c.requires c.loop-instance.invariant.0 c.loop-instance.invariant.1 c.loop-instance.invariant.2 c.loop-instance-test.true c.instance-item.is in
    objects_same next _ c.in_err-plan.ensures.others

pub returns-clause-written : goal.returns-clause-written
returns-clause-written g c =
    let all = c.args.instances.now in
    let plans = c.loop-instance.plans.items in
    let each : length plans ≡ length all = omega (arith, c.loop-instance-test.false, c.loop-instance.auto.instance-index-end, c.loop-instance.invariant.1) in
    all_written _ _ all plans each c.loop-instance.invariant.0

pub returns-in_default-clause-memory_files : goal.returns-in_default-clause-memory_files
returns-in_default-clause-memory_files g c = λ failed.
    let new = g.S.Store.contents c.compile_one.new.store in
    let p = c.in_ok-plan.plan in
    let next = is_next c.requires c.loop-instance.invariant.0 c.loop-instance.invariant.1 c.loop-instance.invariant.2 c.loop-instance-test.true c.instance-item.is in
    some_written _ new new _ (c.loop-instance.plans.items ++ p ∷ []) refl (so_far next _ p c.in_ok-plan.ensures.wrote c.in_ok-plan.ensures.made)

pub returns-in_default-clause-others : goal.returns-in_default-clause-others
returns-in_default-clause-others g c =
    let next = is_next c.requires c.loop-instance.invariant.0 c.loop-instance.invariant.1 c.loop-instance.invariant.2 c.loop-instance-test.true c.instance-item.is in
    objects_same next _ c.in_ok-plan.ensures.others

pub returns-in_err-plan-clause-calls : goal.returns-in_err-plan-clause-calls
returns-in_err-plan-clause-calls g c =
    let all = c.args.instances.now in
    let k = c.loop-instance.instance-index in
    let i = c.instance-item.result in
    let old = g.S.Store.calls c.args.store.now in
    let now = g.S.Store.calls c.loop-instance.store in
    let new = g.S.Store.calls c.compile_one.new.store in
    rw (err_is _ c.from_residual.ensures.1)
    (turn_ends _ (module_calls all) (compile_calls i.source i.object) (module_calls (drop (k + 1) all)) old now new (subst (λ (rest : List Instance). IsLeft (module_calls all) (module_calls rest) old now) (next_instance all k i c.loop-instance-test.true c.instance-item.is) c.loop-instance.invariant.6) (not_whole c.in_err-plan.field-0.0) c.in_err-plan.ensures.calls)

pub returns-in_default-clause-calls : goal.returns-in_default-clause-calls
returns-in_default-clause-calls g c =
    let all = c.args.instances.now in
    let k = c.loop-instance.instance-index in
    let i = c.instance-item.result in
    let old = g.S.Store.calls c.args.store.now in
    let now = g.S.Store.calls c.loop-instance.store in
    let new = g.S.Store.calls c.compile_one.new.store in
    ends_after (module_calls all) (compile_calls i.source i.object) (module_calls (drop (k + 1) all)) old now new (subst (λ (rest : List Instance). IsLeft (module_calls all) (module_calls rest) old now) (next_instance all k i c.loop-instance-test.true c.instance-item.is) c.loop-instance.invariant.6) c.in_ok-plan.ensures.calls

pub returns-clause-calls : goal.returns-clause-calls
returns-clause-calls g c =
    let all = c.args.instances.now in
    let k = c.loop-instance.instance-index in
    let old = g.S.Store.calls c.args.store.now in
    let now = g.S.Store.calls c.loop-instance.store in
    let none : drop k all ≡ [] = drop_all k all (omega (arith, c.loop-instance-test.false, c.loop-instance.auto.instance-index-end)) in
    none_left (module_calls all) old now (subst (λ (rest : List Instance). IsLeft (module_calls all) (module_calls rest) old now) none c.loop-instance.invariant.6)
