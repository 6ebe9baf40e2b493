use Rattle.std.proofs.Common.{◌≡◌, ◌+◌, ◌∙◌, ◌∷◌, [], List, drop, length, ap, sym, subst, arith}
use Rattle.std.specs.Prelude.{IfSome}
use Rattle.std.proofs.lemmas.List.{drop_all, length-append}
use Rattle.gos_plan.specs.Seen.{SeenPlan}
use Rattle.gos_link.specs.declared.build.Instance.{Instance}
use Rattle.gos_link.proofs.CountedLemmas.{limits_more}
use Rattle.gos_command.proofs.EndLemmas.{of_stopped, made_of, not_whole}
use Rattle.gos_tool.specs.circuits.Objects.{RejectsObject}
use Rattle.gos_tool.specs.circuits.inner.Reading.{AreReadBefore}
use Rattle.gos_tool.proofs.lemmas.circuits.ExitLemmas.{err_is}
use Rattle.gos_tool.proofs.lemmas.circuits.ObjectLemmas.{next_instance, one_read, next_rejected, all_read, same_read, same_rejected}
use Rattle.gos_outside.specs.Calls.{Whole}
use Rattle.gos_command.proofs.LoopLemmas.{IsLeft, turn_made, turn_ends, ends_after, none_left}
use Rattle.gos_tool.specs.Calls.{read_object, object_calls}
use Rattle.gos_lex.specs.Lines.{Word}
use Rattle.gos_tool.proofs.circuits.objects.plans_in.Goals as goal

pub loop-instance-preserved : goal.loop-instance-preserved
loop-instance-preserved g c =
    let old = g.S.Store.contents c.args.store.now in
    let all = c.args.instances.now in
    let k = c.loop-instance.instance-index in
    let i = c.instance-item.result in
    let plans = c.loop-instance.plans.items in
    let before = subst (λ (rest : List Instance). AreReadBefore old all rest plans) (next_instance all k i c.loop-instance-test.true c.instance-item.is) c.loop-instance.invariant.0 in
    let read = same_read old (g.S.Store.contents c.loop-instance.store) i c.bytes.result.now c.in_ok-plan.plan c.loop-instance.invariant.2 c.bytes.ensures.bytes c.in_ok-plan.ensures.read in
    let items = ap (λ (ps : List SeenPlan). length ps) c.in-Ok.ensures.items in
    let joined = length-append plans (c.in_ok-plan.plan ∷ []) in
    let more = one_read old all (drop (k + 1) all) i plans c.in_ok-plan.plan before read in (
      subst (λ (ps : List SeenPlan). AreReadBefore old all (drop (k + 1) all) ps) (sym c.in-Ok.ensures.items) more,
      omega (arith, items, joined, c.loop-instance.invariant.1),
      c.in_ok-plan.ensures.same_files ∙ c.loop-instance.invariant.2,
      c.in_ok-plan.ensures.counts.1 (λ e. cc e) ∙ c.loop-instance.invariant.3,
      limits_more plans _ c.in_ok-plan.plan c.in-Ok.ensures.items c.loop-instance.invariant.4 c.in_ok-plan.ensures.limits,
      turn_made (object_calls all) (read_object i.object ∷ []) (object_calls (drop (k + 1) all)) (g.S.Store.calls c.args.store.now) (g.S.Store.calls c.loop-instance.store) (g.S.Store.calls c.plan_in.new.store)
          (subst (λ (rest : List Instance). IsLeft (object_calls all) (object_calls rest) (g.S.Store.calls c.args.store.now) (g.S.Store.calls c.loop-instance.store)) (next_instance all k i c.loop-instance-test.true c.instance-item.is) c.loop-instance.invariant.5)
          (made_of (λ (n : Word). read_object n ∷ []) Whole (g.S.Store.calls c.loop-instance.store) (g.S.Store.calls c.plan_in.new.store) _ _ c.bytes.ensures.bytes c.in_ok-plan.ensures.calls),
    )

pub returns-in_err-plan-clause-rejected : goal.returns-in_err-plan-clause-rejected
returns-in_err-plan-clause-rejected g c =
    let old = g.S.Store.contents c.args.store.now in
    let all = c.args.instances.now in
    let k = c.loop-instance.instance-index in
    let i = c.instance-item.result in
    let plans = c.loop-instance.plans.items in
    let before = subst (λ (rest : List Instance). AreReadBefore old all rest plans) (next_instance all k i c.loop-instance-test.true c.instance-item.is) c.loop-instance.invariant.0 in
    rw (err_is _ c.from_residual.ensures.1)
    (of_stopped _ (λ fault line. IfSome old (λ files. RejectsObject files all fault line)) c.in_err-plan.field-0.0
    (λ fault line h. next_rejected old all (drop (k + 1) all) i plans fault line before
    (same_rejected old (g.S.Store.contents c.loop-instance.store) i c.bytes.result.now fault line c.loop-instance.invariant.2 c.bytes.ensures.bytes h))
    c.in_err-plan.ensures.rejected)

pub returns-clause-held : goal.returns-clause-held
returns-clause-held g c =
    let all = c.args.instances.now in
    let k = c.loop-instance.instance-index in
    let none : drop k all ≡ [] = drop_all k all (omega (arith, c.loop-instance-test.false, c.loop-instance.auto.instance-index-end)) in
    let old = g.S.Store.contents c.args.store.now in
    all_read old all c.loop-instance.plans.items
    (subst (λ (rest : List Instance). AreReadBefore old all rest c.loop-instance.plans.items) none c.loop-instance.invariant.0)

pub returns-in_err-plan-clause-calls : goal.returns-in_err-plan-clause-calls
returns-in_err-plan-clause-calls g c =
    let all = c.args.instances.now in
    let k = c.loop-instance.instance-index in
    let i = c.instance-item.result in
    let old = g.S.Store.calls c.args.store.now in
    let now = g.S.Store.calls c.loop-instance.store in
    let new = g.S.Store.calls c.plan_in.new.store in
    rw (err_is _ c.from_residual.ensures.1)
    (turn_ends _ (object_calls all) (read_object i.object ∷ []) (object_calls (drop (k + 1) all)) old now new (subst (λ (rest : List Instance). IsLeft (object_calls all) (object_calls rest) old now) (next_instance all k i c.loop-instance-test.true c.instance-item.is) c.loop-instance.invariant.5) (not_whole c.in_err-plan.field-0.0)
    (made_of (λ (n : Word). read_object n ∷ []) _ now new _ _ c.bytes.ensures.bytes c.in_err-plan.ensures.calls))

pub returns-in_default-clause-calls : goal.returns-in_default-clause-calls
returns-in_default-clause-calls g c =
    let all = c.args.instances.now in
    let k = c.loop-instance.instance-index in
    let i = c.instance-item.result in
    let old = g.S.Store.calls c.args.store.now in
    let now = g.S.Store.calls c.loop-instance.store in
    let new = g.S.Store.calls c.plan_in.new.store in
    ends_after (object_calls all) (read_object i.object ∷ []) (object_calls (drop (k + 1) all)) old now new (subst (λ (rest : List Instance). IsLeft (object_calls all) (object_calls rest) old now) (next_instance all k i c.loop-instance-test.true c.instance-item.is) c.loop-instance.invariant.5)
    (made_of (λ (n : Word). read_object n ∷ []) Whole now new _ _ c.bytes.ensures.bytes c.in_ok-plan.ensures.calls)

pub returns-clause-calls : goal.returns-clause-calls
returns-clause-calls g c =
    let all = c.args.instances.now in
    let k = c.loop-instance.instance-index in
    let old = g.S.Store.calls c.args.store.now in
    let now = g.S.Store.calls c.loop-instance.store in
    let none : drop k all ≡ [] = drop_all k all (omega (arith, c.loop-instance-test.false, c.loop-instance.auto.instance-index-end)) in
    none_left (object_calls all) old now (subst (λ (rest : List Instance). IsLeft (object_calls all) (object_calls rest) old now) none c.loop-instance.invariant.5)
