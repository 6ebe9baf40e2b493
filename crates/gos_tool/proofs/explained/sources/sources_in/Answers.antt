use Rattle.std.proofs.Common.{◌≡◌, ◌+◌, ◌∙◌, ◌∷◌, [], List, drop, length, ap, sym, subst, arith}
use Rattle.std.specs.Prelude.{IfSome}
use Rattle.std.proofs.lemmas.List.{drop_all, length-append}
use Rattle.gos_syntax.specs.Modules.{SeenModule}
use Rattle.gos_plan.specs.Seen.{SeenPlan}
use Rattle.gos_link.specs.declared.build.Instance.{Instance}
use Rattle.gos_link.proofs.CountedLemmas.{limits_more}
use Rattle.gos_lex.specs.Lines.{Word}
use Rattle.gos_outside.specs.Calls.{Whole, AreMade}
use Rattle.gos_command.specs.Ends.{stop_ending}
use Rattle.gos_command.specs.declared.stop.Stop.{Stop}
use Rattle.gos_command.proofs.EndLemmas.{of_stopped, made_of, not_whole}
use Rattle.gos_command.proofs.LoopLemmas.{IsLeft, turn_made, turn_ends, ends_after, none_left}
use Rattle.gos_tool.specs.Calls.{read_source, source_calls}
use Rattle.gos_tool.specs.explained.Sources.{RejectsSource}
use Rattle.gos_tool.specs.explained.inner.Reading.{AreSaidBefore}
use Rattle.gos_tool.proofs.lemmas.circuits.ExitLemmas.{err_is}
use Rattle.gos_tool.proofs.lemmas.circuits.ObjectLemmas.{next_instance}
use Rattle.gos_tool.proofs.lemmas.explained.SourceLemmas.{accepted_more, all_said, next_rejected, one_said, same_rejected, same_said, stand_more}
use Rattle.gos_tool.proofs.explained.sources.sources_in.Goals as goal

pub loop-instance-preserved : goal.loop-instance-preserved
loop-instance-preserved g c =
    let old = g.S.Store.contents c.args.store.now in
    let all = c.args.instances.now in
    let k = c.loop-instance.instance-index in
    let i = c.instance-item.result in
    let ms = c.loop-instance.sources.modules.items in
    let ps = c.loop-instance.sources.shells.items in
    let m = c.in_ok-read.read.made in
    let p = c.in_ok-read.read.shell in
    let next = next_instance all k i c.loop-instance-test.true c.instance-item.is in
    let before = subst (λ (rest : List Instance). AreSaidBefore old all rest ms) next c.loop-instance.invariant.0 in
    let said = same_said old (g.S.Store.contents c.loop-instance.store) i c.bytes.result.now m c.loop-instance.invariant.2 c.bytes.ensures.bytes c.in_ok-read.ensures.says in
    let modules = c.in_ok-add.ensures.modules in
    let shells = c.in_ok-add.ensures.shells in
    let items = ap (λ (qs : List SeenPlan). length qs) shells in
    let joined = length-append ps (p ∷ []) in (
      subst (λ (ns : List SeenModule). AreSaidBefore old all (drop (k + 1) all) ns) (sym modules) (one_said old all (drop (k + 1) all) i ms m before said),
      omega (arith, items, joined, c.loop-instance.invariant.1),
      c.in_ok-read.ensures.same_files ∙ c.loop-instance.invariant.2,
      c.in_ok-read.ensures.counts.1 (λ e. cc e) ∙ c.loop-instance.invariant.3,
      limits_more ps _ p shells c.loop-instance.invariant.4 c.in_ok-read.ensures.limits,
      turn_made (source_calls all) (read_source i.source ∷ []) (source_calls (drop (k + 1) all)) (g.S.Store.calls c.args.store.now) (g.S.Store.calls c.loop-instance.store) (g.S.Store.calls c.source_in.new.store)
          (subst (λ (rest : List Instance). IsLeft (source_calls all) (source_calls rest) (g.S.Store.calls c.args.store.now) (g.S.Store.calls c.loop-instance.store)) next c.loop-instance.invariant.5)
          (made_of (λ (n : Word). read_source n ∷ []) Whole (g.S.Store.calls c.loop-instance.store) (g.S.Store.calls c.source_in.new.store) _ _ c.bytes.ensures.bytes c.in_ok-read.ensures.calls),
      stand_more ms _ ps _ m p modules shells c.loop-instance.invariant.6 c.in_ok-read.ensures.face,
      accepted_more ms _ m modules c.loop-instance.invariant.7 c.in_ok-read.ensures.accepted,
    )

pub returns-in_err-read-clause-rejected : goal.returns-in_err-read-clause-rejected
returns-in_err-read-clause-rejected g c =
    let old = g.S.Store.contents c.args.store.now in
    let all = c.args.instances.now in
    let k = c.loop-instance.instance-index in
    let i = c.instance-item.result in
    let ms = c.loop-instance.sources.modules.items in
    let before = subst (λ (rest : List Instance). AreSaidBefore old all rest ms) (next_instance all k i c.loop-instance-test.true c.instance-item.is) c.loop-instance.invariant.0 in
    rw (err_is _ c.from_residual.ensures.1)
    (of_stopped _ (λ fault line. IfSome old (λ files. RejectsSource files all fault line)) c.in_err-read.field-0.0
    (λ fault line h. next_rejected old all (drop (k + 1) all) i ms fault line before
    (same_rejected old (g.S.Store.contents c.loop-instance.store) i c.bytes.result.now fault line c.loop-instance.invariant.2 c.bytes.ensures.bytes h))
    c.in_err-read.ensures.rejected)

pub returns-in_err-read-clause-calls : goal.returns-in_err-read-clause-calls
returns-in_err-read-clause-calls g c =
    let all = c.args.instances.now in
    let k = c.loop-instance.instance-index in
    let i = c.instance-item.result in
    let old = g.S.Store.calls c.args.store.now in
    let now = g.S.Store.calls c.loop-instance.store in
    let new = g.S.Store.calls c.source_in.new.store in
    rw (err_is _ c.from_residual.ensures.1)
    (turn_ends _ (source_calls all) (read_source i.source ∷ []) (source_calls (drop (k + 1) all)) old now new (subst (λ (rest : List Instance). IsLeft (source_calls all) (source_calls rest) old now) (next_instance all k i c.loop-instance-test.true c.instance-item.is) c.loop-instance.invariant.5) (not_whole c.in_err-read.field-0.0)
    (made_of (λ (n : Word). read_source n ∷ []) _ now new _ _ c.bytes.ensures.bytes c.in_err-read.ensures.calls))

pub returns-in_err-add-clause-calls : goal.returns-in_err-add-clause-calls
returns-in_err-add-clause-calls g c =
    let all = c.args.instances.now in
    let k = c.loop-instance.instance-index in
    let i = c.instance-item.result in
    let old = g.S.Store.calls c.args.store.now in
    let now = g.S.Store.calls c.loop-instance.store in
    let new = g.S.Store.calls c.source_in.new.store in
    let made = made_of (λ (n : Word). read_source n ∷ []) Whole now new _ _ c.bytes.ensures.bytes c.in_ok-read.ensures.calls in
    rw (err_is _ c.from_residual-in_err-add.ensures.1)
    (subst (λ (stop : Stop). AreMade (stop_ending stop) (source_calls all) old new) (sym c.in_err-add.ensures.memory)
    (ends_after (source_calls all) (read_source i.source ∷ []) (source_calls (drop (k + 1) all)) old now new (subst (λ (rest : List Instance). IsLeft (source_calls all) (source_calls rest) old now) (next_instance all k i c.loop-instance-test.true c.instance-item.is) c.loop-instance.invariant.5) made))

pub returns-clause-say : goal.returns-clause-say
returns-clause-say g c =
    let all = c.args.instances.now in
    let k = c.loop-instance.instance-index in
    let none : drop k all ≡ [] = drop_all k all (omega (arith, c.loop-instance-test.false, c.loop-instance.auto.instance-index-end)) in
    let old = g.S.Store.contents c.args.store.now in
    all_said old all c.loop-instance.sources.modules.items
    (subst (λ (rest : List Instance). AreSaidBefore old all rest c.loop-instance.sources.modules.items) none c.loop-instance.invariant.0)

pub returns-clause-calls : goal.returns-clause-calls
returns-clause-calls g c =
    let all = c.args.instances.now in
    let k = c.loop-instance.instance-index in
    let old = g.S.Store.calls c.args.store.now in
    let now = g.S.Store.calls c.loop-instance.store in
    let none : drop k all ≡ [] = drop_all k all (omega (arith, c.loop-instance-test.false, c.loop-instance.auto.instance-index-end)) in
    none_left (source_calls all) old now (subst (λ (rest : List Instance). IsLeft (source_calls all) (source_calls rest) old now) none c.loop-instance.invariant.5)
