use Rattle.std.proofs.Common.{◌∙◌, ap, subst, List}
use Rattle.gos_outside.specs.OtherFiles.{OthersSame}
use Rattle.gos_tool.specs.demo.DemoFiles.{NamedText}
use Rattle.gos_tool.specs.demo.Demo.{with_files, names_of}
use Rattle.gos_tool.proofs.lemmas.demo.EndLemmas.{demo_done, demo_never_rejected, demo_call, demo_cut_short, all_others}
use Rattle.gos_tool.proofs.lemmas.demo.CallLemmas.{at_files, out_of_memory, then_builds}
use Rattle.gos_command.proofs.EndLemmas.{made_of}
use Rattle.gos_outside.specs.Calls.{Whole}
use Rattle.gos_tool.specs.Calls.{write_calls}
use Rattle.gos_tool.proofs.demo.command.demo.Goals as goal

pub returns-clause-done : goal.returns-clause-done
returns-clause-done g c =
    let old = g.S.Store.contents c.args.store.now in
    demo_done c.args.levels old (g.S.Store.contents c.write_files.new.store) (g.S.Store.contents c.build.new.store) c.build.result c.requires
    (c.in_ok-write_files.ensures.written ∙ ap (λ (fs : List NamedText). with_files fs old) (c.as_slice.ensures.value ∙ c.in_ok-files.ensures)) c.build.ensures.others c.build.ensures.done

pub returns-clause-never_rejected : goal.returns-clause-never_rejected
returns-clause-never_rejected g c =
    let old = g.S.Store.contents c.args.store.now in
    demo_never_rejected c.args.levels old (g.S.Store.contents c.write_files.new.store) (g.S.Store.contents c.build.new.store) c.build.result c.requires
    c.found_exactly.ensures c.few_joints.ensures c.right_builds.ensures.rejected
    (c.in_ok-write_files.ensures.written ∙ ap (λ (fs : List NamedText). with_files fs old) (c.as_slice.ensures.value ∙ c.in_ok-files.ensures)) c.build.ensures.rejected

pub returns-clause-failed_call : goal.returns-clause-failed_call
returns-clause-failed_call g c = λ failed.
    let old = g.S.Store.contents c.args.store.now in
    demo_call c.args.levels old (g.S.Store.contents c.write_files.new.store) (g.S.Store.contents c.build.new.store) (g.S.Store.last_fault c.build.new.store)
    (c.in_ok-write_files.ensures.written ∙ ap (λ (fs : List NamedText). with_files fs old) (c.as_slice.ensures.value ∙ c.in_ok-files.ensures)) (c.build.ensures.failed_call failed)

pub returns-clause-memory_files : goal.returns-clause-memory_files
returns-clause-memory_files g c = λ failed.
    let old = g.S.Store.contents c.args.store.now in
    demo_cut_short c.args.levels old (g.S.Store.contents c.write_files.new.store) (g.S.Store.contents c.build.new.store)
    (c.in_ok-write_files.ensures.written ∙ ap (λ (fs : List NamedText). with_files fs old) (c.as_slice.ensures.value ∙ c.in_ok-files.ensures)) (c.build.ensures.memory_files failed)

pub returns-clause-others : goal.returns-clause-others
returns-clause-others g c =
    let old = g.S.Store.contents c.args.store.now in
    let mid = g.S.Store.contents c.write_files.new.store in
    all_others c.args.levels old mid (g.S.Store.contents c.build.new.store) c.requires
    (c.in_ok-write_files.ensures.written ∙ ap (λ (fs : List NamedText). with_files fs old) (c.as_slice.ensures.value ∙ c.in_ok-files.ensures)) c.build.ensures.others
    (subst (λ (fs : List NamedText). OthersSame (names_of fs) old mid) (c.as_slice.ensures.value ∙ c.in_ok-files.ensures) c.in_ok-write_files.ensures.others)

pub returns-in_err-files-clause-calls : goal.returns-in_err-files-clause-calls
returns-in_err-files-clause-calls g c =
    out_of_memory c.args.levels _ (g.S.Store.contents c.args.store.now) (g.S.Store.calls c.args.store.now) c.from_residual.ensures.1

pub returns-in_err-write_files-clause-calls : goal.returns-in_err-write_files-clause-calls
returns-in_err-write_files-clause-calls g c =
    at_files c.args.levels _ _ (g.S.Store.contents c.args.store.now) (g.S.Store.calls c.args.store.now) (g.S.Store.calls c.write_files.new.store) c.from_residual-in_err-write_files.ensures.1
    (made_of (λ (fs : List NamedText). write_calls (names_of fs)) _ (g.S.Store.calls c.args.store.now) (g.S.Store.calls c.write_files.new.store) _ _ (c.as_slice.ensures.value ∙ c.in_ok-files.ensures) c.in_err-write_files.ensures.calls)

pub returns-clause-calls : goal.returns-clause-calls
returns-clause-calls g c =
    then_builds c.args.levels _ (g.S.Store.contents c.args.store.now) (g.S.Store.contents c.write_files.new.store) (g.S.Store.calls c.args.store.now) (g.S.Store.calls c.write_files.new.store) (g.S.Store.calls c.build.new.store)
    (c.in_ok-write_files.ensures.written ∙ ap (λ (fs : List NamedText). with_files fs (g.S.Store.contents c.args.store.now)) (c.as_slice.ensures.value ∙ c.in_ok-files.ensures))
    (made_of (λ (fs : List NamedText). write_calls (names_of fs)) Whole (g.S.Store.calls c.args.store.now) (g.S.Store.calls c.write_files.new.store) _ _ (c.as_slice.ensures.value ∙ c.in_ok-files.ensures) c.in_ok-write_files.ensures.calls) c.build.ensures.calls
