use Rattle.std.proofs.Common.{◌∙◌, subst, ℕ, List, drop, [], ◌∷◌, ◌≡◌, ◌+◌, arith}
use Rattle.gos_outside.specs.Files.{with_file, SameBut}
use Rattle.gos_tool.proofs.lemmas.demo.WritingLemmas.{file_at, one_written, files_same, next_file}
use Rattle.gos_outside.specs.Calls.{Write, Whole}
use Rattle.gos_command.proofs.EndLemmas.{made_of, not_whole}
use Rattle.gos_command.proofs.LoopLemmas.{IsLeft, turn_ends, turn_made, none_left}
use Rattle.gos_tool.specs.Calls.{write_calls}
use Rattle.gos_lex.specs.Lines.{Word}
use Rattle.gos_tool.proofs.lemmas.circuits.ExitLemmas.{err_is}
use Rattle.std.proofs.lemmas.List.{drop_all}
use Rattle.gos_tool.specs.demo.DemoFiles.{NamedText}
use Rattle.gos_tool.specs.demo.Demo.{names_of}
use Rattle.gos_tool.proofs.demo.files.write_files.Goals as goal

pub returns-in_err-write_file-clause-others : goal.returns-in_err-write_file-clause-others
returns-in_err-write_file-clause-others g c =
    let old = g.S.Store.contents c.args.store.now in
    let mid = g.S.Store.contents c.loop-file.store in
    let new = g.S.Store.contents c.write_file.new.store in
    let f = c.file-item.result in
    let k = c.loop-file.file-index in
    files_same c.args.files.now k f old mid new (file_at c.args.files.now k f c.loop-file-test.true c.file-item.is) c.loop-file.invariant.1
    (subst (λ (name : List ℕ). SameBut name mid new) c.name.ensures.same c.in_err-write_file.ensures.others)

pub loop-file-preserved : goal.loop-file-preserved
loop-file-preserved g c =
    let old = g.S.Store.contents c.args.store.now in
    let mid = g.S.Store.contents c.loop-file.store in
    let new = g.S.Store.contents c.write_file.new.store in
    let f = c.file-item.result in
    let k = c.loop-file.file-index in
    let all = c.args.files.now in
    let first = g.S.Store.calls c.args.store.now in
    let now = g.S.Store.calls c.loop-file.store in
    let after = g.S.Store.calls c.write_file.new.store in
    let one_more_written =
    turn_made (write_calls (names_of all)) (Write f.name ∷ []) (write_calls (names_of (drop (k + 1) all))) first now after
    (subst (λ (rest : List NamedText). IsLeft (write_calls (names_of all)) (write_calls (names_of rest)) first now) (next_file all k f c.loop-file-test.true c.file-item.is) c.loop-file.invariant.3)
    (made_of (λ (n : Word). Write n ∷ []) Whole now after _ _ c.name.ensures.same c.in_ok-write_file.ensures.calls) in
    let at = file_at c.args.files.now k f c.loop-file-test.true c.file-item.is in (
      one_written c.args.files.now k f old mid new at c.loop-file.invariant.0
          (c.in_ok-write_file.ensures.written ∙ (λ i. with_file (c.name.ensures.same i) (c.text.ensures i) mid)),
      files_same c.args.files.now k f old mid new at c.loop-file.invariant.1
          (subst (λ (name : List ℕ). SameBut name mid new) c.name.ensures.same c.in_ok-write_file.ensures.others),
      c.in_ok-write_file.ensures.counts.1 (λ e. cc e) ∙ c.loop-file.invariant.2,
      one_more_written,
    )

pub returns-in_err-write_file-clause-calls : goal.returns-in_err-write_file-clause-calls
returns-in_err-write_file-clause-calls g c =
    let all = c.args.files.now in
    let k = c.loop-file.file-index in
    let f = c.file-item.result in
    let old = g.S.Store.calls c.args.store.now in
    let now = g.S.Store.calls c.loop-file.store in
    let new = g.S.Store.calls c.write_file.new.store in
    rw (err_is _ c.from_residual.ensures.1)
    (turn_ends _ (write_calls (names_of all)) (Write f.name ∷ []) (write_calls (names_of (drop (k + 1) all))) old now new (subst (λ (rest : List NamedText). IsLeft (write_calls (names_of all)) (write_calls (names_of rest)) old now) (next_file all k f c.loop-file-test.true c.file-item.is) c.loop-file.invariant.3) (not_whole c.in_err-write_file.field-0.0)
    (made_of (λ (n : Word). Write n ∷ []) _ now new _ _ c.name.ensures.same c.in_err-write_file.ensures.calls))

pub returns-clause-calls : goal.returns-clause-calls
returns-clause-calls g c =
    let all = c.args.files.now in
    let k = c.loop-file.file-index in
    let old = g.S.Store.calls c.args.store.now in
    let now = g.S.Store.calls c.loop-file.store in
    let none : drop k all ≡ [] = drop_all k all (omega (arith, c.loop-file-test.false, c.loop-file.auto.file-index-end)) in
    none_left (write_calls (names_of all)) old now (subst (λ (rest : List NamedText). IsLeft (write_calls (names_of all)) (write_calls (names_of rest)) old now) none c.loop-file.invariant.3)
