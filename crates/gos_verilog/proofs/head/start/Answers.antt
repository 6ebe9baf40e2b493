use Rattle.std.specs.Prelude.{codes}
use Rattle.std.proofs.lemmas.Result.{err_from_is_err_and}
use Rattle.gos_lex.specs.Items.{IsJust}
use Rattle.gos_verilog.specs.inner.Stages.{IsModuleName, IsStart}
use Rattle.gos_verilog.proofs.StartLemmas.{breaks_as, no_first_word, no_module_name, no_last_word, start_passed}
use Rattle.gos_verilog.proofs.head.start.Goals as goal

pub returns-in_err-word-clause-wrong : goal.returns-in_err-word-clause-wrong
returns-in_err-word-clause-wrong c =
    let old = c.args.cursor.now in
    let p = err_from_is_err_and c.from_residual.result c.from_residual.ensures.1 in
    rw (p.1, p.2) (breaks_as (IsJust (codes "module gos_")) IsStart old old c.in_err-word.field-0.0 (λ place misses. no_first_word old.text old.at place misses) c.in_err-word.ensures.wrong)

pub returns-in_err-module_name-clause-wrong : goal.returns-in_err-module_name-clause-wrong
returns-in_err-module_name-clause-wrong c =
    let old = c.args.cursor.now in
    let mid = c.word.new.cursor in
    let p = err_from_is_err_and c.from_residual-in_err-module_name.result c.from_residual-in_err-module_name.ensures.1 in
    rw (p.1, p.2)
    (breaks_as IsModuleName IsStart mid old c.in_err-module_name.field-0.0 (λ place misses. no_module_name old mid place c.in_ok-word.ensures.passed misses) c.in_err-module_name.ensures.wrong)

pub returns-in_err-word-2-clause-wrong : goal.returns-in_err-word-2-clause-wrong
returns-in_err-word-2-clause-wrong c =
    let old = c.args.cursor.now in
    let mid = c.word.new.cursor in
    let last = c.module_name.new.cursor in
    let found = c.in_ok-module_name.ensures.passed in
    let p = err_from_is_err_and c.from_residual-in_err-word-2.result c.from_residual-in_err-word-2.ensures.1 in
    rw (p.1, p.2)
    (breaks_as (IsJust (codes "clk, rst")) IsStart last old c.in_err-word-2.field-0.0 (λ place misses. no_last_word old mid last found.0 place c.in_ok-word.ensures.passed found.1 found.2 misses) c.in_err-word-2.ensures.wrong)

pub returns-clause-begun : goal.returns-clause-begun
returns-clause-begun c =
    let found = c.in_ok-module_name.ensures.passed in
    start_passed c.args.cursor.now c.word.new.cursor c.module_name.new.cursor c.word-2.new.cursor found.0 c.in_ok-word.ensures.passed found.1 found.2 c.in_ok-word-2.ensures.passed
