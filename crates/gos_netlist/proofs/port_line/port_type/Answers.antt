use Rattle.std.proofs.Common.{subst}
use Rattle.gos_netlist.specs.declared.word.TypeWord.{TypeWord}
use Rattle.gos_lex.specs.ItemTexts.{Passed, ended}
use Rattle.gos_netlist.specs.inner.NetLines.{type_word}
use Rattle.std.proofs.lemmas.Result.{err_from_is_err_and}
use Rattle.gos_netlist.proofs.TypeLemmas.{no_type_word, no_exp_width, no_var_width, exp_passed, var_passed}
use Rattle.gos_netlist.proofs.port_line.port_type.Goals as goal

pub returns-in_err-type_word-clause-wrong : goal.returns-in_err-type_word-clause-wrong
returns-in_err-type_word-clause-wrong c =
    let known = no_type_word c.args.cursor.now.text c.args.cursor.now.at c.in_err-type_word.field-0.0 c.in_err-type_word.ensures.wrong in
    let p = err_from_is_err_and c.from_residual.result c.from_residual.ensures.1 in
    rw (p.1, p.2) known

pub returns-in_err-ended_number-in-Exp-clause-wrong : goal.returns-in_err-ended_number-in-Exp-clause-wrong
returns-in_err-ended_number-in-Exp-clause-wrong c =
    let word = subst (λ (w : TypeWord). Passed c.args.cursor.now c.type_word.new.cursor (ended 32 (type_word w))) c.in-Exp.is c.in_ok-type_word.ensures.passed in
    let known = no_exp_width c.args.cursor.now c.type_word.new.cursor c.in_err-ended_number-in-Exp.field-0.0 word c.in_err-ended_number-in-Exp.ensures.wrong in
    let p = err_from_is_err_and c.from_residual-in_err-ended_number-in-Exp.result c.from_residual-in_err-ended_number-in-Exp.ensures.1 in
    rw (p.1, p.2) known

pub returns-in_err-ended_number-in-Var-clause-wrong : goal.returns-in_err-ended_number-in-Var-clause-wrong
returns-in_err-ended_number-in-Var-clause-wrong c =
    let word = subst (λ (w : TypeWord). Passed c.args.cursor.now c.type_word.new.cursor (ended 32 (type_word w))) c.in-Var.is c.in_ok-type_word.ensures.passed in
    let known = no_var_width c.args.cursor.now c.type_word.new.cursor c.in_err-ended_number-in-Var.field-0.0 word c.in_err-ended_number-in-Var.ensures.wrong in
    let p = err_from_is_err_and c.from_residual-in_err-ended_number-in-Var.result c.from_residual-in_err-ended_number-in-Var.ensures.1 in
    rw (p.1, p.2) known

pub returns-in_ok-ended_number-in-Exp-clause-passed : goal.returns-in_ok-ended_number-in-Exp-clause-passed
returns-in_ok-ended_number-in-Exp-clause-passed c =
    let word = subst (λ (w : TypeWord). Passed c.args.cursor.now c.type_word.new.cursor (ended 32 (type_word w))) c.in-Exp.is c.in_ok-type_word.ensures.passed in
    exp_passed c.args.cursor.now c.type_word.new.cursor c.ended_number.new.self c.in_ok-ended_number-in-Exp.field-0 word c.in_ok-ended_number-in-Exp.ensures.passed

pub returns-in_ok-ended_number-in-Var-clause-passed : goal.returns-in_ok-ended_number-in-Var-clause-passed
returns-in_ok-ended_number-in-Var-clause-passed c =
    let word = subst (λ (w : TypeWord). Passed c.args.cursor.now c.type_word.new.cursor (ended 32 (type_word w))) c.in-Var.is c.in_ok-type_word.ensures.passed in
    var_passed c.args.cursor.now c.type_word.new.cursor c.ended_number-in-Var.new.self c.in_ok-ended_number-in-Var.field-0 word c.in_ok-ended_number-in-Var.ensures.passed
