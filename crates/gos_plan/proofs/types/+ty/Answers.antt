use Rattle.std.proofs.Common.{◌+◌, ◌∷◌, [], ℕ, refl, sym, subst}
use Rattle.std.proofs.lemmas.Result.{IfErr-weaker, IfOk-weaker, err_from_is_err_and}
use Rattle.gos_types.specs.Types.{type_of, Com}
use Rattle.gos_plan.specs.declared.word.TypeWord.{TypeWord}
use Rattle.gos_plan.specs.declared.word.TypeWord.TheVariants as types
use Rattle.gos_plan.specs.TextItems.{Fails, Reads, exactly}
use Rattle.gos_plan.specs.ObjectItems.{word_of_type, space, typed, forks, sized_by, type_word, type_operands}
use Rattle.gos_plan.proofs.TextLemmas.{first_fails, rest_fails, both_read, lawful_exactly, via_fails, reads_as}
use Rattle.gos_plan.proofs.TypeLemmas.{lawful_word, lawful_typed, by_word, typed_via, text_parts}
use Rattle.gos_plan.proofs.OperandLemmas.{both_types, second_type, com_via, exp_via, var_via, pair_via, fun_via, some_operands, operands_fail}
use Rattle.gos_plan.proofs.types.+ty.Goals as goal

pub fork-returns-in_err-exact-clause-wrong : goal.fork-returns-in_err-exact-clause-wrong
fork-returns-in_err-exact-clause-wrong t c =
    let old = c.args.cursor.now in
    let known = first_fails space (λ u. both_types c.args.format c.args.end c.args.before) (λ u is. ((Com, Com), (tt, tt))) old.text old.at c.in_err-exact.field-0.0 c.in_err-exact.ensures.wrong in
    let p = err_from_is_err_and c.from_residual.result c.from_residual.ensures.1 in
    rw (p.1, p.2) known

pub fork-returns-in_err-a-clause-wrong : goal.fork-returns-in_err-a-clause-wrong
fork-returns-in_err-a-clause-wrong t c =
    let mid = c.exact.new.cursor in
    let fault = c.in_err-a.field-0.0 in
    let first = first_fails (typed c.args.format 32 (c.args.before + 1)) (second_type c.args.format c.args.end c.args.before) (λ a is. (Com, tt)) mid.text mid.at fault c.in_err-a.ensures.wrong in
    let known = rest_fails space (λ u. both_types c.args.format c.args.end c.args.before) (lawful_exactly (32 ∷ [])) c.args.cursor.now mid tt c.in_ok-exact.ensures.read fault first in
    let p = err_from_is_err_and c.from_residual-in_err-a.result c.from_residual-in_err-a.ensures.1 in
    rw (p.1, p.2) known

pub fork-returns-in_err-b-clause-wrong : goal.fork-returns-in_err-b-clause-wrong
fork-returns-in_err-b-clause-wrong t c =
    let old = c.args.cursor.now in
    let mid = c.exact.new.cursor in
    let last = c.ty.new.cursor in
    let fault = c.in_err-b.field-0.0 in
    let here = subst (λ (n : ℕ). Fails (typed c.args.format c.args.end n) last.text last.at fault) c.behind.ensures.is c.in_err-b.ensures.wrong in
    let second = rest_fails (typed c.args.format 32 (c.args.before + 1)) (second_type c.args.format c.args.end c.args.before) (lawful_typed c.args.format 32 (c.args.before + 1) refl) mid last (type_of c.in_ok-a.a) c.in_ok-a.ensures.read fault here in
    let known = rest_fails space (λ u. both_types c.args.format c.args.end c.args.before) (lawful_exactly (32 ∷ [])) old mid tt c.in_ok-exact.ensures.read fault second in
    let p = err_from_is_err_and c.from_residual-in_err-b.result c.from_residual-in_err-b.ensures.1 in
    rw (p.1, p.2) known

pub fork-returns-clause-read : goal.fork-returns-clause-read
fork-returns-clause-read t c =
    let old = c.args.cursor.now in
    let mid = c.exact.new.cursor in
    let last = c.ty.new.cursor in
    let new = c.ty-2.new.cursor in
    let a = type_of c.in_ok-a.a in
    let b = type_of c.in_ok-b.b in
    let second = subst (λ (n : ℕ). Reads (typed c.args.format c.args.end n) last new b) c.behind.ensures.is c.in_ok-b.ensures.read in
    both_read space (λ u. both_types c.args.format c.args.end c.args.before) old mid new tt (a, b) c.in_ok-exact.ensures.read
    (both_read (typed c.args.format 32 (c.args.before + 1)) (second_type c.args.format c.args.end c.args.before) mid last new a b c.in_ok-a.ensures.read second)

pub operands-returns-in_err-exact-in-Com-clause-wrong :
    goal.operands-returns-in_err-exact-in-Com-clause-wrong
operands-returns-in_err-exact-in-Com-clause-wrong t c =
    let known = operands_fail c.args.format c.args.end c.args.before _ types.Com c.in-Com.is (exactly (c.args.end ∷ [])) (com_via c.args.format c.args.end c.args.before) c.args.cursor.now.text c.args.cursor.now.at c.in_err-exact-in-Com.field-0.0 c.in_err-exact-in-Com.ensures.wrong in
    let p = err_from_is_err_and c.from_residual.result c.from_residual.ensures.1 in
    rw (p.1, p.2) known

pub operands-returns-in_err-w-in-Exp-clause-wrong :
    goal.operands-returns-in_err-w-in-Exp-clause-wrong
operands-returns-in_err-w-in-Exp-clause-wrong t c =
    let known = operands_fail c.args.format c.args.end c.args.before _ types.Exp c.in-Exp.is (sized_by c.args.format c.args.end) (exp_via c.args.format c.args.end c.args.before) c.args.cursor.now.text c.args.cursor.now.at c.in_err-w-in-Exp.field-0.0 c.in_err-w-in-Exp.ensures.wrong in
    let p = err_from_is_err_and c.from_residual-in_err-w-in-Exp.result c.from_residual-in_err-w-in-Exp.ensures.1 in
    rw (p.1, p.2) known

pub operands-returns-in_err-w-in-Var-clause-wrong :
    goal.operands-returns-in_err-w-in-Var-clause-wrong
operands-returns-in_err-w-in-Var-clause-wrong t c =
    let known = operands_fail c.args.format c.args.end c.args.before _ types.Var c.in-Var.is (sized_by c.args.format c.args.end) (var_via c.args.format c.args.end c.args.before) c.args.cursor.now.text c.args.cursor.now.at c.in_err-w-in-Var.field-0.0 c.in_err-w-in-Var.ensures.wrong in
    let p = err_from_is_err_and c.from_residual-in_err-w-in-Var.result c.from_residual-in_err-w-in-Var.ensures.1 in
    rw (p.1, p.2) known

pub operands-returns-in_err-a-in-Pair-clause-wrong :
    goal.operands-returns-in_err-a-in-Pair-clause-wrong
operands-returns-in_err-a-in-Pair-clause-wrong t c =
    let known = operands_fail c.args.format c.args.end c.args.before _ types.Pair c.in-Pair.is (forks c.args.format c.args.end c.args.before) (pair_via c.args.format c.args.end c.args.before) c.args.cursor.now.text c.args.cursor.now.at c.in_err-a-in-Pair.field-0.0 c.in_err-a-in-Pair.ensures.wrong in
    let p = err_from_is_err_and c.from_residual-in_err-a-in-Pair.result c.from_residual-in_err-a-in-Pair.ensures.1 in
    rw (p.1, p.2) known

pub operands-returns-in_err-a-in-Fun-clause-wrong :
    goal.operands-returns-in_err-a-in-Fun-clause-wrong
operands-returns-in_err-a-in-Fun-clause-wrong t c =
    let known = operands_fail c.args.format c.args.end c.args.before _ types.Fun c.in-Fun.is (forks c.args.format c.args.end c.args.before) (fun_via c.args.format c.args.end c.args.before) c.args.cursor.now.text c.args.cursor.now.at c.in_err-a-in-Fun.field-0.0 c.in_err-a-in-Fun.ensures.wrong in
    let p = err_from_is_err_and c.from_residual-in_err-a-in-Fun.result c.from_residual-in_err-a-in-Fun.ensures.1 in
    rw (p.1, p.2) known

pub ty-returns-in_err-word-clause-wrong : goal.ty-returns-in_err-word-clause-wrong
ty-returns-in_err-word-clause-wrong t c =
    let old = c.args.cursor.now in
    let fault = c.in_err-word.field-0.0 in
    let here = first_fails (type_word c.args.before) (type_operands c.args.format c.args.end c.args.before) (λ word is. some_operands c.args.format c.args.end c.args.before word) old.text old.at fault c.in_err-word.ensures.wrong in
    let known = via_fails (typed c.args.format c.args.end c.args.before) (by_word c.args.format c.args.end c.args.before) (typed_via c.args.format c.args.end c.args.before) old.text old.at fault here in
    let p = err_from_is_err_and c.from_residual.result c.from_residual.ensures.1 in
    rw (p.1, p.2) known

pub ty-returns-clause-wrong : goal.ty-returns-clause-wrong
ty-returns-clause-wrong t c =
    let old = c.args.cursor.now in
    let mid = c.type_word.new.cursor in
    IfErr-weaker c.operands.result _ _ (λ fault wrong.
    let here = rest_fails (type_word c.args.before) (type_operands c.args.format c.args.end c.args.before) (lawful_word c.args.before) old mid c.in_ok-word.word c.in_ok-word.ensures.read fault wrong in
    via_fails (typed c.args.format c.args.end c.args.before) (by_word c.args.format c.args.end c.args.before) (typed_via c.args.format c.args.end c.args.before) old.text old.at fault here)
    c.operands.ensures.wrong

pub ty-returns-clause-read : goal.ty-returns-clause-read
ty-returns-clause-read t c =
    let old = c.args.cursor.now in
    let mid = c.type_word.new.cursor in
    let new = c.operands.new.cursor in
    let word = c.in_ok-word.word in
    IfOk-weaker c.operands.result _ _ (λ ty read.
    let value = type_of ty in
    let whole = both_read (type_word c.args.before) (type_operands c.args.format c.args.end c.args.before) old mid new word value c.in_ok-word.ensures.read read in
    let known = subst (λ (w : TypeWord). Reads (by_word c.args.format c.args.end c.args.before) old new (w, value)) (sym read.is.1) whole in
    reads_as (typed c.args.format c.args.end c.args.before) (by_word c.args.format c.args.end c.args.before) old new value (word_of_type value, value) (text_parts c.args.end value) read.is.0 read.keeps known)
    c.operands.ensures.read
