use Rattle.std.proofs.Common.{subst}
use Rattle.std.proofs.lemmas.Result.{err_from_is_err_and}
use Rattle.gos_plan.specs.declared.word.BodyWord.{BodyWord}
use Rattle.gos_plan.specs.declared.word.BodyWord.TheVariants as bodies
use Rattle.gos_plan.specs.Formats.{greatest}
use Rattle.gos_plan.specs.TextItems.{Reads, both, words, number_in}
use Rattle.gos_plan.specs.ObjectItems.{body, body_word_text, body_operand}
use Rattle.gos_plan.proofs.TextLemmas.{first_fails, rest_fails, via_fails}
use Rattle.gos_plan.proofs.PartLemmas.{body_via, body_exp_via, lawful_body_words, some_body_operand, exp_reads}
use Rattle.gos_plan.proofs.part_line.run_bits.Goals as goal

pub returns-in_err-body_word-clause-wrong : goal.returns-in_err-body_word-clause-wrong
returns-in_err-body_word-clause-wrong c =
    let old = c.args.cursor.now in
    let fault = c.in_err-body_word.field-0.0 in
    let here = first_fails (words BodyWord body_word_text) (body_operand c.args.format) (λ word is. some_body_operand c.args.format word) old.text old.at fault c.in_err-body_word.ensures.wrong in
    let known = via_fails (body c.args.format) (both (words BodyWord body_word_text) (body_operand c.args.format)) (body_via c.args.format) old.text old.at fault here in
    let p = err_from_is_err_and c.from_residual.result c.from_residual.ensures.1 in
    rw (p.1, p.2) known

pub returns-in_err-v-in-Exp-clause-wrong : goal.returns-in_err-v-in-Exp-clause-wrong
returns-in_err-v-in-Exp-clause-wrong c =
    let old = c.args.cursor.now in
    let mid = c.body_word.new.cursor in
    let fault = c.in_err-v-in-Exp.field-0.0 in
    let first = subst (λ (w : BodyWord). Reads (words BodyWord body_word_text) old mid w) c.in-Exp.is c.in_ok-body_word.ensures.read in
    let second = via_fails (body_operand c.args.format bodies.Exp) (number_in 1 (greatest c.args.format) 10) (body_exp_via c.args.format) mid.text mid.at fault c.in_err-v-in-Exp.ensures.wrong in
    let here = rest_fails (words BodyWord body_word_text) (body_operand c.args.format) lawful_body_words old mid bodies.Exp first fault second in
    let known = via_fails (body c.args.format) (both (words BodyWord body_word_text) (body_operand c.args.format)) (body_via c.args.format) old.text old.at fault here in
    let p = err_from_is_err_and c.from_residual-in_err-v-in-Exp.result c.from_residual-in_err-v-in-Exp.ensures.1 in
    rw (p.1, p.2) known

pub returns-in_ok-v-in-Exp-clause-read : goal.returns-in_ok-v-in-Exp-clause-read
returns-in_ok-v-in-Exp-clause-read c =
    let old = c.args.cursor.now in
    let mid = c.body_word.new.cursor in
    let first = subst (λ (w : BodyWord). Reads (words BodyWord body_word_text) old mid w) c.in-Exp.is c.in_ok-body_word.ensures.read in
    exp_reads c.args.format c.in_ok-v-in-Exp.v old mid c.width_in.new.cursor first c.in_ok-v-in-Exp.ensures.read
