use Rattle.std.proofs.Common.{refl, sym, subst}
use Rattle.std.proofs.lemmas.Result.{IfErr-weaker, IfOk-weaker, err_from_is_err_and}
use Rattle.gos_plan.specs.declared.word.PartWord.{PartWord}
use Rattle.gos_plan.specs.Seen.{part_of}
use Rattle.gos_plan.specs.TextItems.{Reads, both}
use Rattle.gos_plan.specs.ObjectText.{word_of}
use Rattle.gos_plan.specs.ObjectItems.{part_words, part_operands, part_line}
use Rattle.gos_plan.proofs.TextLemmas.{first_fails, rest_fails, both_read, via_fails, reads_as}
use Rattle.gos_plan.proofs.PartLemmas.{part_via, lawful_part_words, some_part_operands}
use Rattle.gos_plan.proofs.part_line.part.Goals as goal

pub returns-in_err-word-clause-wrong : goal.returns-in_err-word-clause-wrong
returns-in_err-word-clause-wrong c =
    let old = c.args.cursor.now in
    let fault = c.in_err-word.field-0.0 in
    let here = first_fails (part_words c.args.format) (part_operands c.args.format) (some_part_operands c.args.format) old.text old.at fault c.in_err-word.ensures.wrong in
    let known = via_fails (part_line c.args.format) (both (part_words c.args.format) (part_operands c.args.format)) (part_via c.args.format) old.text old.at fault here in
    let p = err_from_is_err_and c.from_residual.result c.from_residual.ensures.1 in
    rw (p.1, p.2) known

pub returns-clause-wrong : goal.returns-clause-wrong
returns-clause-wrong c =
    let old = c.args.cursor.now in
    IfErr-weaker c.operands.result _ _ (λ fault wrong.
    let here = rest_fails (part_words c.args.format) (part_operands c.args.format) (lawful_part_words c.args.format) old c.part_word.new.cursor c.in_ok-word.word c.in_ok-word.ensures.read fault wrong in
    via_fails (part_line c.args.format) (both (part_words c.args.format) (part_operands c.args.format)) (part_via c.args.format) old.text old.at fault here)
    c.operands.ensures.wrong

pub returns-clause-read : goal.returns-clause-read
returns-clause-read c =
    let old = c.args.cursor.now in
    let mid = c.part_word.new.cursor in
    let new = c.operands.new.cursor in
    IfOk-weaker c.operands.result _ _ (λ kind read.
    let k = part_of kind in
    let whole = both_read (part_words c.args.format) (part_operands c.args.format) old mid new c.in_ok-word.word k c.in_ok-word.ensures.read read in
    let known = subst (λ (w : PartWord). Reads (both (part_words c.args.format) (part_operands c.args.format)) old new (w, k)) (sym read.is.1) whole in
    reads_as (part_line c.args.format) (both (part_words c.args.format) (part_operands c.args.format)) old new k (word_of k, k) refl read.is.0 read.keeps known)
    c.operands.ensures.read
