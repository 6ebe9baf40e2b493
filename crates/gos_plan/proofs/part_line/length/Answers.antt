use Rattle.std.proofs.Common.{◌∙◌, ap}
use Rattle.std.proofs.lemmas.Result.{err_from_is_err_and}
use Rattle.gos_plan.specs.declared.word.LengthWord.{LengthWord}
use Rattle.gos_plan.specs.TextItems.{words}
use Rattle.gos_plan.specs.ObjectText.{number_text}
use Rattle.gos_plan.specs.ObjectItems.{array_length, length_of_word, length_text}
use Rattle.gos_plan.proofs.TextLemmas.{via_fails, reads_as}
use Rattle.gos_plan.proofs.PartLemmas.{is_length, length_is, length_via}
use Rattle.gos_plan.proofs.part_line.length.Goals as goal

pub returns-in_err-word-clause-wrong : goal.returns-in_err-word-clause-wrong
returns-in_err-word-clause-wrong c =
    let old = c.args.cursor.now in
    let known = via_fails array_length (words LengthWord length_text) length_via old.text old.at c.in_err-word.field-0.0 c.in_err-word.ensures.wrong in
    let p = err_from_is_err_and c.from_residual.result c.from_residual.ensures.1 in
    rw (p.1, p.2) known

pub returns-clause-read : goal.returns-clause-read
returns-clause-read c =
    let word = c.in_ok-word.word in
    reads_as array_length (words LengthWord length_text) c.args.cursor.now c.length_word.new.cursor c.length_of.result word (ap (number_text 32) c.length_of.ensures ∙ length_is word) (rw c.length_of.ensures (is_length word)) tt c.in_ok-word.ensures.read
