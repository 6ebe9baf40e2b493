use Rattle.std.proofs.Common.{subst}
use Rattle.std.proofs.lemmas.Result.{err_from_is_err_and}
use Rattle.gos_plan.specs.declared.word.EndWord.{EndWord}
use Rattle.gos_plan.specs.declared.word.EndWord.TheVariants as ends
use Rattle.gos_plan.specs.Plans.{PartEnd, ImportEnd, ResultEnd}
use Rattle.gos_plan.specs.TextItems.{Reads, words}
use Rattle.gos_plan.specs.ObjectItems.{end_word_text, end_numbers, any_number, two_numbers, ended_end}
use Rattle.gos_plan.proofs.TextLemmas.{first_fails, via_fails}
use Rattle.gos_plan.proofs.LineLemmas.{numbers_fail, end_parts, end_via, part_end_via, import_end_via, result_end_via, some_end_numbers, end_reads, part_end_reads, import_end_reads, result_end_reads}
use Rattle.gos_plan.proofs.joint_line.end.Goals as goal

pub returns-in_err-end_word-clause-wrong : goal.returns-in_err-end_word-clause-wrong
returns-in_err-end_word-clause-wrong c =
    let old = c.args.cursor.now in
    let fault = c.in_err-end_word.field-0.0 in
    let here = first_fails (words EndWord end_word_text) (end_numbers c.args.last) (λ word is. some_end_numbers c.args.last word) old.text old.at fault c.in_err-end_word.ensures.wrong in
    let known = via_fails (ended_end c.args.last) (end_parts c.args.last) (end_via c.args.last) old.text old.at fault here in
    let p = err_from_is_err_and c.from_residual.result c.from_residual.ensures.1 in
    rw (p.1, p.2) known

pub returns-in_err-part-in-Part-clause-wrong : goal.returns-in_err-part-in-Part-clause-wrong
returns-in_err-part-in-Part-clause-wrong c =
    let known = numbers_fail c.args.last _ ends.Part c.args.cursor.now c.end_word.new.cursor c.in-Part.is c.in_ok-end_word.ensures.read (two_numbers c.args.last) (part_end_via c.args.last) c.in_err-part-in-Part.field-0.0 c.in_err-part-in-Part.ensures.wrong in
    let p = err_from_is_err_and c.from_residual-in_err-part-in-Part.result c.from_residual-in_err-part-in-Part.ensures.1 in
    rw (p.1, p.2) known

pub returns-in_err-import-in-Import-clause-wrong : goal.returns-in_err-import-in-Import-clause-wrong
returns-in_err-import-in-Import-clause-wrong c =
    let known = numbers_fail c.args.last _ ends.Import c.args.cursor.now c.end_word.new.cursor c.in-Import.is c.in_ok-end_word.ensures.read (two_numbers c.args.last) (import_end_via c.args.last) c.in_err-import-in-Import.field-0.0 c.in_err-import-in-Import.ensures.wrong in
    let p = err_from_is_err_and c.from_residual-in_err-import-in-Import.result c.from_residual-in_err-import-in-Import.ensures.1 in
    rw (p.1, p.2) known

pub returns-in_err-shake-in-Result-clause-wrong : goal.returns-in_err-shake-in-Result-clause-wrong
returns-in_err-shake-in-Result-clause-wrong c =
    let known = numbers_fail c.args.last _ ends.Result c.args.cursor.now c.end_word.new.cursor c.in-Result.is c.in_ok-end_word.ensures.read (any_number c.args.last) (result_end_via c.args.last) c.in_err-shake-in-Result.field-0.0 c.in_err-shake-in-Result.ensures.wrong in
    let p = err_from_is_err_and c.from_residual-in_err-shake-in-Result.result c.from_residual-in_err-shake-in-Result.ensures.1 in
    rw (p.1, p.2) known

pub returns-in_ok-part-in-Part-clause-read : goal.returns-in_ok-part-in-Part-clause-read
returns-in_ok-part-in-Part-clause-read c =
    let old = c.args.cursor.now in
    let mid = c.end_word.new.cursor in
    let new = c.two.new.cursor in
    let v = c.in_ok-part-in-Part in
    let first = subst (λ (w : EndWord). Reads (words EndWord end_word_text) old mid w) c.in-Part.is c.in_ok-end_word.ensures.read in
    end_reads c.args.last (PartEnd v.part v.shake) ends.Part old mid new first (part_end_reads c.args.last v.part v.shake mid new v.ensures.read)

pub returns-in_ok-import-in-Import-clause-read : goal.returns-in_ok-import-in-Import-clause-read
returns-in_ok-import-in-Import-clause-read c =
    let old = c.args.cursor.now in
    let mid = c.end_word.new.cursor in
    let new = c.two-in-Import.new.cursor in
    let v = c.in_ok-import-in-Import in
    let first = subst (λ (w : EndWord). Reads (words EndWord end_word_text) old mid w) c.in-Import.is c.in_ok-end_word.ensures.read in
    end_reads c.args.last (ImportEnd v.import v.shake) ends.Import old mid new first (import_end_reads c.args.last v.import v.shake mid new v.ensures.read)

pub returns-in_ok-shake-in-Result-clause-read : goal.returns-in_ok-shake-in-Result-clause-read
returns-in_ok-shake-in-Result-clause-read c =
    let old = c.args.cursor.now in
    let mid = c.end_word.new.cursor in
    let new = c.number.new.cursor in
    let v = c.in_ok-shake-in-Result in
    let first = subst (λ (w : EndWord). Reads (words EndWord end_word_text) old mid w) c.in-Result.is c.in_ok-end_word.ensures.read in
    end_reads c.args.last (ResultEnd v.shake) ends.Result old mid new first (result_end_reads c.args.last v.shake mid new v.ensures.read)
