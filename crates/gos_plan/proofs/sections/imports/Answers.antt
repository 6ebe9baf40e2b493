use Rattle.std.proofs.Common.{map}
use Rattle.std.specs.Prelude.{codes}
use Rattle.std.proofs.lemmas.Result.{IfErr-weaker, IfOk-weaker, err_from_is_err_and}
use Rattle.gos_plan.specs.Seen.{import_of}
use Rattle.gos_plan.specs.ObjectItems.{import_line}
use Rattle.gos_plan.proofs.LineLemmas.{lawful_import}
use Rattle.gos_plan.proofs.SectionLemmas.{word_fails, count_fails, lines_fail, section_read}
use Rattle.gos_plan.proofs.sections.imports.Goals as goal

pub returns-in_err-exact-clause-wrong : goal.returns-in_err-exact-clause-wrong
returns-in_err-exact-clause-wrong c =
    let old = c.args.cursor.now in
    let known = word_fails (codes "imports ") 64 (import_line c.args.format) old.text old.at c.in_err-exact.field-0.0 c.in_err-exact.ensures.wrong in
    let p = err_from_is_err_and c.from_residual.result c.from_residual.ensures.1 in
    rw (p.1, p.2) known

pub returns-in_err-n-clause-wrong : goal.returns-in_err-n-clause-wrong
returns-in_err-n-clause-wrong c =
    let known = count_fails (codes "imports ") 64 (import_line c.args.format) (lawful_import c.args.format) c.args.cursor.now c.exact.new.cursor c.in_ok-exact.ensures.read c.in_err-n.field-0.0 c.in_err-n.ensures.wrong in
    let p = err_from_is_err_and c.from_residual-in_err-n.result c.from_residual-in_err-n.ensures.1 in
    rw (p.1, p.2) known

pub returns-clause-wrong : goal.returns-clause-wrong
returns-clause-wrong c =
    IfErr-weaker c.import_lines.result _ _ (λ fault wrong. lines_fail (codes "imports ") 64 (import_line c.args.format) c.args.cursor.now c.exact.new.cursor c.count.new.cursor c.in_ok-n.n c.in_ok-exact.ensures.read c.in_ok-n.ensures.read fault wrong) c.import_lines.ensures.wrong

pub returns-clause-read : goal.returns-clause-read
returns-clause-read c =
    IfOk-weaker c.import_lines.result _ _ (λ value read. section_read (codes "imports ") 64 (import_line c.args.format) c.args.cursor.now c.exact.new.cursor c.count.new.cursor c.import_lines.new.cursor c.in_ok-n.n (map import_of value.items) c.in_ok-exact.ensures.read c.in_ok-n.ensures.read read) c.import_lines.ensures.read
