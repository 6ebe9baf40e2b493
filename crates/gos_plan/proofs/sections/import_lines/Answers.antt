use Rattle.std.proofs.Common.{map, arith}
use Rattle.std.proofs.lemmas.Result.{err_from_is_err_and}
use Rattle.gos_plan.specs.Seen.{import_of}
use Rattle.gos_plan.specs.ObjectItems.{import_line}
use Rattle.gos_plan.proofs.TextLemmas.{pushed_more, no_more, all_read}
use Rattle.gos_plan.proofs.LineLemmas.{lawful_import}
use Rattle.gos_plan.proofs.sections.import_lines.Goals as goal

pub loop-left-preserved : goal.loop-left-preserved
loop-left-preserved c =
    pushed_more (import_line c.args.format) import_of (lawful_import c.args.format) c.args.count c.args.cursor.now c.loop-left.cursor c.import.new.cursor c.loop-left.imports.items c.push.new.self.items c.loop-left.left c.in_ok-import.field-0 (omega (arith, c.loop-left-test.true)) c.in_ok-push.ensures.items c.loop-left.invariant c.in_ok-import.ensures.read

pub returns-in_err-import-clause-wrong : goal.returns-in_err-import-clause-wrong
returns-in_err-import-clause-wrong c =
    let known = no_more (import_line c.args.format) (lawful_import c.args.format) c.args.count c.args.cursor.now c.loop-left.cursor (map import_of c.loop-left.imports.items) c.loop-left.left (omega (arith, c.loop-left-test.true)) c.loop-left.invariant c.in_err-import.field-0.0 c.in_err-import.ensures.wrong in
    let p = err_from_is_err_and c.from_residual.result c.from_residual.ensures.1 in
    rw (p.1, p.2) known

pub returns-clause-read : goal.returns-clause-read
returns-clause-read c =
    all_read (import_line c.args.format) c.args.count c.args.cursor.now c.loop-left.cursor (map import_of c.loop-left.imports.items) c.loop-left.left (omega (arith, c.loop-left-test.false)) c.loop-left.invariant
