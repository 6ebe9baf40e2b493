use Rattle.std.proofs.Common.{All, map, subst, sym, arith}
use Rattle.std.proofs.lemmas.Result.{err_from_is_err_and}
use Rattle.std.proofs.lemmas.List.Elements.{All-push}
use Rattle.gos_plan.specs.Ranges.{IsInRange}
use Rattle.gos_plan.specs.Seen.{part_of}
use Rattle.gos_plan.specs.ObjectItems.{part_line}
use Rattle.gos_plan.proofs.TextLemmas.{pushed_more, no_more, all_read}
use Rattle.gos_plan.proofs.PartLemmas.{lawful_part}
use Rattle.gos_plan.proofs.sections.part_lines.Goals as goal

pub loop-left-preserved : goal.loop-left-preserved
loop-left-preserved c = (
  pushed_more (part_line c.args.format) part_of (lawful_part c.args.format) c.args.count c.args.cursor.now c.loop-left.cursor c.part.new.cursor c.loop-left.parts.items c.push.new.self.items c.loop-left.left c.in_ok-part.field-0 (omega (arith, c.loop-left-test.true)) c.in_ok-push.ensures.items c.loop-left.invariant.0 c.in_ok-part.ensures.read,
  subst (All IsInRange) (sym c.in_ok-push.ensures.items) (All-push IsInRange c.loop-left.parts.items c.in_ok-part.field-0 c.loop-left.invariant.1 c.in_ok-part.ensures.in_range),
)

pub returns-in_err-part-clause-wrong : goal.returns-in_err-part-clause-wrong
returns-in_err-part-clause-wrong c =
    let known = no_more (part_line c.args.format) (lawful_part c.args.format) c.args.count c.args.cursor.now c.loop-left.cursor (map part_of c.loop-left.parts.items) c.loop-left.left (omega (arith, c.loop-left-test.true)) c.loop-left.invariant.0 c.in_err-part.field-0.0 c.in_err-part.ensures.wrong in
    let p = err_from_is_err_and c.from_residual.result c.from_residual.ensures.1 in
    rw (p.1, p.2) known

pub returns-clause-read : goal.returns-clause-read
returns-clause-read c =
    all_read (part_line c.args.format) c.args.count c.args.cursor.now c.loop-left.cursor (map part_of c.loop-left.parts.items) c.loop-left.left (omega (arith, c.loop-left-test.false)) c.loop-left.invariant.0
