use Rattle.std.proofs.Common.{map, arith}
use Rattle.std.proofs.lemmas.Result.{err_from_is_err_and}
use Rattle.gos_plan.specs.Seen.{joint_of}
use Rattle.gos_plan.specs.ObjectItems.{joint_line}
use Rattle.gos_plan.proofs.TextLemmas.{pushed_more, no_more, all_read}
use Rattle.gos_plan.proofs.LineLemmas.{lawful_joint}
use Rattle.gos_plan.proofs.sections.joint_lines.Goals as goal

pub loop-left-preserved : goal.loop-left-preserved
loop-left-preserved c =
    pushed_more joint_line joint_of lawful_joint c.args.count c.args.cursor.now c.loop-left.cursor c.joint.new.cursor c.loop-left.joints.items c.push.new.self.items c.loop-left.left c.in_ok-joint.field-0 (omega (arith, c.loop-left-test.true)) c.in_ok-push.ensures.items c.loop-left.invariant c.in_ok-joint.ensures.read

pub returns-in_err-joint-clause-wrong : goal.returns-in_err-joint-clause-wrong
returns-in_err-joint-clause-wrong c =
    let known = no_more joint_line lawful_joint c.args.count c.args.cursor.now c.loop-left.cursor (map joint_of c.loop-left.joints.items) c.loop-left.left (omega (arith, c.loop-left-test.true)) c.loop-left.invariant c.in_err-joint.field-0.0 c.in_err-joint.ensures.wrong in
    let p = err_from_is_err_and c.from_residual.result c.from_residual.ensures.1 in
    rw (p.1, p.2) known

pub returns-clause-read : goal.returns-clause-read
returns-clause-read c =
    all_read joint_line c.args.count c.args.cursor.now c.loop-left.cursor (map joint_of c.loop-left.joints.items) c.loop-left.left (omega (arith, c.loop-left-test.false)) c.loop-left.invariant
