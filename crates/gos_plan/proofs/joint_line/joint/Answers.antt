use Rattle.std.proofs.Common.{refl, arith}
use Rattle.std.proofs.lemmas.Result.{err_from_is_err_and}
use Rattle.gos_plan.specs.Plans.{ResultEnd}
use Rattle.gos_plan.specs.Seen.{end_of}
use Rattle.gos_plan.specs.ObjectItems.{ended_end, joint_line}
use Rattle.gos_plan.proofs.TextLemmas.{first_fails, rest_fails, both_read, via_fails, reads_as}
use Rattle.gos_plan.proofs.LineLemmas.{two_ends, joint_via, lawful_end}
use Rattle.gos_plan.proofs.joint_line.joint.Goals as goal

pub returns-in_err-asks-clause-wrong : goal.returns-in_err-asks-clause-wrong
returns-in_err-asks-clause-wrong c =
    let old = c.args.cursor.now in
    let fault = c.in_err-asks.field-0.0 in
    let here = first_fails (ended_end 32) (λ e. ended_end 10) (λ e is. (ResultEnd 0, omega arith)) old.text old.at fault c.in_err-asks.ensures.wrong in
    let known = via_fails joint_line two_ends joint_via old.text old.at fault here in
    let p = err_from_is_err_and c.from_residual.result c.from_residual.ensures.1 in
    rw (p.1, p.2) known

pub returns-in_err-serves-clause-wrong : goal.returns-in_err-serves-clause-wrong
returns-in_err-serves-clause-wrong c =
    let old = c.args.cursor.now in
    let fault = c.in_err-serves.field-0.0 in
    let here = rest_fails (ended_end 32) (λ e. ended_end 10) (lawful_end 32 refl) old c.end.new.cursor (end_of c.in_ok-asks.asks) c.in_ok-asks.ensures.read fault c.in_err-serves.ensures.wrong in
    let known = via_fails joint_line two_ends joint_via old.text old.at fault here in
    let p = err_from_is_err_and c.from_residual-in_err-serves.result c.from_residual-in_err-serves.ensures.1 in
    rw (p.1, p.2) known

pub returns-clause-read : goal.returns-clause-read
returns-clause-read c =
    let old = c.args.cursor.now in
    let new = c.end-2.new.cursor in
    let asks = end_of c.in_ok-asks.asks in
    let serves = end_of c.in_ok-serves.serves in
    let first = c.in_ok-asks.ensures.read in
    let second = c.in_ok-serves.ensures.read in
    reads_as joint_line two_ends old new (record { asking = asks; serving = serves }) (asks, serves) refl (first.is, second.is) tt
    (both_read (ended_end 32) (λ e. ended_end 10) old c.end.new.cursor new asks serves first second)
