use Rattle.std.proofs.Common.{refl, arith}
use Rattle.std.proofs.lemmas.Result.{err_from_is_err_and}
use Rattle.gos_plan.specs.ObjectItems.{any_number}
use Rattle.gos_plan.proofs.TextLemmas.{first_fails, rest_fails, both_read}
use Rattle.gos_plan.proofs.LineLemmas.{lawful_any_number}
use Rattle.gos_plan.proofs.joint_line.two.Goals as goal

pub returns-in_err-one-clause-wrong : goal.returns-in_err-one-clause-wrong
returns-in_err-one-clause-wrong c =
    let old = c.args.cursor.now in
    let known = first_fails (any_number 46) (λ i. any_number c.args.last) (λ i is. (0, (omega arith, omega arith))) old.text old.at c.in_err-one.field-0.0 c.in_err-one.ensures.wrong in
    let p = err_from_is_err_and c.from_residual.result c.from_residual.ensures.1 in
    rw (p.1, p.2) known

pub returns-in_err-other-clause-wrong : goal.returns-in_err-other-clause-wrong
returns-in_err-other-clause-wrong c =
    let known = rest_fails (any_number 46) (λ i. any_number c.args.last) (lawful_any_number 46 refl) c.args.cursor.now c.number.new.cursor c.in_ok-one.one c.in_ok-one.ensures.read c.in_err-other.field-0.0 c.in_err-other.ensures.wrong in
    let p = err_from_is_err_and c.from_residual-in_err-other.result c.from_residual-in_err-other.ensures.1 in
    rw (p.1, p.2) known

pub returns-clause-read : goal.returns-clause-read
returns-clause-read c =
    both_read (any_number 46) (λ i. any_number c.args.last) c.args.cursor.now c.number.new.cursor c.number-2.new.cursor c.in_ok-one.one c.in_ok-other.other c.in_ok-one.ensures.read c.in_ok-other.ensures.read
