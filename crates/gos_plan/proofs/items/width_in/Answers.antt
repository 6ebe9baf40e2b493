use Rattle.std.proofs.Common.{ℕ, subst}
use Rattle.std.proofs.lemmas.Result.{err_from_is_err_and}
use Rattle.gos_plan.specs.TextItems.{Reads, Fails, number_in}
use Rattle.gos_plan.proofs.items.width_in.Goals as goal

pub returns-in_err-w-clause-wrong : goal.returns-in_err-w-clause-wrong
returns-in_err-w-clause-wrong c =
    let old = c.args.cursor.now in
    let fault = c.in_err-w.field-0.0 in
    let known = subst (λ (high : ℕ). Fails (number_in 1 high c.args.end) old.text old.at fault) c.greatest.ensures.is c.in_err-w.ensures.wrong in
    let p = err_from_is_err_and c.from_residual.result c.from_residual.ensures.1 in
    rw (p.1, p.2) known

pub returns-clause-read : goal.returns-clause-read
returns-clause-read c =
    subst (λ (high : ℕ). Reads (number_in 1 high c.args.end) c.args.cursor.now c.number.new.cursor c.in_ok-w.w) c.greatest.ensures.is c.in_ok-w.ensures.read
