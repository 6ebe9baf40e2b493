use Rattle.std.proofs.Common.{◌∷◌, [], arith}
use Rattle.std.proofs.lemmas.Result.{err_from_is_err_and}
use Rattle.gos_plan.specs.Formats.{greatest}
use Rattle.gos_plan.specs.TextItems.{number_in}
use Rattle.gos_plan.specs.ObjectItems.{space}
use Rattle.gos_plan.proofs.TextLemmas.{first_fails, rest_fails, both_read, lawful_exactly}
use Rattle.gos_plan.proofs.FormatLemmas.{greatest_is}
use Rattle.gos_plan.proofs.types.width.Goals as goal

pub returns-in_err-exact-clause-wrong : goal.returns-in_err-exact-clause-wrong
returns-in_err-exact-clause-wrong c =
    let old = c.args.cursor.now in
    let known = first_fails space (λ u. number_in 1 (greatest c.args.format) c.args.end) (λ u is. (1, (omega arith, (greatest_is c.args.format).0))) old.text old.at c.in_err-exact.field-0.0 c.in_err-exact.ensures.wrong in
    let p = err_from_is_err_and c.from_residual.result c.from_residual.ensures.1 in
    rw (p.1, p.2) known

pub returns-in_err-w-clause-wrong : goal.returns-in_err-w-clause-wrong
returns-in_err-w-clause-wrong c =
    let known = rest_fails space (λ u. number_in 1 (greatest c.args.format) c.args.end) (lawful_exactly (32 ∷ [])) c.args.cursor.now c.exact.new.cursor tt c.in_ok-exact.ensures.read c.in_err-w.field-0.0 c.in_err-w.ensures.wrong in
    let p = err_from_is_err_and c.from_residual-in_err-w.result c.from_residual-in_err-w.ensures.1 in
    rw (p.1, p.2) known

pub returns-clause-read : goal.returns-clause-read
returns-clause-read c =
    both_read space (λ u. number_in 1 (greatest c.args.format) c.args.end) c.args.cursor.now c.exact.new.cursor c.width_in.new.cursor tt c.in_ok-w.w c.in_ok-exact.ensures.read c.in_ok-w.ensures.read
