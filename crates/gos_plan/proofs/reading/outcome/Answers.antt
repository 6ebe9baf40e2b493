use Rattle.std.proofs.lemmas.Result.{IfErr-weaker, IfOk-weaker, err_from_is_err_and}
use Rattle.std.specs.Prelude.{codes}
use Rattle.gos_types.specs.Types.{type_of, Com}
use Rattle.gos_plan.specs.TextItems.{exactly}
use Rattle.gos_plan.specs.ObjectItems.{typed}
use Rattle.gos_plan.proofs.TextLemmas.{first_fails, rest_fails, both_read, lawful_exactly}
use Rattle.gos_plan.proofs.reading.outcome.Goals as goal

pub returns-in_err-exact-clause-wrong : goal.returns-in_err-exact-clause-wrong
returns-in_err-exact-clause-wrong c =
    let old = c.args.cursor.now in
    let fault = c.in_err-exact.field-0.0 in
    let wrong = c.in_err-exact.ensures.wrong in
    let known = first_fails (exactly (codes "result ")) (λ u. typed c.args.format 10 0) (λ u is. (Com, tt)) old.text old.at fault wrong in
    let p = err_from_is_err_and c.from_residual.result c.from_residual.ensures.1 in
    rw (p.1, p.2) known

pub returns-clause-wrong : goal.returns-clause-wrong
returns-clause-wrong c =
    let old = c.args.cursor.now in
    IfErr-weaker c.ty.result _ _ (λ fault wrong. rest_fails (exactly (codes "result ")) (λ u. typed c.args.format 10 0) (lawful_exactly (codes "result ")) old c.exact.new.cursor tt c.in_ok-exact.ensures.read fault wrong) c.ty.ensures.wrong

pub returns-clause-read : goal.returns-clause-read
returns-clause-read c =
    IfOk-weaker c.ty.result _ _ (λ value read. both_read (exactly (codes "result ")) (λ u. typed c.args.format 10 0) c.args.cursor.now c.exact.new.cursor c.ty.new.cursor tt (type_of value) c.in_ok-exact.ensures.read read) c.ty.ensures.read
