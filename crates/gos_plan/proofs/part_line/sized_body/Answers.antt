use Rattle.std.proofs.Common.{refl}
use Rattle.std.proofs.lemmas.Result.{err_from_is_err_and}
use Rattle.gos_plan.specs.ObjectItems.{array_length, body}
use Rattle.gos_plan.proofs.TextLemmas.{first_fails, rest_fails, both_read}
use Rattle.gos_plan.proofs.PartLemmas.{lawful_length, lawful_body}
use Rattle.gos_plan.proofs.part_line.sized_body.Goals as goal

pub returns-in_err-n-clause-wrong : goal.returns-in_err-n-clause-wrong
returns-in_err-n-clause-wrong c =
    let old = c.args.cursor.now in
    let known = first_fails array_length (λ n. body c.args.format) (λ n is. ((lawful_body c.args.format).some, (lawful_body c.args.format).some_is)) old.text old.at c.in_err-n.field-0.0 c.in_err-n.ensures.wrong in
    let p = err_from_is_err_and c.from_residual.result c.from_residual.ensures.1 in
    rw (p.1, p.2) known

pub returns-in_err-v-clause-wrong : goal.returns-in_err-v-clause-wrong
returns-in_err-v-clause-wrong c =
    let known = rest_fails array_length (λ n. body c.args.format) lawful_length c.args.cursor.now c.length.new.cursor c.in_ok-n.n c.in_ok-n.ensures.read c.in_err-v.field-0.0 c.in_err-v.ensures.wrong in
    let p = err_from_is_err_and c.from_residual-in_err-v.result c.from_residual-in_err-v.ensures.1 in
    rw (p.1, p.2) known

pub returns-clause-read : goal.returns-clause-read
returns-clause-read c =
    both_read array_length (λ n. body c.args.format) c.args.cursor.now c.length.new.cursor c.run_bits.new.cursor c.in_ok-n.n c.in_ok-v.v c.in_ok-n.ensures.read c.in_ok-v.ensures.read
