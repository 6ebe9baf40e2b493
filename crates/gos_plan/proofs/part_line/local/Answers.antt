use Rattle.std.proofs.Common.{refl, arith}
use Rattle.std.proofs.lemmas.Result.{err_from_is_err_and}
use Rattle.gos_plan.specs.Formats.{greatest}
use Rattle.gos_plan.specs.TextItems.{number_in}
use Rattle.gos_plan.specs.ObjectItems.{body}
use Rattle.gos_plan.proofs.TextLemmas.{first_fails, rest_fails, both_read}
use Rattle.gos_plan.proofs.PartLemmas.{lawful_width}
use Rattle.gos_plan.proofs.part_line.local.Goals as goal

pub returns-in_err-w-clause-wrong : goal.returns-in_err-w-clause-wrong
returns-in_err-w-clause-wrong c =
    let old = c.args.cursor.now in
    let known = first_fails (number_in 1 (greatest c.args.format) 32) (λ w. body c.args.format) (λ w is. (0, omega arith)) old.text old.at c.in_err-w.field-0.0 c.in_err-w.ensures.wrong in
    let p = err_from_is_err_and c.from_residual.result c.from_residual.ensures.1 in
    rw (p.1, p.2) known

pub returns-in_err-v-clause-wrong : goal.returns-in_err-v-clause-wrong
returns-in_err-v-clause-wrong c =
    let known = rest_fails (number_in 1 (greatest c.args.format) 32) (λ w. body c.args.format) (lawful_width c.args.format 32 refl) c.args.cursor.now c.width_in.new.cursor c.in_ok-w.w c.in_ok-w.ensures.read c.in_err-v.field-0.0 c.in_err-v.ensures.wrong in
    let p = err_from_is_err_and c.from_residual-in_err-v.result c.from_residual-in_err-v.ensures.1 in
    rw (p.1, p.2) known

pub returns-clause-read : goal.returns-clause-read
returns-clause-read c =
    both_read (number_in 1 (greatest c.args.format) 32) (λ w. body c.args.format) c.args.cursor.now c.width_in.new.cursor c.run_bits.new.cursor c.in_ok-w.w c.in_ok-v.v c.in_ok-w.ensures.read c.in_ok-v.ensures.read
