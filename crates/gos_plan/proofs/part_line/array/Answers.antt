use Rattle.std.proofs.Common.{refl}
use Rattle.std.proofs.lemmas.Result.{err_from_is_err_and}
use Rattle.gos_plan.specs.Formats.{greatest}
use Rattle.gos_plan.specs.TextItems.{number_in}
use Rattle.gos_plan.proofs.TextLemmas.{first_fails, rest_fails, both_read}
use Rattle.gos_plan.proofs.PartLemmas.{lawful_width, sized_body, lawful_sized_body}
use Rattle.gos_plan.proofs.part_line.array.Goals as goal

pub returns-in_err-w-clause-wrong : goal.returns-in_err-w-clause-wrong
returns-in_err-w-clause-wrong c =
    let old = c.args.cursor.now in
    let known = first_fails (number_in 1 (greatest c.args.format) 32) (λ w. sized_body c.args.format) (λ w is. ((lawful_sized_body c.args.format).some, (lawful_sized_body c.args.format).some_is)) old.text old.at c.in_err-w.field-0.0 c.in_err-w.ensures.wrong in
    let p = err_from_is_err_and c.from_residual.result c.from_residual.ensures.1 in
    rw (p.1, p.2) known

pub returns-in_err-n-clause-wrong : goal.returns-in_err-n-clause-wrong
returns-in_err-n-clause-wrong c =
    let known = rest_fails (number_in 1 (greatest c.args.format) 32) (λ w. sized_body c.args.format) (lawful_width c.args.format 32 refl) c.args.cursor.now c.width_in.new.cursor c.in_ok-w.w c.in_ok-w.ensures.read c.in_err-n.field-0.0 c.in_err-n.ensures.wrong in
    let p = err_from_is_err_and c.from_residual-in_err-n.result c.from_residual-in_err-n.ensures.1 in
    rw (p.1, p.2) known

pub returns-clause-read : goal.returns-clause-read
returns-clause-read c =
    both_read (number_in 1 (greatest c.args.format) 32) (λ w. sized_body c.args.format) c.args.cursor.now c.width_in.new.cursor c.sized_body.new.cursor c.in_ok-w.w (c.in_ok-n.n, c.in_ok-n.v) c.in_ok-w.ensures.read c.in_ok-n.ensures.read
