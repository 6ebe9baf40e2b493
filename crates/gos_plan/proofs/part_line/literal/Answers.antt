use Rattle.std.proofs.Common.{◌-◌, ◌^◌, ℕ, refl, arith, subst}
use Rattle.std.proofs.lemmas.Result.{err_from_is_err_and}
use Rattle.gos_plan.specs.Formats.{greatest}
use Rattle.gos_plan.specs.TextItems.{Fails, Reads, number_in}
use Rattle.gos_plan.proofs.TextLemmas.{first_fails, rest_fails, both_read}
use Rattle.gos_plan.proofs.PartLemmas.{lawful_width}
use Rattle.gos_plan.proofs.part_line.literal.Goals as goal

pub returns-in_err-w-clause-wrong : goal.returns-in_err-w-clause-wrong
returns-in_err-w-clause-wrong c =
    let old = c.args.cursor.now in
    let known = first_fails (number_in 1 (greatest c.args.format) 32) (λ w. number_in 0 (2 ^ w - 1) 10) (λ w is. (0, (omega arith, omega arith))) old.text old.at c.in_err-w.field-0.0 c.in_err-w.ensures.wrong in
    let p = err_from_is_err_and c.from_residual.result c.from_residual.ensures.1 in
    rw (p.1, p.2) known

pub returns-in_err-k-clause-wrong : goal.returns-in_err-k-clause-wrong
returns-in_err-k-clause-wrong c =
    let old = c.args.cursor.now in
    let mid = c.width_in.new.cursor in
    let fault = c.in_err-k.field-0.0 in
    let here = subst (λ (high : ℕ). Fails (number_in 0 high 10) mid.text mid.at fault) c.greatest.ensures c.in_err-k.ensures.wrong in
    let known = rest_fails (number_in 1 (greatest c.args.format) 32) (λ w. number_in 0 (2 ^ w - 1) 10) (lawful_width c.args.format 32 refl) old mid c.in_ok-w.w c.in_ok-w.ensures.read fault here in
    let p = err_from_is_err_and c.from_residual-in_err-k.result c.from_residual-in_err-k.ensures.1 in
    rw (p.1, p.2) known

pub returns-clause-read : goal.returns-clause-read
returns-clause-read c =
    let mid = c.width_in.new.cursor in
    let new = c.number.new.cursor in
    let k = c.in_ok-k.k in
    let here = subst (λ (high : ℕ). Reads (number_in 0 high 10) mid new k) c.greatest.ensures c.in_ok-k.ensures.read in
    both_read (number_in 1 (greatest c.args.format) 32) (λ w. number_in 0 (2 ^ w - 1) 10) c.args.cursor.now mid new c.in_ok-w.w k c.in_ok-w.ensures.read here
