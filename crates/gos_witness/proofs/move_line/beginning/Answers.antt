use Rattle.std.proofs.Common.{◌∷◌, []}
use Rattle.std.proofs.lemmas.Result.{err_from_is_err_and}
use Rattle.gos_witness.proofs.LineLemmas.{no_verb}
use Rattle.gos_witness.proofs.move_line.beginning.Goals as goal

pub returns-in_err-k-clause-wrong : goal.returns-in_err-k-clause-wrong
returns-in_err-k-clause-wrong c =
    let known = no_verb _ (λ i. c.as_slice.ensures i ∷ c.as_slice-2.ensures i ∷ c.as_slice-3.ensures i ∷ c.as_slice-4.ensures i ∷ []) c.args.cursor.now.text c.args.cursor.now.at c.in_err-k.field-0.0 c.in_err-k.ensures.wrong in
    let p = err_from_is_err_and c.from_residual.result c.from_residual.ensures.1 in
    rw (p.1, p.2) known
