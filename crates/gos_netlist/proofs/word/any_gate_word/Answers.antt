use Rattle.std.proofs.Common.{◌∷◌, []}
use Rattle.std.proofs.lemmas.Result.{err_from_is_err_and}
use Rattle.gos_netlist.proofs.WordLemmas.{no_gate}
use Rattle.gos_netlist.proofs.word.any_gate_word.Goals as goal

pub returns-in_err-k-clause-wrong : goal.returns-in_err-k-clause-wrong
returns-in_err-k-clause-wrong c =
    let known = no_gate _ (λ i. c.gate_text.ensures i ∷ c.gate_text-2.ensures i ∷ c.gate_text-3.ensures i ∷ c.gate_text-4.ensures i ∷ c.gate_text-5.ensures i ∷ c.gate_text-6.ensures i ∷ c.gate_text-7.ensures i ∷ c.gate_text-8.ensures i ∷ c.gate_text-9.ensures i ∷ c.gate_text-10.ensures i ∷ c.gate_text-11.ensures i ∷ c.gate_text-12.ensures i ∷ c.gate_text-13.ensures i ∷ []) c.args.cursor.now.text c.args.cursor.now.at c.in_err-k.field-0.0 c.in_err-k.ensures.wrong in
    let p = err_from_is_err_and c.from_residual.result c.from_residual.ensures.1 in
    rw (p.1, p.2) known
