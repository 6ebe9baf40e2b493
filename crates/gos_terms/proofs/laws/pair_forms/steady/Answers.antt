use Rattle.gos_terms.proofs.pair_forms.CaseLemmas.{both_is_steady}
use Rattle.gos_terms.proofs.laws.pair_forms.steady.Goals as goal

pub returns : goal.returns
returns c = both_is_steady c.both.ensures
