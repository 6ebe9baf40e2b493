use Rattle.gos_terms.proofs.pair_forms.CaseLemmas.{both_case}
use Rattle.gos_terms.proofs.laws.pair_forms.cases.Goals as goal

pub returns : goal.returns
returns c = both_case c.supplies_inside.ensures.realised c.pairs.ensures
