use Rattle.gos_terms.proofs.ground_forms.LeafLemmas.{use_case, skip_case, literal_case}
use Rattle.gos_terms.proofs.laws.ground_forms.leaves.Goals as goal

pub returns-clause-used : goal.returns-clause-used
returns-clause-used c = use_case c.use_is_realised.ensures

pub returns-clause-skip : goal.returns-clause-skip
returns-clause-skip c = skip_case c.closed_is_realised.ensures.skip

pub returns-clause-literal : goal.returns-clause-literal
returns-clause-literal c = literal_case c.closed_is_realised.ensures.literal
