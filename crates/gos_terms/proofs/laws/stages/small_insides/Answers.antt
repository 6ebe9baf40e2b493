use Rattle.gos_terms.proofs.stages.SmallInsideLemmas.{both_have_shares, unbound_is_not_split, empty_is_none}
use Rattle.gos_terms.proofs.laws.stages.small_insides.Goals as goal

pub returns-clause-both : goal.returns-clause-both
returns-clause-both c = both_have_shares

pub returns-clause-unbound : goal.returns-clause-unbound
returns-clause-unbound c = unbound_is_not_split

pub returns-clause-empty : goal.returns-clause-empty
returns-clause-empty c = empty_is_none c.ground.ensures.joined
