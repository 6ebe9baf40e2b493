use Rattle.gos_terms.proofs.stages.ServedLemmas.{servings_serve}
use Rattle.gos_terms.proofs.stages.SpareLemmas.{spares_are_others}
use Rattle.gos_terms.proofs.laws.stages.shares_serve.Goals as goal

pub returns-clause-serve : goal.returns-clause-serve
returns-clause-serve c = servings_serve

pub returns-clause-others : goal.returns-clause-others
returns-clause-others c = spares_are_others
