use Rattle.gos_terms.proofs.stages.SeatedLemmas.{supplies_are_seated}
use Rattle.gos_terms.proofs.stages.LoyalLemmas.{served_is_loyal, servings_are_loyal}
use Rattle.gos_terms.proofs.laws.stages.shares_are_loyal.Goals as goal

pub returns-clause-seated : goal.returns-clause-seated
returns-clause-seated c = supplies_are_seated

pub returns-clause-served : goal.returns-clause-served
returns-clause-served c = served_is_loyal

pub returns-clause-loyal : goal.returns-clause-loyal
returns-clause-loyal c = servings_are_loyal
