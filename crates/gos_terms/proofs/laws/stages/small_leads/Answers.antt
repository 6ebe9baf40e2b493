use Rattle.gos_terms.proofs.stages.SmallLeadsLemmas.{leads_stand, two_are_distinct, twice_is_not_distinct}
use Rattle.gos_terms.proofs.laws.stages.small_leads.Goals as goal

pub returns-clause-stand : goal.returns-clause-stand
returns-clause-stand c = leads_stand

pub returns-clause-two : goal.returns-clause-two
returns-clause-two c = two_are_distinct

pub returns-clause-twice : goal.returns-clause-twice
returns-clause-twice c = twice_is_not_distinct
