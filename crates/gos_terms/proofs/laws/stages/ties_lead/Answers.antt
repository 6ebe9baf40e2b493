use Rattle.gos_terms.proofs.stages.FollowLemmas.{ties_follow, result_leads, dots_lead}
use Rattle.gos_terms.proofs.stages.RangeLemmas.{ties_stay_within}
use Rattle.gos_terms.proofs.laws.stages.ties_lead.Goals as goal

pub returns-clause-follow : goal.returns-clause-follow
returns-clause-follow c = ties_follow

pub returns-clause-leads : goal.returns-clause-leads
returns-clause-leads c = result_leads

pub returns-clause-dots : goal.returns-clause-dots
returns-clause-dots c = dots_lead

pub returns-clause-within : goal.returns-clause-within
returns-clause-within c = ties_stay_within
