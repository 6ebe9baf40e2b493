use Rattle.gos_sharing.proofs.behind.SourceLemmas.{ground_sources_are_loyal, sources_are_loyal, behind_is_loyal}
use Rattle.gos_sharing.proofs.laws.behind.loyalty.Goals as goal

pub returns-clause-sources : goal.returns-clause-sources
returns-clause-sources c = sources_are_loyal

pub returns-clause-behind : goal.returns-clause-behind
returns-clause-behind c = behind_is_loyal

pub returns-clause-ground : goal.returns-clause-ground
returns-clause-ground c = ground_sources_are_loyal
