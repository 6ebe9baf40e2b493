use Rattle.gos_joining.proofs.webs.WebLemmas.{same_ways, right_is_of_its_web}
use Rattle.gos_joining.proofs.laws.webs.plans_of_webs.Goals as goal

pub returns-clause-same : goal.returns-clause-same
returns-clause-same c = same_ways

pub returns-clause-own : goal.returns-clause-own
returns-clause-own c = right_is_of_its_web
