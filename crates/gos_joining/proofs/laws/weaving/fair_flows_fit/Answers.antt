use Rattle.gos_joining.proofs.weaving.FlowLemmas.{fair_fits, asked_is_fair, asking_is_unfair}
use Rattle.gos_joining.proofs.laws.weaving.fair_flows_fit.Goals as goal

pub returns-clause-fits : goal.returns-clause-fits
returns-clause-fits c = fair_fits

pub returns-clause-fair : goal.returns-clause-fair
returns-clause-fair c = asked_is_fair

pub returns-clause-unfair : goal.returns-clause-unfair
returns-clause-unfair c = asking_is_unfair
