use Rattle.gos_linked.proofs.fits.FitLemmas.{linked_is_slim, slim_is_never_too_large, slim_is_small}
use Rattle.gos_linked.proofs.laws.fits.slim_plans_fit.Goals as goal

pub returns-clause-slim : goal.returns-clause-slim
returns-clause-slim c = linked_is_slim c.few_joints.ensures

pub returns-clause-fits : goal.returns-clause-fits
returns-clause-fits c = slim_is_never_too_large c.few_joints.ensures

pub returns-clause-small : goal.returns-clause-small
returns-clause-small c = slim_is_small
