use Rattle.gos_realises.proofs.realises.FittingLemmas.{applied_fits, sides_fit, variables_fit, supplied_fits}
use Rattle.gos_realises.proofs.laws.realises.links.Goals as goal

pub returns-clause-applied : goal.returns-clause-applied
returns-clause-applied c = applied_fits

pub returns-clause-sides : goal.returns-clause-sides
returns-clause-sides c = sides_fit

pub returns-clause-variables : goal.returns-clause-variables
returns-clause-variables c = variables_fit

pub returns-clause-supplied : goal.returns-clause-supplied
returns-clause-supplied c = supplied_fits
