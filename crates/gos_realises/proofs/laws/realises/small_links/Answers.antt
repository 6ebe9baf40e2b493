use Rattle.gos_realises.proofs.realises.SmallLinkLemmas.{same_fits, number_does_not_fit, twice_does_not_fit, part_does_not_fit, nowhere_does_not_fit}
use Rattle.gos_realises.proofs.laws.realises.small_links.Goals as goal

pub returns-clause-same : goal.returns-clause-same
returns-clause-same c = same_fits

pub returns-clause-number : goal.returns-clause-number
returns-clause-number c = number_does_not_fit

pub returns-clause-twice : goal.returns-clause-twice
returns-clause-twice c = twice_does_not_fit

pub returns-clause-part : goal.returns-clause-part
returns-clause-part c = part_does_not_fit

pub returns-clause-nowhere : goal.returns-clause-nowhere
returns-clause-nowhere c = nowhere_does_not_fit
