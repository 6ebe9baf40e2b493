use Rattle.gos_joining.proofs.unions.FlatFitLemmas.{flat_fits, joined_is_flat, flat_is_joined}
use Rattle.gos_joining.proofs.laws.unions.flat_links.Goals as goal

pub returns-clause-fit : goal.returns-clause-fit
returns-clause-fit c = flat_fits

pub returns-clause-flat : goal.returns-clause-flat
returns-clause-flat c = joined_is_flat

pub returns-clause-joined : goal.returns-clause-joined
returns-clause-joined c = flat_is_joined
