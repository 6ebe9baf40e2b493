use Rattle.gos_sharing.proofs.parts_of_types.SmallLemmas.{skip_is_narrow, narrow_is_no_narrow}
use Rattle.gos_sharing.proofs.laws.parts_of_types.small_shares.Goals as goal

pub returns-clause-wide : goal.returns-clause-wide
returns-clause-wide c = skip_is_narrow

pub returns-clause-same : goal.returns-clause-same
returns-clause-same c = narrow_is_no_narrow
