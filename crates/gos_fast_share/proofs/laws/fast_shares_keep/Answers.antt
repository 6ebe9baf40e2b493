use Rattle.gos_fast_share.specs.laws.Kept.{fast_gates, fast_fits}
use Rattle.gos_fast_share.specs.laws.Paths.{fast_paths}
use Rattle.gos_fast_share.specs.laws.Tops.{one_top_tells}
use Rattle.gos_fast_share.proofs.laws.fast_shares_keep.Goals as goal

pub returns-clause-keep : goal.returns-clause-keep
returns-clause-keep c = fast_gates

pub returns-clause-fit : goal.returns-clause-fit
returns-clause-fit c = fast_fits

pub returns-clause-top : goal.returns-clause-top
returns-clause-top c = one_top_tells

pub returns-clause-paths : goal.returns-clause-paths
returns-clause-paths c = fast_paths
