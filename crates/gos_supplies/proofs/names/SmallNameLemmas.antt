-- A name's plan without its joint is none.
use Rattle.std.specs.Prelude.{[]}
use Rattle.std.proofs.Common.{arith}
use Rattle.gos_types.specs.Types.{Com}
use Rattle.gos_types.proofs.ListLemmas.{none_in_empty}
use Rattle.gos_model.specs.Terms.{Import}
use Rattle.gos_supplies.specs.progress.Realisers.{RealisersAreJoined}
use Rattle.gos_supplies.specs.names.Names.{name_plan}
use Rattle.gos_supplies.specs.names.SmallNames.{UnjoinedIsNone}

pub unjoined_is_none : RealisersAreJoined → UnjoinedIsNone
unjoined_is_none joined x realised =
    let (j, there, at) = joined Com (record (name_plan x Com) { joints = [] }) (Import x) tt realised 0 (omega arith) in none_in_empty j there
