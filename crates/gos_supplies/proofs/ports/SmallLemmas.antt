-- The plan of a name without its joint realises nothing.
use Rattle.std.specs.Prelude.{[]}
use Rattle.gos_types.specs.Types.{Com}
use Rattle.gos_types.proofs.ListLemmas.{none_in_empty}
use Rattle.gos_model.specs.Terms.{Import}
use Rattle.gos_supplies.specs.names.Names.{name_plan}
use Rattle.gos_supplies.specs.names.SmallNames.{UnjoinedIsNone}
use Rattle.gos_supplies.specs.ports.Ports.{OpenIsRealised}
use Rattle.gos_supplies.specs.ports.SmallPorts.{UnjoinedIsNotOpen}

pub unjoined_is_not_open : OpenIsRealised → UnjoinedIsNone → UnjoinedIsNotOpen
unjoined_is_not_open law none x any =
    none x
    (law (record (name_plan x Com) { joints = [] }) (Import x) tt (tt, tt) (tt, tt) ((λ j there. absurd (none_in_empty j there)), tt) any)
