-- The lines of both programs are the same, fault by fault.
use Rattle.std.proofs.Common.{refl}
use Rattle.gos_netlist.specs.declared.fault.NetTextFault.TheVariants as texts
use Rattle.gos_netcheck.specs.declared.fault.NetFault.TheVariants as nets
use Rattle.gos_chain.specs.Told.{FormsAreToldAlike, RefusalsAreToldAlike}

pub forms_are_told_alike : FormsAreToldAlike
forms_are_told_alike (texts.Form at) = refl
forms_are_told_alike (texts.Limit at) = refl
forms_are_told_alike texts.NoMemory = refl

pub refusals_are_told_alike : RefusalsAreToldAlike
refusals_are_told_alike (nets.Cycle cycle) = refl
refusals_are_told_alike (nets.Width cell) = refl
refusals_are_told_alike (nets.NoSuchNet cell) = refl
refusals_are_told_alike (nets.Port index) = refl
refusals_are_told_alike nets.NoMemory = refl
