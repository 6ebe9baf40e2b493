use Rattle.std.proofs.Common.{sym, subst}
use Rattle.gos_netlist.specs.Nets.{Netlist}
use Rattle.gos_netcheck.proofs.FaultLemmas.{no_fault}
use Rattle.gos_tidy.specs.Alike.{IsTidied}
use Rattle.gos_tidy.proofs.tidy.Goals as goal

pub unreachable-requires : goal.unreachable-requires
unreachable-requires c =
    c.in_default.not-NoMemory (no_fault c.in-Ok.other c.in-Err-accept.refused.fault c.in-Ok.ensures.tidied.accepted c.in-Err-accept.ensures.fault)

pub returns-in-Ok-accept-clause-tidied : goal.returns-in-Ok-accept-clause-tidied
returns-in-Ok-accept-clause-tidied c =
    let Tidied : Netlist → Type 0 = IsTidied c.args.net in
    subst Tidied (sym c.in-Ok-accept.ensures.ok) c.in-Ok.ensures.tidied
