use Rattle.std.proofs.Common.{ap}
use Rattle.gos_netlist.specs.Nets.{Netlist}
use Rattle.gos_tidy.proofs.WholeLemmas.{whole_quotient}
use Rattle.gos_tidy.proofs.rounds.first_round.Goals as goal

pub left-requires-in-None-clause-merged : goal.left-requires-in-None-clause-merged
left-requires-in-None-clause-merged c =
    let quotient = c.in_ok-quotient-in-None.quotient in
    whole_quotient c.args.net.now.cells c.net.inside.cells.items c.deref-in-None.result.now quotient.cells.items quotient.map.items quotient.roots.items
    c.requires.accepted.nets (ap (λ (x : Netlist). x.cells) c.net.view_is) c.deref-in-None.ensures.value
    c.in_ok-quotient-in-None.ensures.cells c.in_ok-quotient-in-None.ensures.targets c.in_ok-quotient-in-None.ensures.roots
