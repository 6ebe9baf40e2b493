use Rattle.std.proofs.Common.{◌<◌, All, List, map, ap, subst, sym, ◌∙◌}
use Rattle.std.specs.List.{AllByRecursion}
use Rattle.gos_netlist.specs.declared.nets.Cell as declared
use Rattle.gos_netlist.specs.Nets.{NetPort, Netlist, pins}
use Rattle.gos_netlist.specs.Seen.{cell_of, function_of}
use Rattle.gos_expand.proofs.IntoLemmas.{all_mapped, keeps_then, low_pins, low_nets}
use Rattle.gos_expand.proofs.into.append.Goals as goal

pub place_raised-requires-clause-pins : goal.place_raised-requires-clause-pins
place_raised-requires-clause-pins c =
    let low : All (λ c. AllByRecursion (λ a. a < 5000000) (pins c.gate)) (map cell_of c.net.inside.cells.items) =
    subst (λ (n : Netlist). All (λ c. AllByRecursion (λ a. a < 5000000) (pins c.gate)) n.cells) (sym c.net.view_is)
    (low_pins c.args.net.cells c.requires.accepted.nets c.requires.few) in
    subst (λ (cs : List declared.Cell). All (λ c. AllByRecursion (λ a. a < 5000000) (pins (function_of c.gate))) cs) (sym c.deref.ensures.value)
    (all_mapped (λ c. AllByRecursion (λ a. a < 5000000) (pins c.gate)) cell_of c.net.inside.cells.items low)

pub raise_ports-requires-clause-nets : goal.raise_ports-requires-clause-nets
raise_ports-requires-clause-nets c =
    subst (λ (ps : List NetPort). All (λ p. All (λ a. a < 5000000) p.nets) ps)
    (sym (c.deref_mut.ensures.value ∙ ap (λ (n : Netlist). n.ports) c.net.view_is))
    (low_nets c.args.net.cells c.args.net.ports c.requires.accepted.ports c.requires.few)

pub returns-clause-kept : goal.returns-clause-kept
returns-clause-kept c =
    keeps_then _ _ _ (keeps_then _ _ _ (keeps_then _ _ _ c.in_ok-reserve.ensures.kept c.begin-region.ensures.kept) c.place_raised.ensures.kept) c.finish.ensures.kept
