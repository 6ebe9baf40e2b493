use Rattle.std.proofs.Common.{map, ap, sym, ◌∙◌}
use Rattle.gos_netlist.specs.Nets.{Netlist}
use Rattle.gos_netlist.specs.Seen.{cell_of}
use Rattle.gos_tidy.proofs.FixedLemmas.{steadied_right}
use Rattle.gos_tidy.proofs.steady.steadied.Goals as goal

pub returns : goal.returns
returns c =
    let other : Netlist = record { cells = map cell_of c.in_ok-cells.cells.items; ports = c.in_ok-ports.ports.items } in
    steadied_right c.args.net.now other (map cell_of c.deref-5.result.now) (map cell_of c.deref-6.result.now) c.deref-7.result.now
    (ap (map cell_of) c.deref-5.ensures.value ∙ ap (λ (x : Netlist). x.cells) c.net.view_is) (ap (map cell_of) c.deref-6.ensures.value)
    (c.deref-7.ensures.value ∙ ap (λ (x : Netlist). x.ports) c.net.view_is) (c.in_ok-ports.ensures ∙ (c.deref-8.ensures.value ∙ sym c.deref-7.ensures.value))
    (c.are_steadied.ensures c.if-not-are_steadied.false)
