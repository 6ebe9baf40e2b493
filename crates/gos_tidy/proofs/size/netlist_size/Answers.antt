use Rattle.std.proofs.Common.{map, ap, ◌∙◌}
use Rattle.gos_netlist.specs.Nets.{Cell, Netlist}
use Rattle.std.specs.Prelude.{List}
use Rattle.gos_netlist.specs.Seen.{cell_of}
use Rattle.gos_tidy.specs.inner.Changes.{size}
use Rattle.gos_tidy.proofs.size.netlist_size.Goals as goal

pub returns : goal.returns
returns c = c.size_of.ensures ∙ ap size (ap (map cell_of) c.deref.ensures.value ∙ ap (λ (x : Netlist). x.cells) c.net.view_is)
