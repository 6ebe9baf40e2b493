use Rattle.std.proofs.Common.{sym, ◌∙◌, subst}
use Rattle.gos_netlist.specs.Nets.{Netlist}
use Rattle.gos_verilog.specs.PortNets.{port_nets}
use Rattle.gos_verilog.specs.inner.Inputs.{AreFed}
use Rattle.gos_verilog.proofs.FeedLemmas.{accepted_fed}
use Rattle.gos_verilog.proofs.writing.write_verilog.Goals as goal

pub module_text-requires : goal.module_text-requires
module_text-requires c =
    let fed = accepted_fed c.args.net.now c.netlist-net.ensures.accepted in
    let here = subst (λ (net : Netlist). AreFed (port_nets net.ports) net.cells) (sym (c.net.view_is ∙ c.netlist-net.ensures.value)) fed in
    rw (c.deref.ensures.value, c.deref-2.ensures.value) here
