use Rattle.std.proofs.Common.{◌++◌, List, sym, ◌∙◌, ap, subst}
use Rattle.std.proofs.Math.ListN.{drop_of_length-le}
use Rattle.std.specs.List.{AllByRecursion}
use Rattle.gos_netlist.specs.Nets.{NetPort}
use Rattle.gos_netlist.specs.Writable.{IsWritablePort}
use Rattle.gos_verilog.specs.PortNets.{PortNet, port_nets}
use Rattle.gos_verilog.proofs.ListLemmas.{all_snoc, rest_all}
use Rattle.gos_verilog.proofs.FoundLemmas.{next_port, ports_more, no_port_left}
use Rattle.gos_verilog.proofs.ports_of.ports_of.Goals as goal

pub loop-at-preserved : goal.loop-at-preserved
loop-at-preserved c =
    let nets = c.args.nets.now in
    let at = c.loop-at.at in
    record {
      writable =
          subst (AllByRecursion IsWritablePort) (sym c.in_ok-push-in-Some.ensures.items)
          (all_snoc NetPort IsWritablePort c.loop-at.ports.items c.in-Some.port c.loop-at.invariant.writable (rw c.in-Some.is at c.in_ok-port.ensures.writable));
      far = λ ps all same.
          let next = next_port nets at c.loop-at.ports.items ps c.loop-at-test.true c.loop-at.invariant.far all same in
          let known = c.in_ok-port.ensures.stands next.port (port_nets next.left) next.writable (rest_all PortNet nets at ∙ next.stands) in
          let here = rw c.in-Some.is at known in
          let more = ports_more nets at c.in-Some.count c.loop-at.ports.items ps c.in-Some.port next here.0 here.1 in
          (more.0, more.1, more.2, ap (λ (list : List NetPort). list ++ more.0) c.in_ok-push-in-Some.ensures.items ∙ more.3);
    }

pub returns-in-None-clause-stands : goal.returns-in-None-clause-stands
returns-in-None-clause-stands c ps all same =
    let nets = c.args.nets.now in
    let at = c.loop-at.at in
    let next = next_port nets at c.loop-at.ports.items ps c.loop-at-test.true c.loop-at.invariant.far all same in
    let known = c.in_ok-port.ensures.stands next.port (port_nets next.left) next.writable (rest_all PortNet nets at ∙ next.stands) in
    rw c.in-None.is at known

pub returns-clause-stands : goal.returns-clause-stands
returns-clause-stands c ps all same =
    let nets = c.args.nets.now in
    no_port_left nets c.loop-at.at c.loop-at.ports.items ps (drop_of_length-le nets c.loop-at-test.false) c.loop-at.invariant.far all same
