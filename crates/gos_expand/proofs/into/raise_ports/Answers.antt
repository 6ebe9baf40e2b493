use Rattle.std.proofs.Common.{◌<◌, length, get_or, arith}
use Rattle.std.proofs.lemmas.List.{get_or_default}
use Rattle.std.proofs.lemmas.List.Edits.{map_over_more}
use Rattle.gos_netlist.specs.Nets.{NetPort}
use Rattle.gos_expand.specs.Into.{raised_port}
use Rattle.gos_expand.proofs.into.raise_ports.Goals as goal

pub loop-port-preserved : goal.loop-port-preserved
loop-port-preserved c =
    let within : c.loop-port.port-index < length c.args.ports.now = c.loop-port-test.true in
    let here : c.loop-port.port-index < length c.loop-port.ports = omega (arith, within, c.loop-port.auto.ports) in
    let port : NetPort = get_or c.loop-port.ports c.loop-port.port-index c.port-item.result in
    rw c.raise_port.ensures
    (map_over_more (raised_port c.args.by) c.args.ports.now c.loop-port.ports c.loop-port.port-index port within c.loop-port.invariant
    (get_or_default c.loop-port.ports c.loop-port.port-index _ port here))
