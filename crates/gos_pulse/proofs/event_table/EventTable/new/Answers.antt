use Rattle.std.proofs.Common.{◌≡◌, rules, ◌∙◌}
use Rattle.gos_netlist.specs.Events.{events_of}
use Rattle.gos_pulse.proofs.TableLemmas.{ports_known}
use Rattle.gos_pulse.proofs.event_table.EventTable.new.Goals as goal

pub number_inputs-requires : goal.number_inputs-requires
number_inputs-requires c =
    let events : c.as_slice.result.now ≡ events_of c.args.net.now = c.as_slice.ensures.value ∙ c.in_ok-events.ensures in
    let ports : c.deref.result.now ≡ c.args.net.now.ports = search rules in
    rw (events, ports) (ports_known c.args.net.now)
