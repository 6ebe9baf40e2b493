use Rattle.std.proofs.Common.{rules, ◌≡◌, ◌<◌, length, get_or}
use Rattle.gos_pulse.specs.declared.trace.TraceLine.{TraceLine}
use Rattle.gos_pulse.proofs.TraceLemmas.{event_there, port_there, one_line_more}
use Rattle.gos_pulse.proofs.trace.print_trace.Goals as goal

pub add_pulse-requires : goal.add_pulse-requires
add_pulse-requires c =
    let zero : TraceLine = record { cycle = 0; event = 0; value = 0 } in
    let number = (get_or c.args.trace.now.lines.items c.loop-pulse.pulse-index zero).event in
    let within : c.loop-pulse.pulse-index < length c.args.trace.now.lines.items = search rules in
    let found : c.index.result.now ≡ get_or c.in_ok-events.events.items number c.index.result.now = rw c.deref-pulse-items.ensures.value at c.index.ensures in
    let there = event_there c.args.net.now c.in_ok-events.events.items number c.index.result.now c.in_ok-events.ensures (c.requires.known c.loop-pulse.pulse-index zero within) found in
    let ports : c.deref.result.now ≡ c.args.net.now.ports = search rules in
    rw ports (port_there c.args.net.now number c.index.result.now there)

pub loop-pulse-preserved : goal.loop-pulse-preserved
loop-pulse-preserved c =
    let zero : TraceLine = record { cycle = 0; event = 0; value = 0 } in
    let pulses = c.args.trace.now.lines.items in
    let number = (get_or pulses c.loop-pulse.pulse-index zero).event in
    let within : c.loop-pulse.pulse-index < length c.args.trace.now.lines.items = search rules in
    let found : c.index.result.now ≡ get_or c.in_ok-events.events.items number c.index.result.now = rw c.deref-pulse-items.ensures.value at c.index.ensures in
    let there = event_there c.args.net.now c.in_ok-events.events.items number c.index.result.now c.in_ok-events.ensures (c.requires.known c.loop-pulse.pulse-index zero within) found in
    let ports : c.deref.result.now ≡ c.args.net.now.ports = search rules in
    one_line_more c.args.net.now pulses c.loop-pulse.pulse-index zero c.index.result.now c.loop-pulse.text.items c.add_pulse.new.text.items within there
    c.loop-pulse.invariant (rw (c.deref-pulse-items.ensures.value, ports) at c.in_ok-add_pulse.ensures)
