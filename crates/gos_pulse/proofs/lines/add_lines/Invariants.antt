use Rattle.std.proofs.Common.{take}
use Rattle.gos_netlist.specs.Nets.{Netlist}
use Rattle.gos_netlist.specs.Events.{events_of}
use Rattle.gos_pulse.specs.Guarding.{events_way}
use Rattle.gos_pulse.specs.inner.Slots.{labels_of}
use Rattle.gos_pulse.specs.inner.Lines.{AddsLines, HavePulses}
use Rattle.gos_pulse.proofs.lines.add_lines.Given as goal

-- the events so far
abbrev pub invariant-loop-event : goal.invariant-loop-event
invariant-loop-event l =
    (net : Netlist) → HavePulses net l.input l.slots l.pulses
    → AddsLines net l.cycle (labels_of net.ports (events_way l.input (take l.event (events_of net))) l.pulses) l.initial.lines.items l.lines.items
