use Rattle.std.proofs.Common.{◌≡◌, take}
use Rattle.std.specs.List.{flat_map}
use Rattle.gos_pulse.specs.TraceText.{pulse_line}
use Rattle.gos_pulse.proofs.trace.print_trace.Given as goal

-- the lines of the pulses so far
abbrev pub invariant-loop-pulse : goal.invariant-loop-pulse
invariant-loop-pulse l = l.text.items ≡ flat_map (pulse_line l.net) (take l.pulse-index l.trace.lines.items)
