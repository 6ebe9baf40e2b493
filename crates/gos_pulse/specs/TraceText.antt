-- The text of a trace.
--
-- Read first: EventNames. A line for each pulse, `T PORT.EVENT`, with the value behind it where its event has one.
-- The last line says how many cycles there were.
use Rattle.std.specs.Prelude.{ℕ, List, [], ◌++◌, codes, Option, Some, None, slice_get, nat_eq, if◌then◌else◌}
use Rattle.std.specs.List.{flat_map}
use Rattle.std.specs.Fmt.{decimal}
use Rattle.gos_netlist.specs.declared.event.Event.{Event}
use Rattle.gos_netlist.specs.Nets.{NetPort, Netlist}
use Rattle.gos_netlist.specs.Events.{events_of}
use Rattle.gos_netlist.specs.NetText.{line, spaced_number}
use Rattle.gos_pulse.specs.EventNames.{name_of}
use Rattle.gos_pulse.specs.declared.trace.TraceLine.{TraceLine}

-- a value behind a space, where the event has bits for one
abbrev pub value_text : ℕ → ℕ → List ℕ
value_text bits value = if nat_eq bits 0 then [] else spaced_number value

-- the pulse of an event, with its value
abbrev pub pulse_text : List NetPort → Option Event → ℕ → List ℕ
pulse_text ports None value = []
pulse_text ports (Some event) value = name_of ports event ++ value_text event.bits value

-- the line of a pulse
abbrev pub pulse_line : Netlist → TraceLine → List ℕ
pulse_line net pulse =
    line (decimal pulse.cycle ++ codes " " ++ pulse_text net.ports (slice_get (events_of net) pulse.event) pulse.value)

-- the whole text, of a run with so many cycles
abbrev pub trace_text : Netlist → List TraceLine → ℕ → List ℕ
trace_text net pulses cycles = flat_map (pulse_line net) pulses ++ line (codes "cycles" ++ spaced_number cycles)
