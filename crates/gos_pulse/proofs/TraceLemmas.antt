-- The lines of a trace, one after another.
use Rattle.std.proofs.Common.{◌≡◌, ℕ, ◌+◌, ◌<◌, List, [], ◌∷◌, ◌++◌, length, take, get_or, refl, sym, ◌∙◌, ap, subst, Option, Some, codes, append-nil}
use Rattle.std.specs.Prelude.{slice_get}
use Rattle.std.specs.List.{flat_map}
use Rattle.std.specs.Fmt.{decimal}
use Rattle.std.proofs.lemmas.Option.{slice_get_read, slice_get_within, get_or_from_slice_get}
use Rattle.std.proofs.lemmas.List.{take_more}
use Rattle.std.proofs.lemmas.Grind.{flat_map-append}
use Rattle.std.proofs.lemmas.List.Concat.{flat_map-cons}
use Rattle.gos_netlist.specs.declared.event.Event as seen
use Rattle.gos_netlist.specs.Nets.{Netlist}
use Rattle.gos_netlist.specs.Events.{events_of}
use Rattle.gos_netlist.specs.NetText.{line}
use Rattle.gos_pulse.specs.EventNames.{name_of, name_if, name_of_number}
use Rattle.gos_pulse.specs.TraceText.{pulse_text, pulse_line}
use Rattle.gos_pulse.specs.declared.trace.TraceLine.{TraceLine}
use Rattle.gos_pulse.proofs.TableLemmas.{ports_known}

-- the event that the code finds for a number
pub event_there : (net : Netlist) (all : List seen.Event) (n : ℕ) (event : seen.Event) → all ≡ events_of net → n < length (events_of net) → event ≡ get_or all n event → slice_get (events_of net) n ≡ Some event
event_there net all n event is known same =
    let here : event ≡ get_or (events_of net) n event = same ∙ ap (λ (es : List seen.Event). get_or es n event) is in
    slice_get_read (events_of net) (length (events_of net)) n event refl known here

-- its port is one of the netlist's
pub port_there : (net : Netlist) (n : ℕ) (event : seen.Event) → slice_get (events_of net) n ≡ Some event → event.port < length net.ports
port_there net n event there =
    let known : (get_or (events_of net) n event).port < length net.ports = ports_known net n event (slice_get_within (events_of net) n event there) in
    subst (λ (e : seen.Event). e.port < length net.ports) (get_or_from_slice_get (events_of net) n event event there) known

-- its name is the name of its number
pub name_there : (net : Netlist) (n : ℕ) (event : seen.Event) → slice_get (events_of net) n ≡ Some event → name_of net.ports event ≡ name_of_number net n
name_there net n event there = ap (name_if net.ports) (sym there)

-- the line of one more pulse
pub one_line_more : (net : Netlist) (pulses : List TraceLine) (i : ℕ) (d : TraceLine) (event : seen.Event) (text new : List ℕ) → i < length pulses → slice_get (events_of net) (get_or pulses i d).event ≡ Some event → text ≡ flat_map (pulse_line net) (take i pulses) → new ≡ text ++ line (decimal (get_or pulses i d).cycle ++ codes " " ++ pulse_text net.ports (Some event) (get_or pulses i d).value) → new ≡ flat_map (pulse_line net) (take (i + 1) pulses)
one_line_more net pulses i d event text new within there so_far more =
    let pulse : TraceLine = get_or pulses i d in
    let its : pulse_line net pulse ≡ line (decimal pulse.cycle ++ codes " " ++ pulse_text net.ports (Some event) pulse.value) =
    ap (λ (found : Option seen.Event). line (decimal pulse.cycle ++ codes " " ++ pulse_text net.ports found pulse.value)) there in
    let last : flat_map (pulse_line net) (pulse ∷ []) ≡ pulse_line net pulse = flat_map-cons (pulse_line net) pulse [] ∙ append-nil (pulse_line net pulse) in
    let front : flat_map (pulse_line net) (take (i + 1) pulses) ≡ flat_map (pulse_line net) (take i pulses) ++ flat_map (pulse_line net) (pulse ∷ []) =
    ap (flat_map (pulse_line net)) (take_more pulses i d within) ∙ flat_map-append (pulse_line net) (take i pulses) (pulse ∷ []) in
    more ∙ (λ j. so_far j ++ sym its j) ∙ sym (front ∙ ap (λ end. flat_map (pulse_line net) (take i pulses) ++ end) last)
