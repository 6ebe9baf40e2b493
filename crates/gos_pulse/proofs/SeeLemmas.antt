-- The outputs of a cycle, shown to a guard one after another.
use Rattle.std.proofs.Common.{◌≡◌, ◌<◌, ◌+◌, ℕ, false, List, [], ◌∷◌, ◌++◌, length, reverse, take, refl, sym, ap, subst, ◌∙◌, arith, Some, append_assoc}
use Rattle.std.specs.Prelude.{slice_get}
use Rattle.std.proofs.lemmas.Option.{slice_get_within, get_or_from_slice_get}
use Rattle.std.proofs.lemmas.List.{reverse-append, take_more, length-take-le, length-map}
use Rattle.gos_netlist.specs.declared.event.Event.{Event}
use Rattle.gos_netlist.specs.Nets.{Netlist}
use Rattle.gos_netlist.specs.Events.{events_of}
use Rattle.gos_model.specs.Labels.{Label}
use Rattle.gos_sim.specs.declared.pulse.Pulse.{Pulse}
use Rattle.gos_pulse.specs.declared.guard.Guard.{Guard}
use Rattle.gos_pulse.specs.Guarding.{outputs_of, half_of, Guards, IsLabel}
use Rattle.gos_pulse.specs.inner.Slots.{label_if, label_of, labels_of, port_at}
use Rattle.gos_pulse.proofs.GuardLemmas.{event_from, of_way}
use Rattle.gos_pulse.proofs.OrderLemmas.{labels_push}

-- the label of an output
pub output_label : (net : Netlist) (i : ℕ) (event : Event) (value : ℕ) → slice_get (outputs_of net) i ≡ Some event → IsLabel net (outputs_of net) i (label_of net.ports event value)
output_label net i event value there =
    let one = of_way false (events_of net) i event there in
    let its = event_from 0 net.ports one.0.0 event one.0.1 in
    let place : its.index ≡ event.port = omega (arith, its.port_is) in
    let at : slice_get net.ports event.port ≡ Some its.port = ap (slice_get net.ports) (sym place) ∙ its.at in
    record { event = event; port = its.port; there = there; at = at; port_is = ap port_at at; event_is = refl }

-- a guard has a half for each output
pub outputs_each : (net : Netlist) (past : List Label) (guard : Guard) → Guards net past guard → length guard.outputs.items ≡ length (outputs_of net)
outputs_each net past guard guards = ap length guards.outputs ∙ length-map (outputs_of net) half_of

-- one output more
pub see_more : (net : Netlist) (past : List Label) (pulses : List Pulse) (i : ℕ) (pulse : Pulse) (event : Event) (new : Guard) → slice_get (outputs_of net) i ≡ Some event → slice_get pulses i ≡ Some pulse
    → Guards net (reverse (label_if net.ports event pulse) ++ (reverse (labels_of net.ports (take i (outputs_of net)) pulses) ++ past)) new
    → Guards net (reverse (labels_of net.ports (take (i + 1) (outputs_of net)) pulses) ++ past) new
see_more net past pulses i pulse event new there at guards = subst (λ (ls : List Label). Guards net ls new) (sym after) guards
  where
    within : i < length (outputs_of net)
    within = slice_get_within (outputs_of net) i event there

    long : length (take i (outputs_of net)) ≡ i
    long = length-take-le i (outputs_of net) (omega (arith, within))

    more : take (i + 1) (outputs_of net) ≡ take i (outputs_of net) ++ event ∷ []
    more =
        take_more (outputs_of net) i event within
        ∙ ap (λ (e : Event). take i (outputs_of net) ++ e ∷ []) (get_or_from_slice_get (outputs_of net) i event event there)

    labels : labels_of net.ports (take (i + 1) (outputs_of net)) pulses ≡ labels_of net.ports (take i (outputs_of net)) pulses ++ label_if net.ports event pulse
    labels =
        ap (λ (es : List Event). labels_of net.ports es pulses) more
        ∙ labels_push net.ports (take i (outputs_of net)) pulses event pulse (ap (slice_get pulses) long ∙ at)

    after : reverse (labels_of net.ports (take (i + 1) (outputs_of net)) pulses) ++ past ≡ reverse (label_if net.ports event pulse) ++ (reverse (labels_of net.ports (take i (outputs_of net)) pulses) ++ past)
    after =
        ap (λ (ls : List Label). reverse ls ++ past) labels
        ∙ ap (λ (ls : List Label). ls ++ past) (reverse-append (labels_of net.ports (take i (outputs_of net)) pulses) (label_if net.ports event pulse))
        ∙ append_assoc (reverse (label_if net.ports event pulse)) (reverse (labels_of net.ports (take i (outputs_of net)) pulses)) past
