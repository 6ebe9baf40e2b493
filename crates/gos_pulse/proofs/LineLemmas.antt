-- The lines of a cycle, event by event.
use Rattle.std.proofs.Common.{◌≡◌, ◌<◌, ◌+◌, ◌&&◌, ℕ, Bool, true, false, true≢false, not, cond, List, [], ◌∷◌, ◌++◌, length, take, get_or, refl, sym, ap, subst, ◌∙◌, arith, Some, append_assoc}
use Rattle.std.specs.Prelude.{slice_get}
use Rattle.std.specs.List.{list_all}
use Rattle.std.proofs.lemmas.Option.{slice_get_within, slice_get-get_or}
use Rattle.std.proofs.lemmas.List.{append-nil, take_all}
use Rattle.gos_netlist.specs.declared.event.Event.{Event}
use Rattle.gos_netlist.specs.Nets.{NetPort, Netlist}
use Rattle.gos_netlist.specs.Events.{events_of}
use Rattle.gos_model.specs.Labels.{Label}
use Rattle.gos_sim.specs.declared.pulse.Pulse.{Pulse}
use Rattle.gos_pulse.specs.declared.slots.Slot.{Slot}
use Rattle.gos_pulse.specs.declared.trace.TraceLine.{TraceLine}
use Rattle.gos_pulse.specs.Guarding.{goes, events_way}
use Rattle.gos_pulse.specs.Driving.{IsPulse}
use Rattle.gos_pulse.specs.Traced.{AreLines}
use Rattle.gos_pulse.specs.inner.Slots.{label_if, label_of, labels_of, number_of, port_at}
use Rattle.gos_pulse.specs.inner.Lines.{AddsLines, HavePulses, is_off, line_if}
use Rattle.gos_pulse.proofs.GuardLemmas.{event_from, way_more}
use Rattle.gos_pulse.proofs.OrderLemmas.{labels_push}
use Rattle.gos_pulse.proofs.SlotLemmas.{way_there}

lines-append : (net : Netlist) (t : ℕ) (xs ys : List TraceLine) (ls ks : List Label) → AreLines net t xs ls → AreLines net t ys ks → AreLines net t (xs ++ ys) (ls ++ ks)
lines-append net t [] ys [] ks h g = g
lines-append net t [] ys (l ∷ ls) ks h g = absurd h
lines-append net t (x ∷ xs) ys [] ks h g = absurd h
lines-append net t (x ∷ xs) ys (l ∷ ls) ks h g = (h.0, h.1, lines-append net t xs ys ls ks h.2 g)

-- lines behind lines
pub adds_both : (net : Netlist) (t : ℕ) (ls ks : List Label) (old mid new : List TraceLine) → AddsLines net t ls old mid → AddsLines net t ks mid new → AddsLines net t (ls ++ ks) old new
adds_both net t ls ks old mid new first second =
    record {
      now = first.now ++ second.now;
      is = second.is ∙ ap (λ (xs : List TraceLine). xs ++ second.now) first.is ∙ append_assoc old first.now second.now;
      lines = lines-append net t first.now second.now ls ks first.lines second.lines;
    }

-- the pulse of an event
event_pulse : (net : Netlist) (i value : ℕ) (event : Event) → slice_get (events_of net) i ≡ Some event → IsPulse net i value (label_of net.ports event value)
event_pulse net i value event there =
    let its = event_from 0 net.ports i event there in
    let place : its.index ≡ event.port = omega (arith, its.port_is) in
    let at : slice_get net.ports event.port ≡ Some its.port = ap (slice_get net.ports) (sym place) ∙ its.at in
    record { event = event; port = its.port; there = there; at = at; is = λ j. record { port = port_at (at j); event = event.place; value = value } }

adds_pulse : (net : Netlist) (t i : ℕ) (event : Event) (pulse : Pulse) (old : List TraceLine) → slice_get (events_of net) i ≡ Some event → AddsLines net t (label_if net.ports event pulse) old (old ++ line_if t i pulse)
adds_pulse net t i event pulse old there = record { now = line_if t i pulse; is = refl; lines = by pulse.on }
  where
    by : (on : Bool) → AreLines net t (cond on ((record { cycle = t; event = i; value = pulse.value }) ∷ []) []) (cond on (label_of net.ports event pulse.value ∷ []) [])
    by true = (refl, event_pulse net i pulse.value event there, tt)
    by false = tt

module _ (net : Netlist) (t : ℕ) (input : Bool) (slots : List Slot) (pulses : List Pulse) (i : ℕ) (slot : Slot) (old mid : List TraceLine) (has : HavePulses net input slots pulses) (here : slice_get slots i ≡ Some slot) where
  none : Event
  none = record { port = 0; place = 0; input = false; bits = 0 }

  -- the event of the slot
  pub record IsHere : Type 0 where
    pub event : Event
    pub there : slice_get (events_of net) i ≡ Some event
    pub way : slot.input ≡ event.input
    pub place : slot.place ≡ number_of event.input (events_of net) i

  pub is_here : IsHere
  is_here =
      let within : i < length (events_of net) = omega (arith, slice_get_within slots i slot here, has.slots_of.each) in
      let there = slice_get-get_or (events_of net) i none within in
      record {
        event = get_or (events_of net) i none;
        there = there;
        way = has.slots_of.input i (get_or (events_of net) i none) slot there here;
        place = has.slots_of.place i (get_or (events_of net) i none) slot there here;
      }

  goes_way : (b c : Bool) (e : Event) → e.input ≡ c → c ≡ b → goes b e ≡ true
  goes_way true c e is same = is ∙ same
  goes_way false c e is same = ap not (is ∙ same)

  goes_not : (b c : Bool) (e : Event) → e.input ≡ c → (c ≡ b → ⊥) → goes b e ≡ false
  goes_not true true e is other = absurd (other refl)
  goes_not true false e is other = is
  goes_not false true e is other = ap not is
  goes_not false false e is other = absurd (other refl)

  -- its pulse, where it goes the way
  pub pulse_within : slot.input ≡ input → slot.place < length pulses
  pulse_within same =
      let one = is_here in
      let way : one.event.input ≡ input = sym one.way ∙ same in
      let there = way_there input (events_of net) i one.event one.there (goes_way input one.event.input one.event refl way) in
      let place : slot.place ≡ number_of input (events_of net) i = one.place ∙ ap (λ (b : Bool). number_of b (events_of net) i) way in
      omega (arith, slice_get_within (events_way input (events_of net)) (number_of input (events_of net) i) one.event there, place, has.each)

  -- one event more goes the way
  pub adds_more : (pulse : Pulse) → slot.input ≡ input → slice_get pulses slot.place ≡ Some pulse
      → AddsLines net t (labels_of net.ports (events_way input (take i (events_of net))) pulses) old mid
      → AddsLines net t (labels_of net.ports (events_way input (take (i + 1) (events_of net))) pulses) old (mid ++ line_if t i pulse)
  adds_more pulse same at so_far =
      let one = is_here in
      let way : one.event.input ≡ input = sym one.way ∙ same in
      let goes_on : goes input one.event ≡ true = goes_way input one.event.input one.event refl way in
      let place : slot.place ≡ number_of input (events_of net) i = one.place ∙ ap (λ (b : Bool). number_of b (events_of net) i) way in
      let more : events_way input (take (i + 1) (events_of net)) ≡ events_way input (take i (events_of net)) ++ one.event ∷ [] =
      way_more input (events_of net) i one.event one.there
      ∙ ap (λ (b : Bool). cond b (events_way input (take i (events_of net)) ++ one.event ∷ []) (events_way input (take i (events_of net)))) goes_on in
      let labels : labels_of net.ports (events_way input (take (i + 1) (events_of net))) pulses ≡ labels_of net.ports (events_way input (take i (events_of net))) pulses ++ label_if net.ports one.event pulse =
      ap (λ (es : List Event). labels_of net.ports es pulses) more
      ∙ labels_push net.ports (events_way input (take i (events_of net))) pulses one.event pulse (ap (slice_get pulses) (sym place) ∙ at) in
      subst (λ (ls : List Label). AddsLines net t ls old (mid ++ line_if t i pulse)) (sym labels)
      (adds_both net t (labels_of net.ports (events_way input (take i (events_of net))) pulses) (label_if net.ports one.event pulse) old mid (mid ++ line_if t i pulse) so_far
      (adds_pulse net t i one.event pulse mid one.there))

  -- or it doesn't
  pub adds_same : (slot.input ≡ input → ⊥)
      → AddsLines net t (labels_of net.ports (events_way input (take i (events_of net))) pulses) old mid
      → AddsLines net t (labels_of net.ports (events_way input (take (i + 1) (events_of net))) pulses) old mid
  adds_same other so_far =
      let one = is_here in
      let goes_off : goes input one.event ≡ false = goes_not input one.event.input one.event refl (λ way. other (one.way ∙ way)) in
      let more : events_way input (take (i + 1) (events_of net)) ≡ events_way input (take i (events_of net)) =
      way_more input (events_of net) i one.event one.there
      ∙ ap (λ (b : Bool). cond b (events_way input (take i (events_of net)) ++ one.event ∷ []) (events_way input (take i (events_of net)))) goes_off in
      subst (λ (es : List Event). AddsLines net t (labels_of net.ports es pulses) old mid) (sym more) so_far

-- all events
pub adds_all : (net : Netlist) (t : ℕ) (input : Bool) (slots : List Slot) (pulses : List Pulse) (i : ℕ) (old new : List TraceLine) → HavePulses net input slots pulses → length slots ≡ i
    → AddsLines net t (labels_of net.ports (events_way input (take i (events_of net))) pulses) old new → AddsLines net t (labels_of net.ports (events_way input (events_of net)) pulses) old new
adds_all net t input slots pulses i old new has all so_far =
    subst (λ (es : List Event). AddsLines net t (labels_of net.ports (events_way input es) pulses) old new) (take_all i (events_of net) (omega (arith, all, has.slots_of.each))) so_far

-- pulses that don't happen have no labels
pub no_labels : (ports : List NetPort) (events : List Event) (pulses : List Pulse) → list_all is_off pulses ≡ true → labels_of ports events pulses ≡ []
no_labels ports [] pulses off = refl
no_labels ports (event ∷ events) [] off = refl
no_labels ports (event ∷ events) (pulse ∷ pulses) off = by pulse.on (no_labels ports events pulses) off
  where
    by : (on : Bool) → (list_all is_off pulses ≡ true → labels_of ports events pulses ≡ []) → (not on && list_all is_off pulses) ≡ true
        → cond on (label_of ports event pulse.value ∷ []) [] ++ labels_of ports events pulses ≡ []
    by true rest h = absurd (true≢false (sym h))
    by false rest h = rest h

-- and add no lines
pub adds_none : (net : Netlist) (t : ℕ) (events : List Event) (pulses : List Pulse) (lines : List TraceLine) → list_all is_off pulses ≡ true → AddsLines net t (labels_of net.ports events pulses) lines lines
adds_none net t events pulses lines off =
    subst (λ (ls : List Label). AddsLines net t ls lines lines) (sym (no_labels net.ports events pulses off))
    (record { now = []; is = sym (append-nil lines); lines = tt })
