-- The events of an accepted netlist, each beside its nets: the pulses of a cycle are those that its events show.
use Rattle.std.proofs.Common.{◌≡◌, ◌+◌, ℕ, suc, Bool, true, false, not, cond, List, [], ◌∷◌, ◌++◌, map, refl, sym, ap, subst, ◌∙◌, arith, Option, Some, None, append_assoc}
use Rattle.std.specs.Prelude.{slice_get, nat_eq}
use Rattle.std.specs.List.{flat_map}
use Rattle.gos_types.specs.Types.{Type', Com, Exp, Var, Pair, Fun}
use Rattle.gos_netlist.specs.declared.event.Event as seen
use Rattle.gos_netlist.specs.Nets.{Cell, Side, Give, Take, NetPort, Netlist}
use Rattle.gos_netlist.specs.Events.{is_input, port_events, events_from, events_of}
use Rattle.gos_types.specs.Events.{Direction, Event, Is, events}
use Rattle.gos_netlist.specs.Settling.{Numbers, at}
use Rattle.gos_netcheck.specs.PortRules.{AllFit, Fits, inputs_among, place, places}
use Rattle.gos_netcheck.specs.Accepted.{IsAccepted}
use Rattle.gos_model.specs.Labels.{Port, Label, is_answer, is_output_at}
use Rattle.gos_pace.specs.Flattening.{port_of, pulses_from, port_pulses, pulses}
use Rattle.gos_sim.specs.declared.event_nets.EventNets.{EventNets}
use Rattle.gos_sim.specs.EventNets as table
use Rattle.gos_sim.specs.Cycle.{pulse_shown}
use Rattle.gos_pulse.specs.inner.Slots.{port_at, label_if, labels_of}
use Rattle.gos_pulse.proofs.GuardLemmas.{direction_at}

-- the nets of events, from a list of nets: one for a pulse, and one more for its number where it has one
abbrev pub nets_from : Side → List Event → List ℕ → List EventNets
nets_from side [] ns = []
nets_from side (Is way None ∷ es) [] = []
nets_from side (Is way None ∷ es) (a ∷ ns) = record { input = is_input side way; pulse = a; number = None } ∷ nets_from side es ns
nets_from side (Is way (Some b) ∷ es) [] = []
nets_from side (Is way (Some b) ∷ es) (a ∷ []) = []
nets_from side (Is way (Some b) ∷ es) (a ∷ x ∷ ns) = record { input = is_input side way; pulse = a; number = Some x } ∷ nets_from side es ns

-- each of them fits
abbrev pub FitRows : List Cell → Side → List Event → List ℕ → Type 0
FitRows cells side [] [] = Unit {0}
FitRows cells side [] (n ∷ ns) = ⊥
FitRows cells side (Is way None ∷ es) [] = ⊥
FitRows cells side (Is way None ∷ es) (a ∷ ns) = Fits cells (place side way 1) a × FitRows cells side es ns
FitRows cells side (Is way (Some b) ∷ es) [] = ⊥
FitRows cells side (Is way (Some b) ∷ es) (a ∷ []) = ⊥
FitRows cells side (Is way (Some b) ∷ es) (a ∷ x ∷ ns) = Fits cells (place side way 1) a × Fits cells (place side way b) x × FitRows cells side es ns

-- those that are inputs
abbrev pub inputs_from : Side → List Event → List ℕ → List ℕ
inputs_from side [] ns = []
inputs_from side (Is way None ∷ es) [] = []
inputs_from side (Is way None ∷ es) (a ∷ ns) = cond (is_input side way) (a ∷ []) [] ++ inputs_from side es ns
inputs_from side (Is way (Some b) ∷ es) [] = []
inputs_from side (Is way (Some b) ∷ es) (a ∷ []) = []
inputs_from side (Is way (Some b) ∷ es) (a ∷ x ∷ ns) = cond (is_input side way) (a ∷ []) [] ++ (cond (is_input side way) (x ∷ []) [] ++ inputs_from side es ns)

-- the nets of a port, event by event
pub record HasRows (cells : List Cell) (side : Side) (ty : Type') (ns : List ℕ) : Type 0 where
  pub nets : table.events_at side ty ns ≡ nets_from side (events ty) ns
  pub fits : FitRows cells side (events ty) ns
  pub inputs : inputs_among (places side ty) ns ≡ inputs_from side (events ty) ns

rows : (cells : List Cell) (side : Side) (ty : Type') (ns : List ℕ) → AllFit cells (places side ty) ns → HasRows cells side ty ns
rows cells side Com [] h = absurd (omega (arith, h.0))
rows cells side Com (a ∷ []) h = absurd (omega (arith, h.0))
rows cells side Com (a ∷ b ∷ []) h = record { nets = refl; fits = (h.1 0 a refl, (h.1 1 b refl, tt)); inputs = refl }
rows cells side Com (a ∷ b ∷ c ∷ ns) h = absurd (omega (arith, h.0))
rows cells side (Exp w) [] h = absurd (omega (arith, h.0))
rows cells side (Exp w) (a ∷ []) h = absurd (omega (arith, h.0))
rows cells side (Exp w) (a ∷ b ∷ []) h = absurd (omega (arith, h.0))
rows cells side (Exp w) (a ∷ b ∷ x ∷ []) h = record { nets = refl; fits = (h.1 0 a refl, (h.1 1 b refl, h.1 2 x refl, tt)); inputs = refl }
rows cells side (Exp w) (a ∷ b ∷ x ∷ c ∷ ns) h = absurd (omega (arith, h.0))
rows cells side (Var w) [] h = absurd (omega (arith, h.0))
rows cells side (Var w) (a ∷ []) h = absurd (omega (arith, h.0))
rows cells side (Var w) (a ∷ b ∷ []) h = absurd (omega (arith, h.0))
rows cells side (Var w) (a ∷ b ∷ x ∷ []) h = absurd (omega (arith, h.0))
rows cells side (Var w) (a ∷ b ∷ x ∷ d ∷ []) h = absurd (omega (arith, h.0))
rows cells side (Var w) (a ∷ b ∷ x ∷ d ∷ y ∷ []) h = absurd (omega (arith, h.0))
rows cells side (Var w) (a ∷ b ∷ x ∷ d ∷ y ∷ e ∷ []) h =
    record {
      nets = refl;
      fits = (h.1 0 a refl, (h.1 1 b refl, h.1 2 x refl, (h.1 3 d refl, h.1 4 y refl, (h.1 5 e refl, tt))));
      inputs = refl;
    }
rows cells side (Var w) (a ∷ b ∷ x ∷ d ∷ y ∷ e ∷ f ∷ ns) h = absurd (omega (arith, h.0))
rows cells side (Pair a b) [] h = record { nets = refl; fits = tt; inputs = refl }
rows cells side (Pair a b) (n ∷ ns) h = absurd (omega (arith, h.0))
rows cells side (Fun a b) [] h = record { nets = refl; fits = tt; inputs = refl }
rows cells side (Fun a b) (n ∷ ns) h = absurd (omega (arith, h.0))

-- requests and answers alternate
abbrev Alternate : ℕ → List Event → Type 0
Alternate n [] = Unit {0}
Alternate n (Is way number ∷ es) = (way ≡ direction_at (is_answer n)) × Alternate (suc n) es

alternate : (ty : Type') → Alternate 0 (events ty)
alternate Com = (refl, (refl, tt))
alternate (Exp w) = (refl, (refl, tt))
alternate (Var w) = (refl, (refl, (refl, (refl, tt))))
alternate (Pair a b) = tt
alternate (Fun a b) = tt

-- the events of a port from number n on go out where they are not inputs
abbrev pub TurnsOut : Port → Side → ℕ → List Event → Type 0
TurnsOut port side n [] = Unit {0}
TurnsOut port side n (Is way number ∷ es) = (is_output_at port n ≡ not (is_input side way)) × TurnsOut port side (suc n) es

-- the net of an event's number, where it has one
abbrev pub IsNumberNet : List Cell → seen.Event → Option ℕ → Type 0
IsNumberNet cells e None = e.bits ≡ 0
IsNumberNet cells e (Some x) = Fits cells (record { input = e.input; width = e.bits }) x

-- an event and its nets
pub record IsRow (net : Netlist) (e : seen.Event) (n : EventNets) : Type 0 where
  pub port : NetPort
  pub at : slice_get net.ports e.port ≡ Some port
  pub input : n.input ≡ e.input
  pub output : is_output_at (port_of port.side port.name) e.place ≡ not e.input
  pub pulse : Fits net.cells (record { input = e.input; width = 1 }) n.pulse
  pub number : IsNumberNet net.cells e n.number

-- events and their nets, one beside the other
abbrev pub AreRows : Netlist → List seen.Event → List EventNets → Type 0
AreRows net [] [] = Unit {0}
AreRows net [] (n ∷ ns) = ⊥
AreRows net (e ∷ es) [] = ⊥
AreRows net (e ∷ es) (n ∷ ns) = IsRow net e n × AreRows net es ns

output_is : (side : Side) (name : List ℕ) (b : Bool) (place : ℕ) → is_answer place ≡ b → is_output_at (port_of side name) place ≡ not (is_input side (direction_at b))
output_is Give name true place h = h
output_is Give name false place h = h
output_is Take name true place h = ap not h
output_is Take name false place h = ap not h

module _ (net : Netlist) (k : ℕ) (p : NetPort) (here : slice_get net.ports k ≡ Some p) where
  output_of : (n : ℕ) (way : Direction) → way ≡ direction_at (is_answer n) → is_output_at (port_of p.side p.name) n ≡ not (is_input p.side way)
  output_of n way turn = output_is p.side p.name (is_answer n) n refl ∙ ap (λ (d : Direction). not (is_input p.side d)) (sym turn)

  outputs_turn : (n : ℕ) (es : List Event) → Alternate n es → TurnsOut (port_of p.side p.name) p.side n es
  outputs_turn n [] turns = tt
  outputs_turn n (Is way number ∷ es) turns = (output_of n way turns.0, outputs_turn (suc n) es turns.1)

  pub turns_out : TurnsOut (port_of p.side p.name) p.side 0 (events p.ty)
  turns_out = outputs_turn 0 (events p.ty) (alternate p.ty)

  -- of the events of one port
  port_rows : (n : ℕ) (es : List Event) (ns : List ℕ) → Alternate n es → FitRows net.cells p.side es ns → AreRows net (port_events k p.side n es) (nets_from p.side es ns)
  port_rows n [] [] turns fit = tt
  port_rows n [] (a ∷ ns) turns fit = absurd fit
  port_rows n (Is way None ∷ es) [] turns fit = absurd fit
  port_rows n (Is way None ∷ es) (a ∷ ns) turns fit = (
    record { port = p; at = here; input = refl; output = output_of n way turns.0; pulse = fit.0; number = refl },
    port_rows (suc n) es ns turns.1 fit.1,
  )
  port_rows n (Is way (Some b) ∷ es) [] turns fit = absurd fit
  port_rows n (Is way (Some b) ∷ es) (a ∷ []) turns fit = absurd fit
  port_rows n (Is way (Some b) ∷ es) (a ∷ x ∷ ns) turns fit = (
    record { port = p; at = here; input = refl; output = output_of n way turns.0; pulse = fit.0; number = fit.1 },
    port_rows (suc n) es ns turns.1 fit.2,
  )

  port_in_label : port_of p.side p.name ≡ port_at (slice_get net.ports k)
  port_in_label = sym (ap port_at here)

  port_labels : (v : Numbers) (n : ℕ) (es : List Event) (ns : List ℕ) → FitRows net.cells p.side es ns
      → pulses_from (port_of p.side p.name) n es ns v ≡ labels_of net.ports (port_events k p.side n es) (map (pulse_shown v) (nets_from p.side es ns))
  port_labels v n [] [] fit = refl
  port_labels v n [] (a ∷ ns) fit = absurd fit
  port_labels v n (Is way None ∷ es) [] fit = absurd fit
  port_labels v n (Is way None ∷ es) (a ∷ ns) fit =
      let rest = port_labels v (suc n) es ns fit.1 in
      λ i. cond (nat_eq (at v a) 1) (record { port = port_in_label i; event = n; value = 0 } ∷ []) [] ++ rest i
  port_labels v n (Is way (Some b) ∷ es) [] fit = absurd fit
  port_labels v n (Is way (Some b) ∷ es) (a ∷ []) fit = absurd fit
  port_labels v n (Is way (Some b) ∷ es) (a ∷ x ∷ ns) fit =
      let rest = port_labels v (suc n) es ns fit.2 in
      λ i. cond (nat_eq (at v a) 1) (record { port = port_in_label i; event = n; value = at v x } ∷ []) [] ++ rest i

rows_append : (net : Netlist) (es fs : List seen.Event) (ns ms : List EventNets) → AreRows net es ns → AreRows net fs ms → AreRows net (es ++ fs) (ns ++ ms)
rows_append net [] fs [] ms h g = g
rows_append net [] fs (n ∷ ns) ms h g = absurd h
rows_append net (e ∷ es) fs [] ms h g = absurd h
rows_append net (e ∷ es) fs (n ∷ ns) ms h g = (h.0, rows_append net es fs ns ms h.1 g)

labels_append : (net : Netlist) (v : Numbers) (es fs : List seen.Event) (ns ms : List EventNets) → AreRows net es ns
    → labels_of net.ports (es ++ fs) (map (pulse_shown v) (ns ++ ms)) ≡ labels_of net.ports es (map (pulse_shown v) ns) ++ labels_of net.ports fs (map (pulse_shown v) ms)
labels_append net v [] fs [] ms h = refl
labels_append net v [] fs (n ∷ ns) ms h = absurd h
labels_append net v (e ∷ es) fs [] ms h = absurd h
labels_append net v (e ∷ es) fs (n ∷ ns) ms h =
    ap (λ (ls : List Label). label_if net.ports e (pulse_shown v n) ++ ls) (labels_append net v es fs ns ms h.1)
    ∙ sym (append_assoc (label_if net.ports e (pulse_shown v n)) (labels_of net.ports es (map (pulse_shown v) ns)) (labels_of net.ports fs (map (pulse_shown v) ms)))

-- of the ports from place k on
abbrev pub FromPlace : Netlist → ℕ → List NetPort → Type 0
FromPlace net k ps = (j : ℕ) (p : NetPort) → slice_get ps j ≡ Some p → (slice_get net.ports (k + j) ≡ Some p) × HasRows net.cells p.side p.ty p.nets

pub next_place : (net : Netlist) (k : ℕ) (p : NetPort) (ps : List NetPort) → FromPlace net k (p ∷ ps) → FromPlace net (suc k) ps
next_place net k p ps from j q is =
    let known = from (suc j) q is in
    let place : k + suc j ≡ suc k + j = omega arith in
    (subst (λ (n : ℕ). slice_get net.ports n ≡ Some q) place known.0, known.1)

pub this_place : (net : Netlist) (k : ℕ) (p : NetPort) (ps : List NetPort) → FromPlace net k (p ∷ ps) → slice_get net.ports k ≡ Some p
this_place net k p ps from = let place : k + 0 ≡ k = omega arith in subst (λ (n : ℕ). slice_get net.ports n ≡ Some p) place (from 0 p refl).0

-- the rows of a port
pub port_has_rows : (net : Netlist) (k : ℕ) (p : NetPort) (ps : List NetPort) → FromPlace net k (p ∷ ps) → AreRows net (port_events k p.side 0 (events p.ty)) (table.port_events p)
port_has_rows net k p ps from =
    let has = (from 0 p refl).1 in
    subst (AreRows net (port_events k p.side 0 (events p.ty))) (sym has.nets) (port_rows net k p (this_place net k p ps from) 0 (events p.ty) p.nets (alternate p.ty) has.fits)

all_rows : (net : Netlist) (k : ℕ) (ps : List NetPort) → FromPlace net k ps → AreRows net (events_from k ps) (flat_map table.port_events ps)
all_rows net k [] from = tt
all_rows net k (p ∷ ps) from =
    rows_append net (port_events k p.side 0 (events p.ty)) (events_from (suc k) ps) (table.port_events p) (flat_map table.port_events ps)
    (port_has_rows net k p ps from) (all_rows net (suc k) ps (next_place net k p ps from))

all_labels : (net : Netlist) (v : Numbers) (k : ℕ) (ps : List NetPort) → FromPlace net k ps → pulses ps v ≡ labels_of net.ports (events_from k ps) (map (pulse_shown v) (flat_map table.port_events ps))
all_labels net v k [] from = refl
all_labels net v k (p ∷ ps) from =
    let has = (from 0 p refl).1 in
    let es : List seen.Event = port_events k p.side 0 (events p.ty) in
    let first : port_pulses v p ≡ labels_of net.ports es (map (pulse_shown v) (table.port_events p)) =
    port_labels net k p (this_place net k p ps from) v 0 (events p.ty) p.nets has.fits
    ∙ ap (λ (ns : List EventNets). labels_of net.ports es (map (pulse_shown v) ns)) (sym has.nets) in
    let rest = all_labels net v (suc k) ps (next_place net k p ps from) in
    (λ i. first i ++ rest i)
    ∙ sym (labels_append net v es (events_from (suc k) ps) (table.port_events p) (flat_map table.port_events ps) (port_has_rows net k p ps from))

-- the ports of an accepted netlist have rows
ports_have_rows : (net : Netlist) → IsAccepted net → (j : ℕ) (p : NetPort) → slice_get net.ports j ≡ Some p → HasRows net.cells p.side p.ty p.nets
ports_have_rows net accepted j p is =
    rows net.cells p.side p.ty p.nets (accepted.ports.each j p is).nets

pub from_first : (net : Netlist) → IsAccepted net → FromPlace net 0 net.ports
from_first net accepted j p is =
    let place : j ≡ 0 + j = omega arith in
    (subst (λ (n : ℕ). slice_get net.ports n ≡ Some p) place is, ports_have_rows net accepted j p is)

-- each event stands beside its nets
pub net_rows : (net : Netlist) → IsAccepted net → AreRows net (events_of net) (table.all_events net)
net_rows net accepted = all_rows net 0 net.ports (from_first net accepted)

-- the pulses of a cycle are what the events show
pub net_labels : (net : Netlist) (v : Numbers) → IsAccepted net → pulses net.ports v ≡ labels_of net.ports (events_of net) (map (pulse_shown v) (table.all_events net))
net_labels net v accepted = all_labels net v 0 net.ports (from_first net accepted)
