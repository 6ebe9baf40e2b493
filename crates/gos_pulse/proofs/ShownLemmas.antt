-- The labels of a cycle's outputs are those of the pulses that it shows, and the labels of its inputs are those of
-- the pulses that it was given.
use Rattle.std.proofs.Common.{◌≡◌, ◌<◌, ◌^◌, ℕ, suc, Bool, true, false, not, cond, List, [], ◌∷◌, ◌++◌, length, map, refl, sym, ap, subst, ◌∙◌, arith, Option, Some, None, true≢false}
use Rattle.std.specs.Prelude.{slice_get, filter, nat_eq}
use Rattle.std.proofs.lemmas.List.Elements.{filter-append}
use Rattle.gos_netlist.specs.declared.event.Event as seen
use Rattle.gos_netlist.specs.Nets.{Function, Input, Cell, Netlist}
use Rattle.gos_netlist.specs.Events.{events_of}
use Rattle.gos_netlist.specs.Settling.{Numbers, at, Settling, shown}
use Rattle.gos_netcheck.specs.PortRules.{IsEnd}
use Rattle.gos_netcheck.specs.Accepted.{IsAccepted}
use Rattle.gos_model.specs.Labels.{Label, is_output, is_output_at}
use Rattle.gos_pace.specs.Flattening.{outputs, inputs}
use Rattle.gos_sim.specs.declared.event_nets.EventNets.{EventNets}
use Rattle.gos_sim.specs.declared.pulse.Pulse.{Pulse}
use Rattle.gos_sim.specs.EventNets.{all_events, comes_in, input_events, output_events}
use Rattle.gos_sim.specs.Cycle.{bit, Gives, GivesAll, HasNumber, number_shown, outputs_shown, pulse_shown}
use Rattle.gos_pulse.specs.Guarding.{goes, events_way, inputs_of, outputs_of}
use Rattle.gos_pulse.specs.inner.Slots.{label_if, label_of, labels_of, port_at}
use Rattle.gos_pulse.specs.inner.Board.{AreInRange}
use Rattle.gos_pulse.proofs.EventLemmas.{AreRows, IsRow, IsNumberNet, net_rows, net_labels}

-- whether a label goes this way
abbrev label_goes : Bool → Label → Bool
label_goes true l = not (is_output l)
label_goes false l = is_output l

not_not : (b : Bool) → not (not b) ≡ b
not_not true = refl
not_not false = refl

no_label : (c : Bool) → ◌≡◌ {A = List Label} [] (cond c [] [])
no_label true = refl
no_label false = refl

module _ (net : Netlist) (v : Numbers) (b : Bool) where
  label_is : (e : seen.Event) (n : EventNets) (value : ℕ) → IsRow net e n → label_goes b (label_of net.ports e value) ≡ goes b e
  label_is e n value row = by b
    where
      out : is_output_at (port_at (slice_get net.ports e.port)) e.place ≡ not e.input
      out = ap (λ o. is_output_at (port_at o) e.place) row.at ∙ row.output

      by : (b : Bool) → label_goes b (label_of net.ports e value) ≡ goes b e
      by true = ap not out ∙ not_not e.input
      by false = out

  nets_is : (e : seen.Event) (n : EventNets) → IsRow net e n → comes_in b n ≡ goes b e
  nets_is e n row = by b n.input e.input row.input
    where
      by : (b c d : Bool) → c ≡ d → comes_in b (record n { input = c }) ≡ goes b (record e { input = d })
      by true true d same = same
      by true false d same = same
      by false true d same = ap not same
      by false false d same = ap not same

  -- of one event
  label_stays : (e : seen.Event) (n : EventNets) → IsRow net e n → filter (label_goes b) (label_if net.ports e (pulse_shown v n)) ≡ cond (goes b e) (label_if net.ports e (pulse_shown v n)) []
  label_stays e n row = by (nat_eq (at v n.pulse) 1)
    where
      value : ℕ
      value = number_shown v n.number

      by : (on : Bool) → filter (label_goes b) (cond on (label_of net.ports e value ∷ []) []) ≡ cond (goes b e) (cond on (label_of net.ports e value ∷ []) []) []
      by true = ap (λ (c : Bool). cond c (label_of net.ports e value ∷ []) []) (label_is e n value row)
      by false = no_label (goes b e)

  way_labels : (es : List seen.Event) (ns : List EventNets) → AreRows net es ns
      → filter (label_goes b) (labels_of net.ports es (map (pulse_shown v) ns)) ≡ labels_of net.ports (events_way b es) (map (pulse_shown v) (filter (comes_in b) ns))
  way_labels [] [] h = refl
  way_labels [] (n ∷ ns) h = absurd h
  way_labels (e ∷ es) [] h = absurd h
  way_labels (e ∷ es) (n ∷ ns) h =
      let first = label_stays e n h.0 in
      let rest = way_labels es ns h.1 in
      let one : List Label = label_if net.ports e (pulse_shown v n) in
      let others : List Label = labels_of net.ports (events_way b es) (map (pulse_shown v) (filter (comes_in b) ns)) in
      filter-append (label_goes b) one (labels_of net.ports es (map (pulse_shown v) ns))
      ∙ (λ i. first i ++ rest i)
      ∙ by (goes b e)
      ∙ ap (λ (c : Bool). labels_of net.ports (cond (goes b e) (e ∷ events_way b es) (events_way b es)) (map (pulse_shown v) (cond c (n ∷ filter (comes_in b) ns) (filter (comes_in b) ns)))) (sym (nets_is e n h.0))
    where
      by : (g : Bool) → cond g (label_if net.ports e (pulse_shown v n)) [] ++ labels_of net.ports (events_way b es) (map (pulse_shown v) (filter (comes_in b) ns))
          ≡ labels_of net.ports (cond g (e ∷ events_way b es) (events_way b es)) (map (pulse_shown v) (cond g (n ∷ filter (comes_in b) ns) (filter (comes_in b) ns)))
      by true = refl
      by false = refl

  rows_way : (es : List seen.Event) (ns : List EventNets) → AreRows net es ns → AreRows net (events_way b es) (filter (comes_in b) ns)
  rows_way [] [] h = tt
  rows_way [] (n ∷ ns) h = absurd h
  rows_way (e ∷ es) [] h = absurd h
  rows_way (e ∷ es) (n ∷ ns) h =
      let rest = rows_way es ns h.1 in
      subst (λ (c : Bool). AreRows net (cond (goes b e) (e ∷ events_way b es) (events_way b es)) (cond c (n ∷ filter (comes_in b) ns) (filter (comes_in b) ns))) (sym (nets_is e n h.0)) (by (goes b e) rest)
    where
      by : (g : Bool) → AreRows net (events_way b es) (filter (comes_in b) ns) → AreRows net (cond g (e ∷ events_way b es) (events_way b es)) (cond g (n ∷ filter (comes_in b) ns) (filter (comes_in b) ns))
      by true rest = (h.0, rest)
      by false rest = rest

rows_length : (net : Netlist) (es : List seen.Event) (ns : List EventNets) → AreRows net es ns → length es ≡ length ns
rows_length net [] [] h = refl
rows_length net [] (n ∷ ns) h = absurd h
rows_length net (e ∷ es) [] h = absurd h
rows_length net (e ∷ es) (n ∷ ns) h = ap suc (rows_length net es ns h.1)

pub input_rows : (net : Netlist) → IsAccepted net → AreRows net (inputs_of net) (input_events net)
input_rows net accepted = rows_way net [] true (events_of net) (all_events net) (net_rows net accepted)

pub output_rows : (net : Netlist) → IsAccepted net → AreRows net (outputs_of net) (output_events net)
output_rows net accepted = rows_way net [] false (events_of net) (all_events net) (net_rows net accepted)

-- a simulator has as many inputs and outputs as the netlist has events
pub inputs_each : (net : Netlist) → IsAccepted net → length (inputs_of net) ≡ length (input_events net)
inputs_each net accepted = rows_length net (inputs_of net) (input_events net) (input_rows net accepted)

pub outputs_each : (net : Netlist) → IsAccepted net → length (outputs_of net) ≡ length (output_events net)
outputs_each net accepted = rows_length net (outputs_of net) (output_events net) (output_rows net accepted)

-- the outputs of a cycle
pub outputs_are : (net : Netlist) (v : Numbers) → IsAccepted net → outputs net v ≡ labels_of net.ports (outputs_of net) (outputs_shown net v)
outputs_are net v accepted =
    ap (filter is_output) (net_labels net v accepted)
    ∙ way_labels net v false (events_of net) (all_events net) (net_rows net accepted)

inputs_shown : (net : Netlist) (v : Numbers) → IsAccepted net → inputs net v ≡ labels_of net.ports (inputs_of net) (map (pulse_shown v) (input_events net))
inputs_shown net v accepted =
    ap (filter (λ (l : Label). not (is_output l))) (net_labels net v accepted)
    ∙ way_labels net v true (events_of net) (all_events net) (net_rows net accepted)

-- an input event and its nets, with the pulse that they are given
pub record IsFed (ins : Numbers) (e : seen.Event) (n : EventNets) (p : Pulse) : Type 0 where
  pub gives : Gives ins n p
  pub fits : p.value < 2 ^ e.bits
  pub quiet : p.on ≡ false → p.value ≡ 0

abbrev pub AreFed : Numbers → List seen.Event → List EventNets → List Pulse → Type 0
AreFed ins [] [] [] = Unit {0}
AreFed ins (e ∷ es) (n ∷ ns) (p ∷ ps) = IsFed ins e n p × AreFed ins es ns ps
AreFed ins es ns ps = ⊥

fed : (net : Netlist) (ins : Numbers) (es : List seen.Event) (ns : List EventNets) (ps : List Pulse) → AreRows net es ns → length ps ≡ length es → GivesAll ns ps ins → AreInRange es ps → AreFed ins es ns ps
fed net ins [] [] [] h count gives range = tt
fed net ins [] [] (p ∷ ps) h count gives range = absurd (omega (arith, count))
fed net ins [] (n ∷ ns) ps h count gives range = absurd h
fed net ins (e ∷ es) [] ps h count gives range = absurd h
fed net ins (e ∷ es) (n ∷ ns) [] h count gives range = absurd (omega (arith, count))
fed net ins (e ∷ es) (n ∷ ns) (p ∷ ps) h count gives range =
    let here = range 0 e p refl refl in (
      record { gives = gives 0 n p refl refl; fits = here.0; quiet = here.1 },
      fed net ins es ns ps h.1 (omega (arith, count)) (λ k m q at_m at_q. gives (suc k) m q at_m at_q) (λ k f q at_f at_q. range (suc k) f q at_f at_q),
    )

-- all of these events are inputs
abbrev AreInputs : List seen.Event → Type 0
AreInputs [] = Unit {0}
AreInputs (e ∷ es) = (e.input ≡ true) × AreInputs es

inputs_way : (es : List seen.Event) → AreInputs (events_way true es)
inputs_way [] = tt
inputs_way (e ∷ es) = by e.input refl (inputs_way es)
  where
    by : (g : Bool) → e.input ≡ g → AreInputs (events_way true es) → AreInputs (cond g (e ∷ events_way true es) (events_way true es))
    by true is rest = (is, rest)
    by false is rest = rest

-- an input's net has what it was given
pub input_shown : (cells : List Cell) (regs ins v : Numbers) (n : ℕ) (c : Cell) → Settling cells regs ins v → slice_get cells n ≡ Some c → c.gate ≡ Input → at v n ≡ at ins n
input_shown cells regs ins v n c settles is gate =
    settles.1 n c is ∙ ap (λ (f : Function). shown c.width f (at regs n) (at ins n) (at v)) gate

bit_is : (b : Bool) → nat_eq (bit b) 1 ≡ b
bit_is true = refl
bit_is false = refl

pub end_gate : (b : Bool) (f : Function) → b ≡ true → IsEnd b f → f ≡ Input
end_gate true f is end = end
end_gate false f is end = absurd (true≢false (sym is))

module _ (net : Netlist) (regs ins v : Numbers) (settles : Settling net.cells regs ins v) where
  pulse_is : (e : seen.Event) (n : EventNets) (p : Pulse) → e.input ≡ true → IsRow net e n → Gives ins n p → at v n.pulse ≡ bit p.on
  pulse_is e n p input row gives =
      let fits = row.pulse in
      input_shown net.cells regs ins v n.pulse fits.0 settles fits.1 (end_gate e.input fits.0.gate input fits.3) ∙ gives.0

  number_is : (e : seen.Event) (number : Option ℕ) (value : ℕ) → e.input ≡ true → IsNumberNet net.cells e number → HasNumber ins number value → value < 2 ^ e.bits → number_shown v number ≡ value
  number_is e None value input row has small =
      let less : value < 2 ^ 0 = subst (λ (n : ℕ). value < 2 ^ n) row small in
      omega (arith, less)
  number_is e (Some x) value input row has small =
      input_shown net.cells regs ins v x row.0 settles row.1 (end_gate e.input row.0.gate input row.3) ∙ has

  given_shown : (es : List seen.Event) (ns : List EventNets) (ps : List Pulse) → AreRows net es ns → AreInputs es → AreFed ins es ns ps → map (pulse_shown v) ns ≡ ps
  given_shown [] [] [] h are given = refl
  given_shown [] [] (p ∷ ps) h are given = absurd given
  given_shown [] (n ∷ ns) ps h are given = absurd h
  given_shown (e ∷ es) [] ps h are given = absurd h
  given_shown (e ∷ es) (n ∷ ns) [] h are given = absurd given
  given_shown (e ∷ es) (n ∷ ns) (p ∷ ps) h are given =
      let on : nat_eq (at v n.pulse) 1 ≡ p.on = ap (λ (x : ℕ). nat_eq x 1) (pulse_is e n p are.0 h.0 given.0.gives) ∙ bit_is p.on in
      let value : number_shown v n.number ≡ p.value = number_is e n.number p.value are.0 h.0.number given.0.gives.1 given.0.fits in
      let rest = given_shown es ns ps h.1 are.1 given.1 in
      λ i. record { on = on i; value = value i } ∷ rest i

pub inputs_fed : (net : Netlist) (ins : Numbers) (given : List Pulse) → IsAccepted net → length given ≡ length (inputs_of net) → GivesAll (input_events net) given ins → AreInRange (inputs_of net) given → AreFed ins (inputs_of net) (input_events net) given
inputs_fed net ins given accepted count gives range = fed net ins (inputs_of net) (input_events net) given (input_rows net accepted) count gives range

-- the inputs of a cycle
pub inputs_are : (net : Netlist) (regs ins v : Numbers) (given : List Pulse) → IsAccepted net → Settling net.cells regs ins v → length given ≡ length (inputs_of net) → GivesAll (input_events net) given ins → AreInRange (inputs_of net) given
    → inputs net v ≡ labels_of net.ports (inputs_of net) given
inputs_are net regs ins v given accepted settles count gives range =
    inputs_shown net v accepted
    ∙ ap (labels_of net.ports (inputs_of net)) (given_shown net regs ins v settles (inputs_of net) (input_events net) given (input_rows net accepted) (inputs_way (events_of net)) (inputs_fed net ins given accepted count gives range))
