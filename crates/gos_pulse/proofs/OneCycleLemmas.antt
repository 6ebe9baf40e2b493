-- A cycle from given registers has the same outputs whatever its inputs are. With the same labels of inputs it has
-- the same inputs, and so the same values.
use Rattle.std.proofs.Common.{◌≡◌, ◌<◌, ◌^◌, inl, inr, ℕ, zero, suc, Bool, true, false, not, cond, List, [], ◌∷◌, ◌++◌, map, refl, sym, ap, subst, ◌∙◌, arith, Option, Some, None, true≢false}
use Rattle.std.specs.Prelude.{slice_get, nat_eq, All, IsFalse}
use Rattle.std.specs.List.{flat_map, AllByRecursion}
use Rattle.std.specs.Option.{option_map}
use Rattle.std.proofs.lemmas.Option.{slice_get-map}
use Rattle.std.proofs.lemmas.List.Elements.{All-contains, All-from_recursion}
use Rattle.gos_netlist.specs.declared.event.Event as seen
use Rattle.gos_netlist.specs.Nets.{Function, Input, Const, Not, And, Or, Xor, Mux, Add, Sub, Eq, Less, Gate, Reg, Cell, Side, NetPort, Netlist}
use Rattle.gos_netlist.specs.Events.{is_input, events_of}
use Rattle.gos_types.specs.Events.{Event, Is, events}
use Rattle.gos_netlist.specs.Settling.{Numbers, at, Settling, shown}
use Rattle.gos_netlist.proofs.RepeatLemmas.{same_or_not}
use Rattle.gos_netlist.proofs.SettlingLemmas.{acyclic_settles_once}
use Rattle.gos_netcheck.specs.PortRules as rules
use Rattle.gos_netcheck.specs.PortRules.{Fits, IsEnd, all_inputs, place}
use Rattle.gos_netcheck.specs.Accepted.{IsAccepted}
use Rattle.gos_model.specs.Labels.{Port, Label, is_output_at}
use Rattle.gos_pace.specs.Flattening.{port_of, pulses, inputs, outputs, AnyOrder}
use Rattle.gos_pace.specs.Silence.{IsSilentFrom, AreSilent, IsClean}
use Rattle.gos_sim.specs.declared.event_nets.EventNets.{EventNets}
use Rattle.gos_sim.specs.declared.pulse.Pulse.{Pulse}
use Rattle.gos_sim.specs.EventNets as table
use Rattle.gos_sim.specs.Cycle.{number_shown, pulse_shown}
use Rattle.gos_pulse.specs.Guarding.{events_way, outputs_of}
use Rattle.gos_pulse.specs.inner.Slots.{label_of, labels_of}
use Rattle.gos_pulse.proofs.AmongLemmas.{IsAmong, IsTold, told, tells, order_has, order_had, both_ways}
use Rattle.gos_pulse.proofs.EventLemmas.{AreRows, FitRows, FromPlace, IsNumberNet, TurnsOut, from_first, net_labels, net_rows, nets_from, inputs_from, next_place, this_place, turns_out}
use Rattle.gos_pulse.proofs.RangeLemmas.{some_of, all_append}
use Rattle.gos_pulse.proofs.ShownLemmas.{end_gate, input_shown, output_rows, outputs_are}
use Rattle.gos_pulse.proofs.OneEventLemmas.{one_labelled}

-- Outputs.

-- all of these events are outputs
abbrev AreOutputs : List seen.Event → Type 0
AreOutputs [] = Unit {0}
AreOutputs (e ∷ es) = (e.input ≡ false) × AreOutputs es

outputs_way : (es : List seen.Event) → AreOutputs (events_way false es)
outputs_way [] = tt
outputs_way (e ∷ es) = by e.input refl (outputs_way es)
  where
    by : (b : Bool) → e.input ≡ b → AreOutputs (events_way false es) → AreOutputs (cond (not b) (e ∷ events_way false es) (events_way false es))
    by true is rest = rest
    by false is rest = (is, rest)

end_register : (b : Bool) (f : Function) → b ≡ false → IsEnd b f → (a : ℕ) × (f ≡ Reg a)
end_register true f is end = absurd (true≢false is)
end_register false f is end = end

module _ (net : Netlist) (regs ins v : Numbers) (settles : Settling net.cells regs ins v) where
  -- an output's net has what its register holds
  register_shown : (b : Bool) (width x : ℕ) → b ≡ false → Fits net.cells (record { input = b; width = width }) x → at v x ≡ at regs x
  register_shown b width x output (c, is, wide, end) =
      let its = end_register b c.gate output end in
      settles.1 x c is ∙ ap (λ (f : Function). shown c.width f (at regs x) (at ins x) (at v)) its.1

  number_held : (e : seen.Event) (number : Option ℕ) → e.input ≡ false → IsNumberNet net.cells e number → number_shown v number ≡ number_shown regs number
  number_held e None output row = refl
  number_held e (Some x) output row = register_shown e.input e.bits x output row

  -- outputs show their registers
  outputs_held : (es : List seen.Event) (ns : List EventNets) → AreRows net es ns → AreOutputs es → map (pulse_shown v) ns ≡ map (pulse_shown regs) ns
  outputs_held [] [] rows are = refl
  outputs_held [] (n ∷ ns) rows are = absurd rows
  outputs_held (e ∷ es) [] rows are = absurd rows
  outputs_held (e ∷ es) (n ∷ ns) rows are =
      let pulse : at v n.pulse ≡ at regs n.pulse = register_shown e.input 1 n.pulse are.0 rows.0.pulse in
      let number = number_held e n.number are.0 rows.0.number in
      let rest = outputs_held es ns rows.1 are.1 in
      λ i. record { on = nat_eq (pulse i) 1; value = number i } ∷ rest i

-- the outputs of a cycle are those of its registers
pub outputs_are_held : (net : Netlist) (regs ins v : Numbers) → IsAccepted net → Settling net.cells regs ins v → outputs net v ≡ labels_of net.ports (outputs_of net) (map (pulse_shown regs) (table.output_events net))
outputs_are_held net regs ins v accepted settles =
    outputs_are net v accepted
    ∙ ap (labels_of net.ports (outputs_of net)) (outputs_held net regs ins v settles (outputs_of net) (table.output_events net) (output_rows net accepted) (outputs_way (events_of net)))

-- Inputs.

-- what the nets of an event show with the one values they show with the other
abbrev Agrees : Numbers → Numbers → EventNets → Type 0
Agrees v w n = nat_eq (at v n.pulse) 1 ≡ true → (nat_eq (at w n.pulse) 1 ≡ true) × (number_shown v n.number ≡ number_shown w n.number)

beside : (net : Netlist) (es : List seen.Event) (ns : List EventNets) (k : ℕ) (n : EventNets) → AreRows net es ns → slice_get ns k ≡ Some n → (e : seen.Event) × (slice_get es k ≡ Some e)
beside net es [] k n rows is = absurd (cc is)
beside net [] (m ∷ ns) k n rows is = absurd rows
beside net (e ∷ es) (m ∷ ns) zero n rows is = (e, refl)
beside net (e ∷ es) (m ∷ ns) (suc k) n rows is = beside net es ns k n rows.1 is

all_by : (P : EventNets → Type 0) (ns : List EventNets) → ((k : ℕ) (n : EventNets) → slice_get ns k ≡ Some n → P n) → AllByRecursion P ns
all_by P [] each = tt
all_by P (n ∷ ns) each = (each 0 n refl, all_by P ns (λ k m is. each (suc k) m is))

module _ (net : Netlist) (accepted : IsAccepted net) (v w : Numbers) (same : (l : Label) → IsAmong l (pulses net.ports v) → IsAmong l (pulses net.ports w)) where
  agrees_at : (k : ℕ) (n : EventNets) (e : seen.Event) → slice_get (table.all_events net) k ≡ Some n → slice_get (events_of net) k ≡ Some e → Agrees v w n
  agrees_at k n e at_n at_e on = (sym (ap (λ (p : Pulse). p.on) pulse) ∙ there.on, ap (λ (l : Label). l.value) there.is ∙ ap (λ (p : Pulse). p.value) pulse)
    where
      l : Label
      l = label_of net.ports e (number_shown v n.number)

      pulse_at : (u : Numbers) → slice_get (map (pulse_shown u) (table.all_events net)) k ≡ Some (pulse_shown u n)
      pulse_at u = slice_get-map (pulse_shown u) (table.all_events net) k ∙ ap (option_map (pulse_shown u)) at_n

      here : IsAmong (label_of net.ports e (number_shown v n.number)) (pulses net.ports v)
      here =
          subst (IsAmong l) (sym (net_labels net v accepted))
          (tells net.ports (events_of net) (map (pulse_shown v) (table.all_events net)) k e (pulse_shown v n) at_e (pulse_at v) on)

      there : IsTold net.ports (events_of net) (map (pulse_shown w) (table.all_events net)) (label_of net.ports e (number_shown v n.number))
      there = told net.ports (events_of net) (map (pulse_shown w) (table.all_events net)) l (subst (IsAmong l) (net_labels net w accepted) (same l here))

      place : k ≡ there.place
      place = one_labelled net accepted k there.place e there.event (number_shown v n.number) there.pulse.value at_e there.at there.is

      both : Some there.pulse ≡ Some (pulse_shown w n)
      both = sym there.its ∙ ap (slice_get (map (pulse_shown w) (table.all_events net))) (sym place) ∙ pulse_at w

      pulse : there.pulse ≡ pulse_shown w n
      pulse = let is = both in cc

  agrees : (k : ℕ) (n : EventNets) → slice_get (table.all_events net) k ≡ Some n → Agrees v w n
  agrees k n is = let one = beside net (events_of net) (table.all_events net) k n (net_rows net accepted) is in agrees_at k n one.0 is one.1

  all_agree : AllByRecursion (Agrees v w) (table.all_events net)
  all_agree = all_by (Agrees v w) (table.all_events net) agrees

small_same : (x y : ℕ) → x < 2 ^ 1 → y < 2 ^ 1 → (nat_eq x 1 ≡ true → nat_eq y 1 ≡ true) → (nat_eq y 1 ≡ true → nat_eq x 1 ≡ true) → x ≡ y
small_same zero zero few less there back = refl
small_same (suc zero) (suc zero) few less there back = refl
small_same zero (suc zero) few less there back = absurd (true≢false (sym (back refl)))
small_same (suc zero) zero few less there back = absurd (true≢false (sym (there refl)))
small_same (suc (suc x)) y few less there back = absurd (omega (arith, few))
small_same x (suc (suc y)) few less there back = absurd (omega (arith, less))

not_one : (x : ℕ) → x < 2 ^ 1 → nat_eq x 1 ≡ false → x ≡ 0
not_one zero less off = refl
not_one (suc zero) less off = absurd (true≢false off)
not_one (suc (suc x)) less off = absurd (omega (arith, less))

all_front : {X : Type 0} (P : X → Type 0) (xs ys : List X) → AllByRecursion P (xs ++ ys) → AllByRecursion P xs × AllByRecursion P ys
all_front P [] ys all = (tt, all)
all_front P (x ∷ xs) ys all = let rest = all_front P xs ys all.1 in ((all.0, rest.0), rest.1)

-- a cycle with these inputs, from the registers
record Shows (net : Netlist) (regs ins v : Numbers) : Type 0 where
  settles : Settling net.cells regs ins v
  clean : IsClean net ins

-- an input's net has what it was given, in range
fed_net : (net : Netlist) (regs ins v : Numbers) (b : Bool) (width x : ℕ) → b ≡ true → Shows net regs ins v → Fits net.cells (record { input = b; width = width }) x → (at v x ≡ at ins x) × (at ins x < 2 ^ width)
fed_net net regs ins v b width x input shows (c, is, wide, end) =
    let gate = end_gate b c.gate input end in
    (input_shown net.cells regs ins v x c shows.settles is gate, subst (λ (n : ℕ). at ins x < 2 ^ n) wide (shows.clean.0 x c is gate))

-- two cycles from the same registers, whose events agree
module _ (net : Netlist) (regs i v j w : Numbers) (one : Shows net regs i v) (two : Shows net regs j w) where
  -- a net has the same in both
  abbrev IsSame : ℕ → Type 0
  IsSame x = at i x ≡ at j x

  pulse_same : (b : Bool) (a : ℕ) (number : Option ℕ) → b ≡ true → Fits net.cells (record { input = b; width = 1 }) a
      → Agrees v w (record { input = b; pulse = a; number = number }) → Agrees w v (record { input = b; pulse = a; number = number }) → IsSame a
  pulse_same b a number input fits there back =
      let first = fed_net net regs i v b 1 a input one fits in
      let second = fed_net net regs j w b 1 a input two fits in
      small_same (at i a) (at j a) first.1 second.1
      (λ on. ap (λ (x : ℕ). nat_eq x 1) (sym second.0) ∙ (there (ap (λ (x : ℕ). nat_eq x 1) first.0 ∙ on)).0)
      (λ on. ap (λ (x : ℕ). nat_eq x 1) (sym first.0) ∙ (back (ap (λ (x : ℕ). nat_eq x 1) second.0 ∙ on)).0)

  number_same : (b : Bool) (a x bits : ℕ) → b ≡ true → Fits net.cells (record { input = b; width = 1 }) a → Fits net.cells (record { input = b; width = bits }) x
      → (at i a ≡ 0 → at i x ≡ 0) → (at j a ≡ 0 → at j x ≡ 0)
      → Agrees v w (record { input = b; pulse = a; number = Some x }) → Agrees w v (record { input = b; pulse = a; number = Some x }) → IsSame x
  number_same b a x bits input fits number quiet still there back =
      by (nat_eq (at i a) 1) refl
    where
      both : IsSame a
      both = pulse_same b a (Some x) input fits there back

      by : (on : Bool) → nat_eq (at i a) 1 ≡ on → IsSame x
      by true on =
          let pulse = fed_net net regs i v b 1 a input one fits in
          sym (fed_net net regs i v b bits x input one number).0 ∙ (there (ap (λ (y : ℕ). nat_eq y 1) pulse.0 ∙ on)).1 ∙ (fed_net net regs j w b bits x input two number).0
      by false off =
          let none : at i a ≡ 0 = not_one (at i a) (fed_net net regs i v b 1 a input one fits).1 off in
          quiet none ∙ sym (still (sym both ∙ none))

  -- of the events of one port
  port_same : (side : Side) (port : Port) (n : ℕ) (es : List Event) (ns : List ℕ) → TurnsOut port side n es → FitRows net.cells side es ns → IsSilentFrom false port n es ns i → IsSilentFrom false port n es ns j
      → AllByRecursion (Agrees v w) (nets_from side es ns) → AllByRecursion (Agrees w v) (nets_from side es ns) → AllByRecursion IsSame (inputs_from side es ns)
  port_same side port n [] [] turns fit quiet still there back = tt
  port_same side port n [] (a ∷ ns) turns fit quiet still there back = absurd fit
  port_same side port n (Is way None ∷ es) [] turns fit quiet still there back = absurd fit
  port_same side port n (Is way None ∷ es) (a ∷ ns) turns fit quiet still there back =
      some_of IsSame (is_input side way) a (inputs_from side es ns)
      (λ input. pulse_same (is_input side way) a None input fit.0 there.0 back.0)
      (port_same side port (suc n) es ns turns.1 fit.1 quiet still there.1 back.1)
  port_same side port n (Is way (Some b) ∷ es) [] turns fit quiet still there back = absurd fit
  port_same side port n (Is way (Some b) ∷ es) (a ∷ []) turns fit quiet still there back = absurd fit
  port_same side port n (Is way (Some b) ∷ es) (a ∷ x ∷ ns) turns fit quiet still there back =
      some_of IsSame (is_input side way) a (cond (is_input side way) (x ∷ []) [] ++ inputs_from side es ns)
      (λ input. pulse_same (is_input side way) a (Some x) input fit.0 there.0 back.0)
      (some_of IsSame (is_input side way) x (inputs_from side es ns)
      (λ input.
      let into : IsFalse (is_output_at port n) = turns.0 ∙ ap not input in
      number_same (is_input side way) a x b input fit.0 fit.1 (quiet.0 into) (still.0 into) there.0 back.0)
      (port_same side port (suc n) es ns turns.1 fit.2 quiet.1 still.1 there.1 back.1))

  -- of the ports from place k on
  ports_same : (k : ℕ) (ps : List NetPort) → FromPlace net k ps → AreSilent false ps i → AreSilent false ps j
      → AllByRecursion (Agrees v w) (flat_map table.port_events ps) → AllByRecursion (Agrees w v) (flat_map table.port_events ps) → AllByRecursion IsSame (all_inputs ps)
  ports_same k [] from quiet still there back = tt
  ports_same k (p ∷ ps) from quiet still there back =
      let has = (from 0 p refl).1 in
      let first = all_front (Agrees v w) (table.port_events p) (flat_map table.port_events ps) there in
      let second = all_front (Agrees w v) (table.port_events p) (flat_map table.port_events ps) back in
      let here = port_same p.side (port_of p.side p.name) 0 (events p.ty) p.nets (turns_out net k p (this_place net k p ps from)) has.fits quiet.0 still.0
      (subst (AllByRecursion (Agrees v w)) has.nets first.0) (subst (AllByRecursion (Agrees w v)) has.nets second.0) in
      all_append IsSame (rules.inputs_of p) (all_inputs ps)
      (subst (AllByRecursion IsSame) (sym has.inputs) here)
      (ports_same (suc k) ps (next_place net k p ps from) quiet.1 still.1 first.1 second.1)

  -- each Input cell is given the same
  inputs_same : (accepted : IsAccepted net) → AllByRecursion (Agrees v w) (table.all_events net) → AllByRecursion (Agrees w v) (table.all_events net)
      → (n : ℕ) (c : Cell) → slice_get net.cells n ≡ Some c → c.gate ≡ Input → at i n ≡ at j n
  inputs_same accepted there back n c is gate =
      let all : All IsSame (all_inputs net.ports) = All-from_recursion IsSame (all_inputs net.ports) (ports_same 0 net.ports (from_first net accepted) one.clean.1 two.clean.1 there back) in
      elim (same_or_not (at i n) (at j n)) [
        | inl same ↦ same
        | inr differ ↦ absurd (accepted.ports.inputs n (c, is, gate, λ has. differ (All-contains IsSame (all_inputs net.ports) n all has)))
      ]

-- only an Input cell looks at its input
same_input : (w r i j : ℕ) (g : Function) (v : ℕ → ℕ) → (g ≡ Input → i ≡ j) → shown w g r j v ≡ shown w g r i v
same_input w r i j Input v same = sym (same refl)
same_input w r i j (Const k) v same = refl
same_input w r i j (Not a) v same = refl
same_input w r i j (And a b) v same = refl
same_input w r i j (Or a b) v same = refl
same_input w r i j (Xor a b) v same = refl
same_input w r i j (Mux s a b) v same = refl
same_input w r i j (Add a b) v same = refl
same_input w r i j (Sub a b) v same = refl
same_input w r i j (Eq a b) v same = refl
same_input w r i j (Less a b) v same = refl
same_input w r i j (Gate s a) v same = refl
same_input w r i j (Reg a) v same = refl

module _ (net : Netlist) (accepted : IsAccepted net) (regs : Numbers) where
  -- cycles with the same labels have the same values
  pub one_settling : (i v j w : Numbers) (came : List Label) → Settling net.cells regs i v → IsClean net i → Settling net.cells regs j w → IsClean net j
      → AnyOrder came (inputs net v) → AnyOrder came (inputs net w) → v ≡ w
  one_settling i v j w came settles quiet settled still order other =
      acyclic_settles_once net.cells regs i v w accepted.acyclic settles
      (settled.0, λ n c is. settled.1 n c is ∙ same_input c.width (at regs n) (at i n) (at j n) c.gate (at w) (same n c is))
    where
      outs : outputs net v ≡ outputs net w
      outs = outputs_are_held net regs i v accepted settles ∙ sym (outputs_are_held net regs j w accepted settled)

      there : (l : Label) → IsAmong l (pulses net.ports v) → IsAmong l (pulses net.ports w)
      there l = both_ways (pulses net.ports v) (pulses net.ports w) l (subst (IsAmong l) outs) (λ h. order_has l came (inputs net w) other (order_had l came (inputs net v) order h))

      back : (l : Label) → IsAmong l (pulses net.ports w) → IsAmong l (pulses net.ports v)
      back l = both_ways (pulses net.ports w) (pulses net.ports v) l (subst (IsAmong l) (sym outs)) (λ h. order_has l came (inputs net v) order (order_had l came (inputs net w) other h))

      same : (n : ℕ) (c : Cell) → slice_get net.cells n ≡ Some c → c.gate ≡ Input → at i n ≡ at j n
      same =
          inputs_same net regs i v j w (record { settles = settles; clean = quiet }) (record { settles = settled; clean = still }) accepted
          (all_agree net accepted v w there) (all_agree net accepted w v back)
