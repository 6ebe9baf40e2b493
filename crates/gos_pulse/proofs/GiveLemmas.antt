-- An entry that is tried: its pulse is given where the protocol allows it, and then its event is spent for the cycle.
use Rattle.std.proofs.Common.{◌≡◌, ◌⊎◌, inl, inr, ◌<◌, ◌^◌, ℕ, zero, suc, Bool, true, false, not, ◌&&◌, cond, List, [], ◌∷◌, ◌++◌, length, reverse, set, get_or, refl, sym, ap, subst, ◌∙◌, arith, Some, true≢false}
use Rattle.std.specs.Prelude.{slice_get, nat_eq}
use Rattle.std.proofs.lemmas.Option.{slice_get_within, slice_get-get_or, slice_get_read}
use Rattle.std.proofs.lemmas.List.{reverse-append, length-map, length-set}
use Rattle.gos_netlist.specs.declared.event.Event.{Event}
use Rattle.gos_netlist.specs.Nets.{Side, Give, Take, NetPort, Netlist}
use Rattle.gos_netlist.specs.Events.{is_input, events_of}
use Rattle.gos_types.specs.Events.{Direction}
use Rattle.gos_model.specs.Labels.{Port, Given, Taken, Label, is_answer}
use Rattle.gos_pace.specs.Flattening.{port_of, AnyOrder}
use Rattle.gos_model.specs.Protocol.{Allowed, is_open, same_port, shake_of}
use Rattle.gos_pace.specs.RunProtocol.{taken_by}
use Rattle.gos_sim.specs.declared.pulse.Pulse.{Pulse}
use Rattle.gos_pulse.specs.declared.board.Board.{Board}
use Rattle.gos_pulse.specs.declared.entries.Entry.{Entry}
use Rattle.gos_pulse.specs.declared.slots.Slot.{Slot}
use Rattle.gos_pulse.specs.Guarding.{inputs_of, Guards, IsLabel, IsValueOf}
use Rattle.gos_pulse.specs.Driving.{GivesInput, IsPulse}
use Rattle.gos_pulse.specs.inner.Slots.{AreSlots, number_of, label_of, labels_of, port_at}
use Rattle.gos_pulse.specs.inner.Board.{AreInRange, AreSpent, CanTry, IsSpent, IsTried, Rests, Stands}
use Rattle.gos_pulse.proofs.GuardLemmas.{event_from, of_way, placed, direction_at, given_way, taken_way, no_answer, an_answer, same_port-refl, same_port-is}
use Rattle.gos_pulse.proofs.OrderLemmas.{OneMore, one_more, any_insert}
use Rattle.gos_pulse.proofs.SlotLemmas.{way_there}

-- whether the surroundings give the answers of a port
abbrev is_taken : Side → Bool
is_taken Give = false
is_taken Take = true

-- an input event of a netlist
pub record IsInputEvent (net : Netlist) (event : Event) : Type 0 where
  pub port : NetPort
  pub at : slice_get net.ports event.port ≡ Some port
  pub answers : is_answer event.place ≡ is_taken port.side

answers_of : (side : Side) (way : Direction) (b : Bool) → way ≡ direction_at b → is_input side way ≡ true → b ≡ is_taken side
answers_of Give way b turn input = no_answer b (sym (given_way way input) ∙ turn)
answers_of Take way b turn input = an_answer b (sym (taken_way way input) ∙ turn)

input_event : (net : Netlist) (i : ℕ) (event : Event) → slice_get (events_of net) i ≡ Some event → event.input ≡ true → IsInputEvent net event
input_event net i event there input =
    let its = event_from 0 net.ports i event there in
    let place : its.index ≡ event.port = omega (arith, its.port_is) in
    record {
      port = its.port;
      at = ap (slice_get net.ports) (sym place) ∙ its.at;
      answers = answers_of its.port.side its.way (is_answer event.place) (placed its.port.ty event.place its.way its.number its.event).0 (sym its.input ∙ input);
    }

-- the events of inputs are input events
inputs_input : (net : Netlist) (k : ℕ) (event : Event) → slice_get (inputs_of net) k ≡ Some event → IsInputEvent net event
inputs_input net k event there =
    let one = of_way true (events_of net) k event there in
    input_event net one.0.0 event one.0.1 one.1

some_port : (net : Netlist) (k : ℕ) (p q : NetPort) → slice_get net.ports k ≡ Some p → slice_get net.ports k ≡ Some q → p ≡ q
some_port net k p q at_p at_q = cc

side_taken : Port → Bool
side_taken Given = false
side_taken (Taken x) = true

port_side : (side : Side) (name : List ℕ) → side_taken (port_of side name) ≡ is_taken side
unfolding side_taken
port_side Give name = refl
port_side Take name = refl

module _ (net : Netlist) (past : List Label) (l : Label) (event : Event) (its : IsInputEvent net event) (port_is : l.port ≡ port_of its.port.side its.port.name) (event_is : l.event ≡ event.place) where
  -- after its pulse an event is spent
  now_spent : IsSpent net (l ∷ past) event
  now_spent port at =
      let same : its.port ≡ port = some_port net event.port its.port port its.at at in
      let here : l.port ≡ port_of port.side port.name = port_is ∙ ap (λ (p : NetPort). port_of p.side p.name) same in
      let one : same_port l.port (port_of port.side port.name) ≡ true = ap (λ (p : Port). same_port l.port p) (sym here) ∙ same_port-refl l.port in
      let shake : nat_eq (shake_of l.event) (shake_of event.place) ≡ true = ap (λ (n : ℕ). nat_eq (shake_of l.event) (shake_of n)) (sym event_is) ∙ nat_eq_self (shake_of l.event) in
      ap (λ (c : Bool). cond (c && nat_eq (shake_of l.event) (shake_of event.place)) (not (is_answer l.event)) (is_open past (port_of port.side port.name) (shake_of event.place))) one
      ∙ ap (λ (c : Bool). cond c (not (is_answer l.event)) (is_open past (port_of port.side port.name) (shake_of event.place))) shake
      ∙ ap (λ (n : ℕ). not (is_answer n)) event_is
    where
      nat_eq_self : (n : ℕ) → nat_eq n n ≡ true
      nat_eq_self n = grind arith

  -- and an event that is spent stays so after the pulse of an input
  stays_spent : (other : Event) → IsInputEvent net other → IsSpent net past other → IsSpent net (l ∷ past) other
  stays_spent other others spent port at = by (same_port l.port (port_of port.side port.name)) refl
    where
      by : (b : Bool) → same_port l.port (port_of port.side port.name) ≡ b
          → cond (b && nat_eq (shake_of l.event) (shake_of other.place)) (not (is_answer l.event)) (is_open past (port_of port.side port.name) (shake_of other.place)) ≡ not (is_answer other.place)
      by false is = spent port at
      by true is = choose (nat_eq (shake_of l.event) (shake_of other.place))
        where
          same : l.port ≡ port_of port.side port.name
          same = same_port-is l.port (port_of port.side port.name) is

          sides : is_taken its.port.side ≡ is_taken port.side
          sides = sym (port_side its.port.side its.port.name) ∙ ap side_taken (sym port_is ∙ same) ∙ port_side port.side port.name

          one_way : is_answer l.event ≡ is_answer other.place
          one_way =
              ap is_answer event_is ∙ its.answers ∙ sides
              ∙ ap (λ (p : NetPort). is_taken p.side) (some_port net other.port port others.port at others.at) ∙ sym others.answers

          choose : (c : Bool) → cond c (not (is_answer l.event)) (is_open past (port_of port.side port.name) (shake_of other.place)) ≡ not (is_answer other.place)
          choose true = ap not one_way
          choose false = spent port at

  -- no pulse of a spent event may come
  none_of_spent : IsSpent net past event → Allowed (taken_by net.ports) past l.port l.event l.value → ⊥
  none_of_spent spent allowed = by its.port.side refl (subst (λ (p : Port). Allowed (taken_by net.ports) past p l.event l.value) port_is allowed) (spent its.port its.at)
    where
      by : (s : Side) → its.port.side ≡ s → Allowed (taken_by net.ports) past (port_of s its.port.name) l.event l.value
          → is_open past (port_of s its.port.name) (shake_of event.place) ≡ not (is_answer event.place) → ⊥
      by Give is allowed spent =
          let first : event.place ≡ 0 = sym event_is ∙ allowed.0 in
          let answers : is_answer event.place ≡ false = its.answers ∙ ap is_taken is in
          true≢false (sym (ap not answers) ∙ sym spent ∙ ap (λ (n : ℕ). is_open past Given (shake_of n)) first ∙ allowed.2)
      by Take is allowed spent =
          let answers : is_answer event.place ≡ true = its.answers ∙ ap is_taken is in
          let opened : is_open past (Taken its.port.name) (shake_of event.place) ≡ true = ap (λ (n : ℕ). is_open past (Taken its.port.name) (shake_of n)) (sym event_is) ∙ allowed.1 in
          true≢false (sym opened ∙ spent ∙ ap not answers)

-- an element of a list with one element changed
of_set : {X : Type 0} (xs : List X) (i k : ℕ) (y z : X) → slice_get (set xs i y) k ≡ Some z → ((k ≡ i) × (z ≡ y)) ⊎ (slice_get xs k ≡ Some z)
of_set [] i k y z h = inr h
of_set (x ∷ xs) zero zero y z h = inl (refl, cc)
of_set (x ∷ xs) zero (suc k) y z h = inr h
of_set (x ∷ xs) (suc i) zero y z h = inr h
of_set (x ∷ xs) (suc i) (suc k) y z h = elim (of_set xs i k y z h) [ inl p ↦ inl (ap suc p.0, p.1) | inr p ↦ inr p ]

-- the event that an entry gives, and its slot
pub record IsKnownEntry (net : Netlist) (entry : Entry) (slot : Slot) : Type 0 where
  pub event : Event
  pub there : slice_get (events_of net) entry.event ≡ Some event
  pub among : slice_get (inputs_of net) slot.place ≡ Some event
  pub fits : entry.value < 2 ^ event.bits
  pub its : IsInputEvent net event

module _ (net : Netlist) (past : List Label) (board : Board) (entry : Entry) (rests : Rests net past board) where
  pub entry_within : GivesInput net entry → entry.event < length board.slots.items
  entry_within gives = omega (arith, slice_get_within (events_of net) entry.event gives.event gives.there, rests.slots.each)

  pub entry_known : (slot : Slot) → GivesInput net entry → slice_get board.slots.items entry.event ≡ Some slot → IsKnownEntry net entry slot
  entry_known slot gives at_slot =
      let place : slot.place ≡ number_of true (events_of net) entry.event =
      rests.slots.place entry.event gives.event slot gives.there at_slot ∙ ap (λ (b : Bool). number_of b (events_of net) entry.event) gives.input in
      record {
        event = gives.event;
        there = gives.there;
        among = ap (slice_get (inputs_of net)) place ∙ way_there true (events_of net) entry.event gives.event gives.there gives.input;
        fits = gives.fits;
        its = input_event net entry.event gives.event gives.there gives.input;
      }

  -- the numbers of the entry's input are within bounds
  pub known_within : (slot : Slot) → IsKnownEntry net entry slot → (slot.place < length board.guard.inputs.items) × (slot.place < length board.inputs.items)
  known_within slot known =
      let within : slot.place < length (inputs_of net) = slice_get_within (inputs_of net) slot.place known.event known.among in
      let halves : length board.guard.inputs.items ≡ length (inputs_of net) = ap length rests.guards.inputs ∙ length-map (inputs_of net) _ in
      (omega (arith, within, halves), omega (arith, within, rests.inputs))

pub known_slot : (net : Netlist) (past given : List Label) (board : Board) (entry : Entry) (slot : Slot) → Stands net past given board → GivesInput net entry → slot ≡ get_or board.slots.items entry.event slot → IsKnownEntry net entry slot
known_slot net past given board entry slot stands gives is =
    entry_known net (reverse given ++ past) board entry stands.rests slot gives
    (slice_get_read board.slots.items (length board.slots.items) entry.event slot refl (entry_within net (reverse given ++ past) board entry stands.rests gives) is)

-- the numbers of an entry that may be tried are within bounds
pub bounds : (board : Board) (entry : Entry) (slot : Slot) → CanTry board entry → slot ≡ get_or board.slots.items entry.event slot → (slot.place < length board.guard.inputs.items) × (slot.place < length board.inputs.items)
bounds board entry slot can is =
    let stands = can.1.2 in
    known_within can.0 (reverse can.1.1 ++ can.1.0) board entry stands.rests slot (known_slot can.0 can.1.0 can.1.1 board entry slot stands can.2 is)

module _ (net : Netlist) (past given : List Label) (board : Board) (entry : Entry) (slot : Slot) (stands : Stands net past given board) (known : IsKnownEntry net entry slot) where
  -- the label of the entry's pulse
  abbrev its_label : Label
  its_label = record { port = port_of known.its.port.side known.its.port.name; event = known.event.place; value = entry.value }

  its_pulse : IsPulse net entry.event entry.value its_label
  its_pulse = record { event = known.event; port = known.its.port; there = known.there; at = known.its.at; is = refl }

  label_known : IsLabel net (inputs_of net) slot.place its_label
  label_known = record { event = known.event; port = known.its.port; there = known.among; at = known.its.at; port_is = refl; event_is = refl }

  value_known : IsValueOf (inputs_of net) slot.place entry.value
  value_known event at = let same : known.event ≡ event = same_some (inputs_of net) slot.place known.event event known.among at in subst (λ (e : Event). entry.value < 2 ^ e.bits) same known.fits
    where
      same_some : (es : List Event) (k : ℕ) (a b : Event) → slice_get es k ≡ Some a → slice_get es k ≡ Some b → a ≡ b
      same_some es k a b at_a at_b = cc

  label_after : reverse (given ++ its_label ∷ []) ++ past ≡ its_label ∷ (reverse given ++ past)
  label_after = ap (λ (ls : List Label). ls ++ past) (reverse-append given (its_label ∷ []))

  -- any label of the entry's pulse is this one
  pulse_known : (l : Label) → IsPulse net entry.event entry.value l → l ≡ its_label
  pulse_known l pulse =
      let event : pulse.event ≡ known.event = same_event pulse.event known.event pulse.there known.there in
      let at : slice_get net.ports known.event.port ≡ Some pulse.port = ap (λ (e : Event). slice_get net.ports e.port) (sym event) ∙ pulse.at in
      let port : pulse.port ≡ known.its.port = some_port net known.event.port pulse.port known.its.port at known.its.at in
      pulse.is ∙ (λ i. record { port = port_of (port i).side (port i).name; event = (event i).place; value = entry.value })
    where
      same_event : (a b : Event) → slice_get (events_of net) entry.event ≡ Some a → slice_get (events_of net) entry.event ≡ Some b → a ≡ b
      same_event a b at_a at_b = cc

  -- the guard doesn't allow it
  pub refused : ((l : Label) → IsLabel net (inputs_of net) slot.place l → IsValueOf (inputs_of net) slot.place l.value → Allowed (taken_by net.ports) (reverse given ++ past) l.port l.event l.value → ⊥) → IsTried net past given entry false board
  refused forbids = (
    λ l may.
        forbids its_label label_known value_known
        (subst (λ (k : Label). Allowed (taken_by net.ports) (reverse given ++ past) k.port k.event k.value) (pulse_known l may.0) may.1),
    stands,
  )

  -- the guard allows it
  pub gave : ((l : Label) → IsLabel net (inputs_of net) slot.place l → IsValueOf (inputs_of net) slot.place l.value → Allowed (taken_by net.ports) (reverse given ++ past) l.port l.event l.value)
      → (new : Board) → new.slots.items ≡ board.slots.items → length new.outputs.items ≡ length board.outputs.items → new.inputs.items ≡ set board.inputs.items slot.place (record { on = true; value = entry.value })
      → ((l : Label) → IsLabel net (inputs_of net) slot.place l → Guards net (l ∷ (reverse given ++ past)) new.guard)
      → IsTried net past given entry true new
  gave allows new slots outputs inputs guards = (its_label, (its_pulse, may), after)
    where
      now : List Label
      now = reverse given ++ past

      may : Allowed (taken_by net.ports) (reverse given ++ past) its_label.port its_label.event its_label.value
      may = allows its_label label_known value_known

      on : Pulse
      on = record { on = true; value = entry.value }

      within : slot.place < length board.inputs.items
      within = (known_within net (reverse given ++ past) board entry stands.rests slot known).1

      old : Pulse
      old = get_or board.inputs.items slot.place (record { on = false; value = 0 })

      at_old : slice_get board.inputs.items slot.place ≡ Some (get_or board.inputs.items slot.place (record { on = false; value = 0 }))
      at_old = slice_get-get_or board.inputs.items slot.place (record { on = false; value = 0 }) within

      off : (get_or board.inputs.items slot.place (record { on = false; value = 0 })).on ≡ false
      off = by (get_or board.inputs.items slot.place (record { on = false; value = 0 })).on refl
        where
          by : (b : Bool) → (get_or board.inputs.items slot.place (record { on = false; value = 0 })).on ≡ b → b ≡ false
          by false is = refl
          by true is =
              absurd (none_of_spent net (reverse given ++ past) its_label known.event known.its refl refl
              (stands.spent slot.place known.event (get_or board.inputs.items slot.place (record { on = false; value = 0 })) known.among at_old is) may)

      more : OneMore net.ports (inputs_of net) board.inputs.items slot.place known.event entry.value
      more = one_more net.ports (inputs_of net) board.inputs.items slot.place known.event (get_or board.inputs.items slot.place (record { on = false; value = 0 })) entry.value known.among at_old off

      label_is : label_of net.ports known.event entry.value ≡ its_label
      label_is = λ i. record { port = port_at (known.its.at i); event = known.event.place; value = entry.value }

      order : AnyOrder (given ++ its_label ∷ []) (labels_of net.ports (inputs_of net) new.inputs.items)
      order =
          let before : AnyOrder given (more.front ++ more.back) = subst (AnyOrder given) more.old stands.order in
          subst (AnyOrder (given ++ its_label ∷ []))
          (ap (λ (l : Label). more.front ++ l ∷ more.back) (sym label_is) ∙ sym more.new ∙ ap (labels_of net.ports (inputs_of net)) (sym inputs))
          (any_insert given more.front more.back its_label before)

      its_event : (k : ℕ) (e : Event) → slice_get (inputs_of net) k ≡ Some e → k ≡ slot.place → known.event ≡ e
      its_event k e at_e same =
          let both : Some known.event ≡ Some e = sym known.among ∙ ap (slice_get (inputs_of net)) (sym same) ∙ at_e in
          cc

      changed : (k : ℕ) (p : Pulse) → slice_get new.inputs.items k ≡ Some p → ((k ≡ slot.place) × (p ≡ record { on = true; value = entry.value })) ⊎ (slice_get board.inputs.items k ≡ Some p)
      changed k p at_p = of_set board.inputs.items slot.place k (record { on = true; value = entry.value }) p (ap (λ (ps : List Pulse). slice_get ps k) (sym inputs) ∙ at_p)

      in_range : AreInRange (inputs_of net) new.inputs.items
      in_range k e p at_e at_p =
          elim (changed k p at_p) [
            | inl here ↦
                let fits : entry.value < 2 ^ e.bits = subst (λ (x : Event). entry.value < 2 ^ x.bits) (its_event k e at_e here.0) known.fits in
                (subst (λ (q : Pulse). q.value < 2 ^ e.bits) (sym here.1) fits, λ off. absurd (true≢false (sym (ap (λ (q : Pulse). q.on) here.1) ∙ off)))
            | inr there ↦ stands.in_range k e p at_e there
          ]

      spent : AreSpent net (its_label ∷ (reverse given ++ past)) new.inputs.items
      spent k e p at_e at_p is_on =
          elim (changed k p at_p) [
            | inl here ↦ subst (IsSpent net (its_label ∷ (reverse given ++ past))) (its_event k e at_e here.0) (now_spent net (reverse given ++ past) its_label known.event known.its refl refl)
            | inr there ↦
                stays_spent net (reverse given ++ past) its_label known.event known.its refl refl e (inputs_input net k e at_e) (stands.spent k e p at_e there is_on)
          ]

      rests : Rests net (its_label ∷ (reverse given ++ past)) new
      rests =
          record {
            slots = subst (AreSlots (events_of net)) (sym slots) stands.rests.slots;
            guards = guards its_label label_known;
            inputs = ap length inputs ∙ length-set board.inputs.items slot.place (record { on = true; value = entry.value }) ∙ stands.rests.inputs;
            outputs = outputs ∙ stands.rests.outputs;
          }

      after : Stands net past (given ++ its_label ∷ []) new
      after =
          record {
            rests = subst (λ (ls : List Label). Rests net ls new) (sym label_after) rests;
            in_range = in_range;
            order = order;
            spent = subst (λ (ls : List Label). AreSpent net ls new.inputs.items) (sym label_after) spent;
          }
