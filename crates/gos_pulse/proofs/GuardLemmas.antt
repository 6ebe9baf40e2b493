-- What a pulse changes of the open handshakes, and that the guard's test is the protocol.
use Rattle.std.proofs.Common.{◌≡◌, ℕ, zero, suc, ◌+◌, ◌^◌, ◌<◌, ◌&&◌, Bool, true, false, not, cond, List, [], ◌∷◌, ◌++◌, length, get_or, set, ◌≢◌, refl, sym, ◌∙◌, ap, subst, arith, inl, inr, ◌⊎◌, true≢false, Option, Some, None, IsTrue, take, append-nil, map}
use Rattle.std.specs.Prelude.{slice_get, nat_eq, ◌↔◌, replicate}
use Rattle.std.specs.Str.{bytes_eq}
use Rattle.std.specs.Option.{option_map}
use Rattle.std.proofs.lemmas.Option.{slice_get_within, get_or_from_slice_get, slice_get-get_or, slice_get-map}
use Rattle.std.proofs.lemmas.List.{get_or-set_same, get_or-set_other, length-set, take_more, get_or-replicate, length-replicate, map-append}
use Rattle.std.proofs.lemmas.Slice.Eq.{bytes_eq-Decides}
use Rattle.gos_types.specs.Types.{Type', Com, Exp, Var, Pair, Fun, IsDone}
use Rattle.gos_netlist.specs.declared.event.Event as seen
use Rattle.gos_netlist.specs.Nets.{Side, Give, Take, NetPort, Netlist}
use Rattle.gos_netlist.specs.Events.{is_input, port_events, events_from, events_of}
use Rattle.gos_types.specs.Events.{Direction, Request, Answer, Event, Is, bits_of, events}
use Rattle.gos_model.specs.Typing.{import_type}
use Rattle.gos_model.specs.Labels.{Port, Given, Taken, Label, is_answer}
use Rattle.gos_pace.specs.Flattening.{port_of}
use Rattle.gos_model.specs.Protocol.{shake_of, same_port, is_open, event_of, FitsAnswer, Allowed}
use Rattle.gos_pace.specs.RunProtocol.{with_side, taken_by}
use Rattle.gos_pulse.specs.Guarding.{goes, events_way, halves_of, half_of, is_second, PortsDiffer, HasPorts, IsLabel, IsValueOf, Guards}
use Rattle.gos_pulse.specs.declared.guard.Half.{Half}
use Rattle.gos_pulse.specs.declared.guard.Guard.{Guard}

-- what an event of ports is: the port at its place, and its direction there
pub record IsEventOf (ports : List NetPort) (k : ℕ) (e : seen.Event) : Type 0 where
  pub index : ℕ
  pub port : NetPort
  pub way : Direction
  pub number : Option ℕ
  pub port_is : e.port ≡ k + index
  pub at : slice_get ports index ≡ Some port
  pub event : slice_get (events port.ty) e.place ≡ Some (Is way number)
  pub bits : e.bits ≡ bits_of number
  pub input : e.input ≡ is_input port.side way

-- an element of two lists is one of the first or one of the second
of_either : {X : Type 0} (xs ys : List X) (i : ℕ) (x : X) → slice_get (xs ++ ys) i ≡ Some x → (slice_get xs i ≡ Some x) ⊎ ((j : ℕ) × (slice_get ys j ≡ Some x))
of_either [] ys i x h = inr (i, h)
of_either (y ∷ xs) ys zero x h = inl h
of_either (y ∷ xs) ys (suc i) x h = of_either xs ys i x h

-- an event of one port
pub record IsPortEvent (k : ℕ) (side : Side) (n : ℕ) (es : List Event) (e : seen.Event) : Type 0 where
  pub index : ℕ
  pub way : Direction
  pub number : Option ℕ
  pub port_is : e.port ≡ k
  pub place_is : e.place ≡ n + index
  pub event : slice_get es index ≡ Some (Is way number)
  pub bits : e.bits ≡ bits_of number
  pub input : e.input ≡ is_input side way

port_event : (k : ℕ) (side : Side) (n : ℕ) (es : List Event) (i : ℕ) (e : seen.Event) → slice_get (port_events k side n es) i ≡ Some e → IsPortEvent k side n es e
port_event k side n [] i e h = let wrong : None ≡ Some e = h in absurd cc
port_event k side n (Is way number ∷ es) zero e h =
    let one : seen.Event = record { port = k; place = n; input = is_input side way; bits = bits_of number } in
    let same : one ≡ e = cc in
    subst (λ (x : seen.Event). IsPortEvent k side n (Is way number ∷ es) x) same
    (record { index = 0; way = way; number = number; port_is = refl; place_is = omega arith; event = refl; bits = refl; input = refl })
port_event k side n (Is way number ∷ es) (suc i) e h =
    let later = port_event k side (suc n) es i e h in
    record { index = suc later.index; way = later.way; number = later.number; port_is = later.port_is; place_is = omega (arith, later.place_is); event = later.event; bits = later.bits; input = later.input }

-- an event of ports, and what it is there
pub event_from : (k : ℕ) (ports : List NetPort) (i : ℕ) (e : seen.Event) → slice_get (events_from k ports) i ≡ Some e → IsEventOf ports k e
event_from k [] i e h = let wrong : None ≡ Some e = h in absurd cc
event_from k (p ∷ ps) i e h =
    elim (of_either (port_events k p.side 0 (events p.ty)) (events_from (suc k) ps) i e h) [
      | inl here ↦
          let known = port_event k p.side 0 (events p.ty) i e here in
          let place : known.index ≡ e.place = omega (arith, known.place_is) in
          record { index = 0; port = p; way = known.way; number = known.number; port_is = omega (arith, known.port_is); at = refl; event = ap (slice_get (events p.ty)) (sym place) ∙ known.event; bits = known.bits; input = known.input }
      | inr later ↦
          let known = event_from (suc k) ps later.0 e later.1 in
          record { index = suc known.index; port = known.port; way = known.way; number = known.number; port_is = omega (arith, known.port_is); at = known.at; event = known.event; bits = known.bits; input = known.input }
    ]

-- an event of one way is an event, and goes that way
pub of_way : (inputs : Bool) (all : List seen.Event) (i : ℕ) (e : seen.Event) → slice_get (events_way inputs all) i ≡ Some e → ((j : ℕ) × (slice_get all j ≡ Some e)) × (goes inputs e ≡ true)
of_way inputs [] i e h = let wrong : None ≡ Some e = h in absurd cc
of_way inputs (x ∷ all) i e h = by (goes inputs x) refl i h (λ j. of_way inputs all j e)
  where
    by : (b : Bool) → goes inputs x ≡ b → (i : ℕ) → slice_get (cond b (x ∷ events_way inputs all) (events_way inputs all)) i ≡ Some e → ((j : ℕ) → slice_get (events_way inputs all) j ≡ Some e → ((k : ℕ) × (slice_get all k ≡ Some e)) × (goes inputs e ≡ true)) → ((j : ℕ) × (slice_get (x ∷ all) j ≡ Some e)) × (goes inputs e ≡ true)
    by true is zero h rest = let same : x ≡ e = cc in ((0, h), ap (goes inputs) (sym same) ∙ is)
    by true is (suc i) h rest = let known = rest i h in ((suc known.0.0, known.0.1), known.1)
    by false is i h rest = let known = rest i h in ((suc known.0.0, known.0.1), known.1)

-- the halves stand as the events do
half_there : (inputs : Bool) (all : List seen.Event) (i : ℕ) (e : seen.Event) → slice_get (events_way inputs all) i ≡ Some e → slice_get (halves_of inputs all) i ≡ Some (half_of e)
half_there inputs all i e h = slice_get-map half_of (events_way inputs all) i ∙ ap (option_map half_of) h

-- the direction of an event
abbrev direction_of : Event → Direction
direction_of (Is way number) = way

-- the direction of the event at a place
abbrev pub direction_at : Bool → Direction
direction_at true = Answer
direction_at false = Request

-- its handshake within its port, and its direction
abbrev IsPlaced : ℕ → Direction → Type 0
IsPlaced n way = (way ≡ direction_at (is_answer n)) × (shake_of n ≡ cond (is_second n) 1 0)

its_way : (one : Event) (way : Direction) (number : Option ℕ) → Some one ≡ Some (Is way number) → way ≡ direction_of one
its_way one way number h = let same : one ≡ Is way number = cc in ap direction_of (sym same)

pub no_event : {X : Type 0} (way : Direction) (number : Option ℕ) → None ≡ Some (Is way number) → X
no_event way number h = absurd cc

pub placed : (ty : Type') (n : ℕ) (way : Direction) (number : Option ℕ) → slice_get (events ty) n ≡ Some (Is way number) → IsPlaced n way
placed Com zero way number h = (its_way (Is Request None) way number h, refl)
placed Com (suc zero) way number h = (its_way (Is Answer None) way number h, refl)
placed Com (suc (suc n)) way number h = no_event way number h
placed (Exp w) zero way number h = (its_way (Is Request None) way number h, refl)
placed (Exp w) (suc zero) way number h = (its_way (Is Answer (Some w)) way number h, refl)
placed (Exp w) (suc (suc n)) way number h = no_event way number h
placed (Var w) zero way number h = (its_way (Is Request None) way number h, refl)
placed (Var w) (suc zero) way number h = (its_way (Is Answer (Some w)) way number h, refl)
placed (Var w) (suc (suc zero)) way number h = (its_way (Is Request (Some w)) way number h, refl)
placed (Var w) (suc (suc (suc zero))) way number h = (its_way (Is Answer None) way number h, refl)
placed (Var w) (suc (suc (suc (suc n)))) way number h = no_event way number h
placed (Pair a b) n way number h = no_event way number h
placed (Fun a b) n way number h = no_event way number h

pub same_port-refl : (x : Port) → same_port x x ≡ true
same_port-refl Given = refl
same_port-refl (Taken x) = (bytes_eq-Decides x x).1 refl

pub same_port-is : (x y : Port) → same_port x y ≡ true → x ≡ y
same_port-is Given Given h = refl
same_port-is Given (Taken y) h = absurd (true≢false (sym h))
same_port-is (Taken x) Given h = absurd (true≢false (sym h))
same_port-is (Taken x) (Taken y) h = ap Taken ((bytes_eq-Decides x y).0 h)

module _ (ports : List NetPort) (past : List Label) (k i : ℕ) (p q : NetPort) (l : Label) where
  -- the flag of the handshake that a pulse belongs to follows the pulse
  changed_flag : (flags : List Bool) (h : ℕ) → PortsDiffer ports → slice_get ports k ≡ Some p → slice_get ports i ≡ Some q → length flags ≡ length ports → l.port ≡ port_of p.side p.name → nat_eq (shake_of l.event) h ≡ true → get_or flags i false ≡ is_open past (port_of q.side q.name) h → get_or (set flags k (not (is_answer l.event))) i false ≡ is_open (l ∷ past) (port_of q.side q.name) h
  changed_flag flags h differ at_k at_i each port_is shake old = by (same_port l.port (port_of q.side q.name)) refl
    where
      by : (b : Bool) → same_port l.port (port_of q.side q.name) ≡ b → get_or (set flags k (not (is_answer l.event))) i false ≡ cond (b && nat_eq (shake_of l.event) h) (not (is_answer l.event)) (is_open past (port_of q.side q.name) h)
      by true is =
          let one : k ≡ i = differ k i p q at_k at_i (sym port_is ∙ same_port-is l.port (port_of q.side q.name) is) in
          let within : k < length flags = subst (λ (n : ℕ). k < n) (sym each) (slice_get_within ports k p at_k) in
          let here : get_or (set flags k (not (is_answer l.event))) k false ≡ not (is_answer l.event) = get_or-set_same flags k (not (is_answer l.event)) false within in
          subst (λ (n : ℕ). get_or (set flags k (not (is_answer l.event))) n false ≡ not (is_answer l.event)) one here
          ∙ sym (ap (λ (c : Bool). cond c (not (is_answer l.event)) (is_open past (port_of q.side q.name) h)) shake)
      by false is =
          let apart : i ≢ k = λ same.
          let one : Some q ≡ Some p = sym at_i ∙ ap (slice_get ports) same ∙ at_k in
          let equal : q ≡ p = cc in
          true≢false (sym (same_port-refl (port_of q.side q.name)) ∙ ap (λ (x : Port). same_port x (port_of q.side q.name)) (ap (λ (r : NetPort). port_of r.side r.name) equal ∙ sym port_is) ∙ is) in
          get_or-set_other flags k i (not (is_answer l.event)) false apart ∙ old

  -- and the other handshakes stay as they are
  kept_flag : (h : ℕ) → nat_eq (shake_of l.event) h ≡ false → is_open past (port_of q.side q.name) h ≡ is_open (l ∷ past) (port_of q.side q.name) h
  kept_flag h shake = by (same_port l.port (port_of q.side q.name))
    where
      by : (b : Bool) → is_open past (port_of q.side q.name) h ≡ cond (b && nat_eq (shake_of l.event) h) (not (is_answer l.event)) (is_open past (port_of q.side q.name) h)
      by true = sym (ap (λ (c : Bool). cond c (not (is_answer l.event)) (is_open past (port_of q.side q.name) h)) shake)
      by false = refl

-- what is known of a label of an event
pub record IsKnown (net : Netlist) (inputs : Bool) (i : ℕ) (l : Label) (half : Half) : Type 0 where
  pub event : seen.Event
  pub port : NetPort
  pub way : Direction
  pub at : slice_get net.ports event.port ≡ Some port
  pub port_is : l.port ≡ port_of port.side port.name
  pub event_is : l.event ≡ event.place
  pub there : slice_get (events_way inputs (events_of net)) i ≡ Some event
  pub number : Option ℕ
  pub is : slice_get (events port.ty) event.place ≡ Some (Is way number)
  pub bits : event.bits ≡ bits_of number
  pub input : event.input ≡ is_input port.side way
  pub goes_its_way : goes inputs event ≡ true
  pub half_is : half ≡ half_of event

known : (net : Netlist) (inputs : Bool) (i : ℕ) (l : Label) (half : Half) → IsLabel net (events_way inputs (events_of net)) i l → half ≡ get_or (halves_of inputs (events_of net)) i half → IsKnown net inputs i l half
known net inputs i l half label half_is =
    let one = of_way inputs (events_of net) i label.event label.there in
    let its = event_from 0 net.ports one.0.0 label.event one.0.1 in
    let place : its.index ≡ label.event.port = omega (arith, its.port_is) in
    let same_port_is : Some its.port ≡ Some label.port = sym its.at ∙ ap (slice_get net.ports) place ∙ label.at in
    let equal : its.port ≡ label.port = cc in
    let half_at : get_or (halves_of inputs (events_of net)) i half ≡ half_of label.event = get_or_from_slice_get (halves_of inputs (events_of net)) i (half_of label.event) half (half_there inputs (events_of net) i label.event label.there) in
    record {
      event = label.event;
      port = label.port;
      way = its.way;
      number = its.number;
      at = label.at;
      port_is = label.port_is;
      event_is = label.event_is;
      there = label.there;
      is = subst (λ (p : NetPort). slice_get (events p.ty) label.event.place ≡ Some (Is its.way its.number)) equal its.event;
      bits = its.bits;
      input = subst (λ (p : NetPort). label.event.input ≡ is_input p.side its.way) equal its.input;
      goes_its_way = one.1;
      half_is = half_is ∙ half_at;
    }

module _ (net : Netlist) (past : List Label) (l : Label) (inputs : Bool) (i : ℕ) (half : Half) where
  -- after a pulse of the i-th event of one way, a guard knows the handshakes that are open then
  pub saw : (old new : Guard) → HasPorts net → Guards net past old → IsLabel net (events_way inputs (events_of net)) i l → half ≡ get_or (halves_of inputs (events_of net)) i half → new.inputs.items ≡ old.inputs.items → new.outputs.items ≡ old.outputs.items → new.flags.first.items ≡ cond half.second old.flags.first.items (set old.flags.first.items half.port half.request) → new.flags.second.items ≡ cond half.second (set old.flags.second.items half.port half.request) old.flags.second.items → Guards net (l ∷ past) new
  saw old new has guards label half_is same_inputs same_outputs first_is second_is =
      let its = known net inputs i l half label half_is in
      let its_place : IsPlaced its.event.place its.way = placed its.port.ty its.event.place its.way its.number its.is in
      by its (is_second its.event.place) refl its_place.1
    where
      by : (its : IsKnown net inputs i l half) (b : Bool) → is_second its.event.place ≡ b → shake_of its.event.place ≡ cond (is_second its.event.place) 1 0 → Guards net (l ∷ past) new
      by its false is shake =
          let second : half.second ≡ false = ap (λ (h : Half). h.second) its.half_is ∙ is in
          let port : half.port ≡ its.event.port = ap (λ (h : Half). h.port) its.half_is in
          let request : half.request ≡ not (is_answer l.event) = ap (λ (h : Half). h.request) its.half_is ∙ ap (λ (n : ℕ). not (is_answer n)) (sym its.event_is) in
          let zero_is : shake_of l.event ≡ 0 = ap shake_of its.event_is ∙ shake ∙ ap (λ (c : Bool). cond c 1 0) is in
          let new_first : new.flags.first.items ≡ set old.flags.first.items its.event.port (not (is_answer l.event)) =
          first_is ∙ ap (λ (c : Bool). cond c old.flags.first.items (set old.flags.first.items half.port half.request)) second ∙ (λ j. set old.flags.first.items (port j) (request j)) in
          let new_second : new.flags.second.items ≡ old.flags.second.items =
          second_is ∙ ap (λ (c : Bool). cond c (set old.flags.second.items half.port half.request) old.flags.second.items) second in
          record {
            inputs = same_inputs ∙ guards.inputs;
            outputs = same_outputs ∙ guards.outputs;
            first_each = ap length new_first ∙ length-set old.flags.first.items its.event.port (not (is_answer l.event)) ∙ guards.first_each;
            second_each = ap length new_second ∙ guards.second_each;
            first = λ n q at. ap (λ (flags : List Bool). get_or flags n false) new_first
                ∙ changed_flag net.ports past its.event.port n its.port q l old.flags.first.items 0 has.differ its.at at guards.first_each its.port_is (ap (λ (m : ℕ). nat_eq m 0) zero_is) (guards.first n q at);
            second = λ n q at. ap (λ (flags : List Bool). get_or flags n false) new_second ∙ guards.second n q at
                ∙ kept_flag net.ports past its.event.port n its.port q l 1 (ap (λ (m : ℕ). nat_eq m 1) zero_is);
          }
      by its true is shake =
          let second : half.second ≡ true = ap (λ (h : Half). h.second) its.half_is ∙ is in
          let port : half.port ≡ its.event.port = ap (λ (h : Half). h.port) its.half_is in
          let request : half.request ≡ not (is_answer l.event) = ap (λ (h : Half). h.request) its.half_is ∙ ap (λ (n : ℕ). not (is_answer n)) (sym its.event_is) in
          let one_is : shake_of l.event ≡ 1 = ap shake_of its.event_is ∙ shake ∙ ap (λ (c : Bool). cond c 1 0) is in
          let new_first : new.flags.first.items ≡ old.flags.first.items =
          first_is ∙ ap (λ (c : Bool). cond c old.flags.first.items (set old.flags.first.items half.port half.request)) second in
          let new_second : new.flags.second.items ≡ set old.flags.second.items its.event.port (not (is_answer l.event)) =
          second_is ∙ ap (λ (c : Bool). cond c (set old.flags.second.items half.port half.request) old.flags.second.items) second ∙ (λ j. set old.flags.second.items (port j) (request j)) in
          record {
            inputs = same_inputs ∙ guards.inputs;
            outputs = same_outputs ∙ guards.outputs;
            first_each = ap length new_first ∙ guards.first_each;
            second_each = ap length new_second ∙ length-set old.flags.second.items its.event.port (not (is_answer l.event)) ∙ guards.second_each;
            first = λ n q at. ap (λ (flags : List Bool). get_or flags n false) new_first ∙ guards.first n q at
                ∙ kept_flag net.ports past its.event.port n its.port q l 0 (ap (λ (m : ℕ). nat_eq m 0) one_is);
            second = λ n q at. ap (λ (flags : List Bool). get_or flags n false) new_second
                ∙ changed_flag net.ports past its.event.port n its.port q l old.flags.second.items 1 has.differ its.at at guards.second_each its.port_is (ap (λ (m : ℕ). nat_eq m 1) one_is) (guards.second n q at);
          }

request_no_answer : Request ≡ Answer → ⊥
request_no_answer h = absurd cc

abbrev bits_in : Event → ℕ
bits_in (Is way number) = bits_of number

its_bits : (one : Event) (way : Direction) (number : Option ℕ) → Some one ≡ Some (Is way number) → bits_of number ≡ bits_in one
its_bits one way number h = let same : one ≡ Is way number = cc in ap bits_in (sym same)

-- a request at a port that gives a command or an expression is its first event, and has no number
first_request : (ty : Type') (n : ℕ) (number : Option ℕ) → IsDone ty → slice_get (events ty) n ≡ Some (Is Request number) → (n ≡ 0) × (bits_of number ≡ 0)
first_request Com zero number done h = (refl, its_bits (Is Request None) Request number h)
first_request Com (suc zero) number done h = absurd (request_no_answer (its_way (Is Answer None) Request number h))
first_request Com (suc (suc n)) number done h = no_event Request number h
first_request (Exp w) zero number done h = (refl, its_bits (Is Request None) Request number h)
first_request (Exp w) (suc zero) number done h = absurd (request_no_answer (its_way (Is Answer (Some w)) Request number h))
first_request (Exp w) (suc (suc n)) number done h = no_event Request number h
first_request (Var w) n number done h = absurd done
first_request (Pair a b) n number done h = absurd done
first_request (Fun a b) n number done h = absurd done

rest_differ : (q : NetPort) (ports : List NetPort) → PortsDiffer (q ∷ ports) → PortsDiffer ports
rest_differ q ports differ = λ i j p r at_i at_j same.
    let both : suc i ≡ suc j = differ (suc i) (suc j) p r at_i at_j same in
    omega (arith, both)

-- a port before another one doesn't hide it
not_hidden : (q p : NetPort) (ports : List NetPort) (k : ℕ) → PortsDiffer (q ∷ ports) → slice_get ports k ≡ Some p → p.side ≡ Take → (s : Side) → q.side ≡ s → import_type (taken_by ports) p.name ≡ Some p.ty → import_type (with_side s q (taken_by ports)) p.name ≡ Some p.ty
not_hidden q p ports k differ at taken Give is rest = rest
not_hidden q p ports k differ at taken Take is rest = by (bytes_eq q.name p.name) refl
  where
    by : (b : Bool) → bytes_eq q.name p.name ≡ b → cond b (Some q.ty) (import_type (taken_by ports) p.name) ≡ Some p.ty
    by true same =
        let name : q.name ≡ p.name = (bytes_eq-Decides q.name p.name).0 same in
        let port : port_of q.side q.name ≡ port_of p.side p.name = (λ j. port_of (is j) (name j)) ∙ (λ j. port_of (sym taken j) p.name) in
        let place : 0 ≡ suc k = differ 0 (suc k) q p refl at port in
        absurd (omega (arith, place))
    by false same = rest

-- the type of a taken port is found by its name
taken_type : (ports : List NetPort) (k : ℕ) (p : NetPort) → PortsDiffer ports → slice_get ports k ≡ Some p → p.side ≡ Take → import_type (taken_by ports) p.name ≡ Some p.ty
taken_type [] k p differ at taken = let wrong : None ≡ Some p = at in absurd cc
taken_type (q ∷ ports) zero p differ at taken =
    let same : q ≡ p = cc in
    subst (λ (r : NetPort). import_type (with_side r.side r (taken_by ports)) p.name ≡ Some p.ty) (sym same)
    (subst (λ (s : Side). import_type (with_side s p (taken_by ports)) p.name ≡ Some p.ty) (sym taken)
    (ap (λ (c : Bool). cond c (Some p.ty) (import_type (taken_by ports) p.name)) ((bytes_eq-Decides p.name p.name).1 refl)))
taken_type (q ∷ ports) (suc k) p differ at taken =
    not_hidden q p ports k differ at taken q.side refl (taken_type ports k p (rest_differ q ports differ) at taken)

pub given_way : (way : Direction) → is_input Give way ≡ true → way ≡ Request
given_way Request h = refl
given_way Answer h = absurd (true≢false (sym h))

pub taken_way : (way : Direction) → is_input Take way ≡ true → way ≡ Answer
taken_way Request h = absurd (true≢false (sym h))
taken_way Answer h = refl

pub no_answer : (b : Bool) → Request ≡ direction_at b → b ≡ false
no_answer true h = absurd (request_no_answer h)
no_answer false h = refl

pub an_answer : (b : Bool) → Answer ≡ direction_at b → b ≡ true
an_answer true h = refl
an_answer false h = absurd (request_no_answer (sym h))

not_true : (b : Bool) → not b ≡ true → b ≡ false
not_true true h = absurd (true≢false (sym h))
not_true false h = refl

module _ (net : Netlist) (past : List Label) (l : Label) (half : Half) (guard : Guard) where
  -- whether the half's handshake is open, as the guard has it
  abbrev seen_open : Bool
  seen_open = cond half.second (get_or guard.flags.second.items half.port false) (get_or guard.flags.first.items half.port false)

  open_is : (i : ℕ) (its : IsKnown net true i l half) → Guards net past guard → shake_of its.event.place ≡ cond (is_second its.event.place) 1 0 → seen_open ≡ is_open past (port_of its.port.side its.port.name) (shake_of its.event.place)
  open_is i its guards shake = by (is_second its.event.place) refl
    where
      by : (b : Bool) → is_second its.event.place ≡ b → seen_open ≡ is_open past (port_of its.port.side its.port.name) (shake_of its.event.place)
      by true is =
          ap (λ (h : Half). cond h.second (get_or guard.flags.second.items h.port false) (get_or guard.flags.first.items h.port false)) its.half_is
          ∙ ap (λ (c : Bool). cond c (get_or guard.flags.second.items its.event.port false) (get_or guard.flags.first.items its.event.port false)) is
          ∙ guards.second its.event.port its.port its.at
          ∙ ap (is_open past (port_of its.port.side its.port.name)) (sym (shake ∙ ap (λ (c : Bool). cond c 1 0) is))
      by false is =
          ap (λ (h : Half). cond h.second (get_or guard.flags.second.items h.port false) (get_or guard.flags.first.items h.port false)) its.half_is
          ∙ ap (λ (c : Bool). cond c (get_or guard.flags.second.items its.event.port false) (get_or guard.flags.first.items its.event.port false)) is
          ∙ guards.first its.event.port its.port its.at
          ∙ ap (is_open past (port_of its.port.side its.port.name)) (sym (shake ∙ ap (λ (c : Bool). cond c 1 0) is))

  by_side : (i : ℕ) (result : Bool) → HasPorts net → (its : IsKnown net true i l half) → l.value < 2 ^ its.event.bits → IsPlaced its.event.place its.way → result ≡ cond (not (is_answer its.event.place)) (not (is_open past (port_of its.port.side its.port.name) (shake_of its.event.place))) (is_open past (port_of its.port.side its.port.name) (shake_of its.event.place)) → (s : Side) → its.port.side ≡ s → IsTrue result ↔ Allowed (taken_by net.ports) past l.port l.event l.value
  by_side i result has its fits its_place result_is Give side =
      let way : its.way ≡ Request = given_way its.way (ap (λ (s : Side). is_input s its.way) (sym side) ∙ sym its.input ∙ its.goes_its_way) in
      let asks : is_answer its.event.place ≡ false = no_answer (is_answer its.event.place) (sym way ∙ its_place.0) in
      let first = first_request its.port.ty its.event.place its.number (has.given its.event.port its.port its.at side) (its.is ∙ ap (λ (d : Direction). Some (Is d its.number)) way) in
      let port : port_of its.port.side its.port.name ≡ Given = ap (λ (s : Side). port_of s its.port.name) side in
      let shake : shake_of its.event.place ≡ 0 = ap shake_of first.0 in
      let result_now : result ≡ not (is_open past Given 0) =
      result_is ∙ ap (λ (c : Bool). cond (not c) (not (is_open past (port_of its.port.side its.port.name) (shake_of its.event.place))) (is_open past (port_of its.port.side its.port.name) (shake_of its.event.place))) asks
      ∙ (λ j. not (is_open past (port j) (shake j))) in
      let small : l.value < 2 ^ 0 = subst (λ (n : ℕ). l.value < 2 ^ n) (its.bits ∙ first.1) fits in
      let none : l.value ≡ 0 = omega (arith, small) in
      subst (λ (x : Port). IsTrue result ↔ Allowed (taken_by net.ports) past x l.event l.value) (sym (its.port_is ∙ port))
      (λ yes. (its.event_is ∙ first.0, none, not_true (is_open past Given 0) (sym result_now ∙ yes)), λ allowed. result_now ∙ ap not allowed.2)
  by_side i result has its fits its_place result_is Take side =
      let way : its.way ≡ Answer = taken_way its.way (ap (λ (s : Side). is_input s its.way) (sym side) ∙ sym its.input ∙ its.goes_its_way) in
      let answers : is_answer its.event.place ≡ true = an_answer (is_answer its.event.place) (sym way ∙ its_place.0) in
      let port : port_of its.port.side its.port.name ≡ Taken its.port.name = ap (λ (s : Side). port_of s its.port.name) side in
      let result_now : result ≡ is_open past (Taken its.port.name) (shake_of l.event) =
      result_is ∙ ap (λ (c : Bool). cond (not c) (not (is_open past (port_of its.port.side its.port.name) (shake_of its.event.place))) (is_open past (port_of its.port.side its.port.name) (shake_of its.event.place))) answers
      ∙ (λ j. is_open past (port j) (shake_of (sym its.event_is j))) in
      let found : event_of (import_type (taken_by net.ports) its.port.name) l.event ≡ Some (Is Answer its.number) =
      ap (λ t. event_of t l.event) (taken_type net.ports its.event.port its.port has.differ its.at side)
      ∙ ap (slice_get (events its.port.ty)) its.event_is ∙ its.is ∙ ap (λ (d : Direction). Some (Is d its.number)) way in
      let answers_fit : FitsAnswer (event_of (import_type (taken_by net.ports) its.port.name) l.event) l.value = subst (λ (e : Option Event). FitsAnswer e l.value) (sym found) (subst (λ (n : ℕ). l.value < 2 ^ n) its.bits fits) in
      subst (λ (x : Port). IsTrue result ↔ Allowed (taken_by net.ports) past x l.event l.value) (sym (its.port_is ∙ port))
      (λ yes. (answers_fit, sym result_now ∙ yes), λ allowed. result_now ∙ allowed.1)

  -- the guard's test is the protocol
  pub allowed_is : (i : ℕ) (result : Bool) → HasPorts net → Guards net past guard → IsLabel net (events_way true (events_of net)) i l → IsValueOf (events_way true (events_of net)) i l.value → half ≡ get_or (halves_of true (events_of net)) i half → result ≡ cond half.request (not seen_open) seen_open → IsTrue result ↔ Allowed (taken_by net.ports) past l.port l.event l.value
  allowed_is i result has guards label value half_is result_is =
      let its = known net true i l half label half_is in
      let its_place : IsPlaced its.event.place its.way = placed its.port.ty its.event.place its.way its.number its.is in
      let open_now : seen_open ≡ is_open past (port_of its.port.side its.port.name) (shake_of its.event.place) = open_is i its guards its_place.1 in
      by_side i result has its (value its.event its.there) its_place
      (result_is ∙ ap (λ (h : Half). cond h.request (not seen_open) seen_open) its.half_is ∙ ap (λ (o : Bool). cond (not (is_answer its.event.place)) (not o) o) open_now)
      its.port.side refl

-- the events of one way among two lists
way-append : (inputs : Bool) (xs ys : List seen.Event) → events_way inputs (xs ++ ys) ≡ events_way inputs xs ++ events_way inputs ys
way-append inputs [] ys = refl
way-append inputs (x ∷ xs) ys = by (goes inputs x) (way-append inputs xs ys)
  where
    by : (b : Bool) → events_way inputs (xs ++ ys) ≡ events_way inputs xs ++ events_way inputs ys → cond b (x ∷ events_way inputs (xs ++ ys)) (events_way inputs (xs ++ ys)) ≡ cond b (x ∷ events_way inputs xs) (events_way inputs xs) ++ events_way inputs ys
    by true rest = ap (λ (es : List seen.Event). x ∷ es) rest
    by false rest = rest

-- and of one event more
pub way_more : (inputs : Bool) (all : List seen.Event) (i : ℕ) (e : seen.Event) → slice_get all i ≡ Some e → events_way inputs (take (i + 1) all) ≡ cond (goes inputs e) (events_way inputs (take i all) ++ e ∷ []) (events_way inputs (take i all))
way_more inputs all i e at =
    let here : get_or all i e ≡ e = get_or_from_slice_get all i e e at in
    ap (events_way inputs) (take_more all i e (slice_get_within all i e at)) ∙ way-append inputs (take i all) (get_or all i e ∷ [])
    ∙ ap (λ (x : seen.Event). events_way inputs (take i all) ++ events_way inputs (x ∷ [])) here ∙ by (goes inputs e)
  where
    by : (b : Bool) → events_way inputs (take i all) ++ cond b (e ∷ []) [] ≡ cond b (events_way inputs (take i all) ++ e ∷ []) (events_way inputs (take i all))
    by true = refl
    by false = append-nil (events_way inputs (take i all))

-- the halves of one event more
pub halves_more : (inputs : Bool) (all : List seen.Event) (i : ℕ) (d : seen.Event) → i < length all → halves_of inputs (take (i + 1) all) ≡ cond (goes inputs (get_or all i d)) (halves_of inputs (take i all) ++ half_of (get_or all i d) ∷ []) (halves_of inputs (take i all))
halves_more inputs all i d within =
    ap (map half_of) (way_more inputs all i (get_or all i d) (slice_get-get_or all i d within)) ∙ by (goes inputs (get_or all i d))
  where
    by : (b : Bool) → map half_of (cond b (events_way inputs (take i all) ++ get_or all i d ∷ []) (events_way inputs (take i all))) ≡ cond b (halves_of inputs (take i all) ++ half_of (get_or all i d) ∷ []) (halves_of inputs (take i all))
    by true = map-append half_of (events_way inputs (take i all)) (get_or all i d ∷ [])
    by false = refl

-- before any pulse no handshake is open
pub guard_begins : (net : Netlist) (guard : Guard) → guard.inputs.items ≡ halves_of true (events_of net) → guard.outputs.items ≡ halves_of false (events_of net) → guard.flags.first.items ≡ replicate (length net.ports) false → guard.flags.second.items ≡ replicate (length net.ports) false → Guards net [] guard
guard_begins net guard inputs outputs first second =
    record {
      inputs = inputs;
      outputs = outputs;
      first_each = ap length first ∙ length-replicate (length net.ports) false;
      second_each = ap length second ∙ length-replicate (length net.ports) false;
      first = λ i p at. ap (λ (flags : List Bool). get_or flags i false) first ∙ get_or-replicate (length net.ports) i false false (slice_get_within net.ports i p at);
      second = λ i p at. ap (λ (flags : List Bool). get_or flags i false) second ∙ get_or-replicate (length net.ports) i false false (slice_get_within net.ports i p at);
    }
