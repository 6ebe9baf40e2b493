-- An event of an accepted netlist is one of the port of its place among a program's ports of these names and types, with its text.
use Rattle.std.specs.Prelude.{◌≡◌, ◌<◌, ◌≤◌, ◌^◌, ◌++◌, ◌∷◌, [], ℕ, zero, suc, Bool, true, false, not, cond, List, Option, Some, None, codes, filter, map, nat_eq, slice_get, option_map}
use Rattle.std.specs.List.{AllByRecursion}
use Rattle.std.proofs.Common.{refl, sym, ◌∙◌, ap, subst, arith, append_assoc, pow_pos}
use Rattle.std.proofs.lemmas.Bool.{ne_eqb}
use Rattle.std.proofs.lemmas.List.{append-nil}
use Rattle.std.proofs.lemmas.Option.{slice_get-map}
use Rattle.gos_types.specs.Types.{Type', Com, Exp, Var, Pair, Fun}
use Rattle.gos_types.specs.Events.{Direction, Is, bits_of, events}
use Rattle.gos_types.proofs.ListLemmas.{mapped_at}
use Rattle.gos_lex.specs.Lines.{Word}
use Rattle.gos_netlist.specs.declared.event.Event as seen
use Rattle.gos_netlist.specs.Events.{events_of}
use Rattle.gos_netlist.specs.Nets.{Side, NetPort, Netlist}
use Rattle.gos_netlist.specs.NetText.{spaced_number}
use Rattle.gos_netlist.specs.Seen.{ground_type}
use Rattle.gos_netlist.specs.Writable.{IsPortType}
use Rattle.gos_netlist.specs.Settling.{Numbers, at}
use Rattle.gos_netcheck.specs.Accepted.{IsAccepted}
use Rattle.gos_netcheck.specs.CellRules.{width_at, widths_of}
use Rattle.gos_netcheck.specs.PortRules.{HasSide}
use Rattle.gos_model.specs.Labels as shown
use Rattle.gos_model.specs.Labels.{is_output}
use Rattle.gos_model.specs.Typing.{Imported}
use Rattle.gos_pace.specs.Flattening.{inputs, outputs, port_of as port_in, pulses}
use Rattle.gos_pulse.specs.EventNames.{event_word, name_at}
use Rattle.gos_pulse.specs.Driving.{IsPulse}
use Rattle.gos_pulse.specs.TraceText.{pulse_text, value_text}
use Rattle.gos_pulse.specs.declared.trace.TraceLine.{TraceLine}
use Rattle.gos_pulse.specs.inner.Slots.{label_of as label_at, labels_of as labels_at, port_at}
use Rattle.gos_pulse.proofs.EventLemmas.{AreRows, IsNumberNet, net_labels, net_rows}
use Rattle.gos_pulse.proofs.GuardLemmas.{IsEventOf, event_from}
use Rattle.gos_pulse.proofs.PortLemmas.{has_ports}
use Rattle.gos_sim.specs.Cycle.{number_shown, pulse_shown}
use Rattle.gos_sim.specs.EventNets.{all_events}
use Rattle.gos_sim.specs.declared.event_nets.EventNets.{EventNets}
use Rattle.gos_tidy.proofs.NarrowLemmas.{AreNarrow, of_width, width_is}
use Rattle.gos_witness.specs.declared.labels.Label.{Label}
use Rattle.gos_witness.specs.declared.program.ProgramPort.{ProgramPort}
use Rattle.gos_witness.specs.Ports.{ArePorts, imported, label_of, name_of as port_name, port_of}
use Rattle.gos_witness.specs.TraceText.{HasEvent, IsLabel, event_text, label_text, port_label}

-- a number of no bits, and one of these bits
of_none : (number : Option ℕ) (k : ℕ) → None ≡ number → k < 2 ^ bits_of number → k ≡ 0
of_none number k same low = let one : k < 2 ^ 0 = subst (λ (o : Option ℕ). k < 2 ^ bits_of o) (sym same) low in omega (arith, one)

of_some : (w : ℕ) (number : Option ℕ) (k : ℕ) → Some w ≡ number → k < 2 ^ bits_of number → k < 2 ^ w
of_some w number k same low = subst (λ (o : Option ℕ). k < 2 ^ bits_of o) (sym same) low

-- a type has the event at a place, with a number of its bits
has_event : (t : Type') (place : ℕ) (way : Direction) (number : Option ℕ) (k : ℕ) → slice_get (events t) place ≡ Some (Is way number)
    → k < 2 ^ bits_of number → HasEvent t place k
has_event Com zero way number k at low = let same : None ≡ number = cc at in of_none number k same low
has_event Com (suc zero) way number k at low = let same : None ≡ number = cc at in of_none number k same low
has_event Com (suc (suc n)) way number k at low = absurd (cc at)
has_event (Exp w) zero way number k at low = let same : None ≡ number = cc at in of_none number k same low
has_event (Exp w) (suc zero) way number k at low = let same : Some w ≡ number = cc at in of_some w number k same low
has_event (Exp w) (suc (suc n)) way number k at low = absurd (cc at)
has_event (Var w) zero way number k at low = let same : None ≡ number = cc at in of_none number k same low
has_event (Var w) (suc zero) way number k at low = let same : Some w ≡ number = cc at in of_some w number k same low
has_event (Var w) (suc (suc zero)) way number k at low = let same : Some w ≡ number = cc at in of_some w number k same low
has_event (Var w) (suc (suc (suc zero))) way number k at low = let same : None ≡ number = cc at in of_none number k same low
has_event (Var w) (suc (suc (suc (suc n)))) way number k at low = absurd (cc at)
has_event (Pair a b) place way number k at low = absurd (cc at)
has_event (Fun a b) place way number k at low = absurd (cc at)

-- its word, with its number behind it, is its text
no_value : (word : Word) (number : Option ℕ) (k : ℕ) → None ≡ number → word ++ value_text (bits_of number) k ≡ word
no_value word number k same = ap (λ (o : Option ℕ). word ++ value_text (bits_of o) k) (sym same) ∙ append-nil word

spaced : (w k : ℕ) → 1 ≤ w → value_text w k ≡ spaced_number k
spaced w k some =
    let test : nat_eq w 0 ≡ false = ne_eqb w 0 (λ e. omega (arith, e, some)) in ap (λ (b : Bool). cond b [] (spaced_number k)) test

a_value : (word : Word) (w : ℕ) (number : Option ℕ) (k : ℕ) → 1 ≤ w → Some w ≡ number → word ++ value_text (bits_of number) k ≡ word ++ spaced_number k
a_value word w number k some same =
    ap (λ (o : Option ℕ). word ++ value_text (bits_of o) k) (sym same) ∙ ap (λ (text : Word). word ++ text) (spaced w k some)

has_text : (t : Type') (place : ℕ) (way : Direction) (number : Option ℕ) (k : ℕ) → slice_get (events t) place ≡ Some (Is way number)
    → IsPortType t → event_word t place ++ value_text (bits_of number) k ≡ event_text t place k
has_text Com zero way number k at port = let same : None ≡ number = cc at in no_value (codes "run") number k same
has_text Com (suc zero) way number k at port = let same : None ≡ number = cc at in no_value (codes "done") number k same
has_text Com (suc (suc n)) way number k at port = absurd (cc at)
has_text (Exp w) zero way number k at port = let same : None ≡ number = cc at in no_value (codes "ask") number k same
has_text (Exp w) (suc zero) way number k at port = let same : Some w ≡ number = cc at in a_value (codes "ans") w number k port.0 same
has_text (Exp w) (suc (suc n)) way number k at port = absurd (cc at)
has_text (Var w) zero way number k at port = let same : None ≡ number = cc at in no_value (codes "read") number k same
has_text (Var w) (suc zero) way number k at port = let same : Some w ≡ number = cc at in a_value (codes "ans") w number k port.0 same
has_text (Var w) (suc (suc zero)) way number k at port = let same : Some w ≡ number = cc at in a_value (codes "write") w number k port.0 same
has_text (Var w) (suc (suc (suc zero))) way number k at port = let same : None ≡ number = cc at in no_value (codes "done") number k same
has_text (Var w) (suc (suc (suc (suc n)))) way number k at port = absurd (cc at)
has_text (Pair a b) place way number k at port = absurd port
has_text (Fun a b) place way number k at port = absurd port

-- the label is of an event of a port, with a number of its bits
abbrev pub IsShown : Netlist → shown.Label → Type 0
IsShown net l =
    (k : ℕ) × (p : NetPort) × (slice_get net.ports k ≡ Some p) × (l.port ≡ port_in p.side p.name) × HasEvent p.ty l.event l.value

-- what a cycle shows
module _ (net : Netlist) (accepted : IsAccepted net) (v : Numbers) (narrow : AreNarrow (widths_of net.cells) (at v)) where
  number_low : (e : seen.Event) (o : Option ℕ) → IsNumberNet net.cells e o → number_shown v o < 2 ^ e.bits
  number_low e None none = pow_pos e.bits
  number_low e (Some x) (c, there, width, end) = of_width (at v x) (width_at (widths_of net.cells) x) e.bits (narrow x) (width_is net.cells x c there ∙ width)

  one_shown : (e : seen.Event) (o : Option ℕ) → IsEventOf net.ports 0 e → IsNumberNet net.cells e o → IsShown net (label_at net.ports e (number_shown v o))
  one_shown e o its number =
      let place : its.index ≡ e.port = omega (arith, its.port_is) in
      let there : slice_get net.ports e.port ≡ Some its.port = ap (slice_get net.ports) (sym place) ∙ its.at in
      let low : number_shown v o < 2 ^ bits_of its.number = subst (λ (b : ℕ). number_shown v o < 2 ^ b) its.bits (number_low e o number) in
      (e.port, its.port, there, ap port_at there, has_event its.port.ty e.place its.way its.number (number_shown v o) its.event low)

  with_one : (on : Bool) (l : shown.Label) (ls : List shown.Label) → IsShown net l → AllByRecursion (IsShown net) ls
      → AllByRecursion (IsShown net) (cond on (l ∷ []) [] ++ ls)
  with_one true l ls one all = (one, all)
  with_one false l ls one all = all

  rows_shown : (es : List seen.Event) (ns : List EventNets) → AreRows net es ns
      → ((i : ℕ) (e : seen.Event) → slice_get es i ≡ Some e → IsEventOf net.ports 0 e)
      → AllByRecursion (IsShown net) (labels_at net.ports es (map (pulse_shown v) ns))
  rows_shown [] [] rows of = tt
  rows_shown [] (n ∷ ns) rows of = absurd rows
  rows_shown (e ∷ es) [] rows of = absurd rows
  rows_shown (e ∷ es) (n ∷ ns) (row, rows) of =
      with_one (nat_eq (at v n.pulse) 1) (label_at net.ports e (number_shown v n.number)) (labels_at net.ports es (map (pulse_shown v) ns))
      (one_shown e n.number (of 0 e refl) row.number) (rows_shown es ns rows (λ i f there. of (suc i) f there))

  all_shown : AllByRecursion (IsShown net) (pulses net.ports v)
  all_shown =
      subst (AllByRecursion (IsShown net)) (sym (net_labels net v accepted))
      (rows_shown (events_of net) (all_events net) (net_rows net accepted) (event_from 0 net.ports))

  filtered : (f : shown.Label → Bool) (ls : List shown.Label) → AllByRecursion (IsShown net) ls → AllByRecursion (IsShown net) (filter f ls)
  filtered f [] all = tt
  filtered f (l ∷ ls) (one, all) = by (f l) (filtered f ls all)
    where
      by : (b : Bool) → AllByRecursion (IsShown net) (filter f ls) → AllByRecursion (IsShown net) (cond b (l ∷ filter f ls) (filter f ls))
      by true rest = (one, rest)
      by false rest = rest

  both : (ls ks : List shown.Label) → AllByRecursion (IsShown net) ls → AllByRecursion (IsShown net) ks → AllByRecursion (IsShown net) (ls ++ ks)
  both [] ks all more = more
  both (l ∷ ls) ks (one, all) more = (one, both ls ks all more)

  pub cycle_shown : AllByRecursion (IsShown net) (outputs net v ++ inputs net v)
  cycle_shown = both (outputs net v) (inputs net v) (filtered is_output (pulses net.ports v) all_shown) (filtered (λ l. not (is_output l)) (pulses net.ports v) all_shown)

-- a line's pulse as a label of the program's ports
abbrev pub read_if : Option seen.Event → ℕ → Label
read_if None k = record { port = 0; place = 0; value = k }
read_if (Some e) k = record { port = e.port; place = e.place; value = k }

abbrev pub read : Netlist → TraceLine → Label
read net line = read_if (slice_get (events_of net) line.event) line.value

abbrev pub net_face : NetPort → Imported
net_face p = record { name = p.name; ty = p.ty }

all_at : (ports : List ProgramPort) (k : ℕ) (q : ProgramPort) → AllByRecursion (λ p. IsPortType (ground_type p.ground)) ports → slice_get ports k ≡ Some q
    → IsPortType (ground_type q.ground)
all_at [] k q all there = absurd (cc there)
all_at (p ∷ ports) zero q (one, all) there = let same : p ≡ q = cc there in subst (λ (x : ProgramPort). IsPortType (ground_type x.ground)) same one
all_at (p ∷ ports) (suc k) q (one, all) there = all_at ports k q all there

-- the text of a label
label_said : (ports : List ProgramPort) (o : Label) (q : ProgramPort) (name : Word) (t : Type') → slice_get ports o.port ≡ Some q → q.name ≡ name
    → ground_type q.ground ≡ t → name ++ 46 ∷ event_text t o.place o.value ≡ label_text ports o
label_said ports o q name t there same_name same_type =
    let of_port : q.name ++ 46 ∷ event_text (ground_type q.ground) o.place o.value ≡ label_text ports o =
    sym (append_assoc q.name (46 ∷ []) (event_text (ground_type q.ground) o.place o.value))
    ∙ sym (ap (λ (x : Option ProgramPort). port_label x o) there) in
    (λ i. sym same_name i ++ 46 ∷ event_text (sym same_type i) o.place o.value) ∙ of_port

module _ (net : Netlist) (accepted : IsAccepted net) (ports : List ProgramPort) (are : ArePorts ports) (faces : map imported ports ≡ map net_face net.ports) where
  -- the port at a place
  record HasPort (k : ℕ) (p : NetPort) : Type 0 where
    q : ProgramPort
    there : slice_get ports k ≡ Some q
    name : q.name ≡ p.name
    ty : ground_type q.ground ≡ p.ty
    port : port_of ports k ≡ port_in p.side p.name

  same_port : (k : ℕ) (p : NetPort) (q : ProgramPort) → HasSide k p.side p.ty → slice_get ports k ≡ Some q → q.name ≡ p.name
      → port_of ports k ≡ port_in p.side p.name
  same_port zero p q side there name = sym (ap (λ (s : Side). port_in s p.name) side.0)
  same_port (suc k) p q side there name =
      ap (λ (o : Option ProgramPort). shown.Taken (port_name o)) there
      ∙ (ap (λ (x : Word). shown.Taken x) name ∙ sym (ap (λ (s : Side). port_in s p.name) side.0))

  has_port : (k : ℕ) (p : NetPort) → slice_get net.ports k ≡ Some p → HasPort k p
  has_port k p at_k =
      let (q, there, face) =
      mapped_at imported ports k (net_face p)
      (ap (λ (is : List Imported). slice_get is k) faces ∙ (slice_get-map net_face net.ports k ∙ ap (option_map net_face) at_k)) in
      let name : q.name ≡ p.name = ap (λ (i : Imported). i.name) face in
      record {
        q = q;
        there = there;
        name = name;
        ty = ap (λ (i : Imported). i.ty) face;
        port = same_port k p q (accepted.ports.each k p at_k).side there name;
      }

  -- what a line says
  pub record IsRead (line : TraceLine) (l : shown.Label) (o : Label) : Type 0 where
    pub label : IsLabel ports o
    pub same : label_of ports o ≡ l
    pub text : pulse_text net.ports (slice_get (events_of net) line.event) line.value ≡ label_text ports o

  pub is_read : (line : TraceLine) (l : shown.Label) → IsPulse net line.event line.value l → IsShown net l → IsRead line l (read net line)
  is_read line l pulse (k, r, at_r, port_is, has) =
      let e = pulse.event in
      let p = pulse.port in
      let o : Label = record { port = e.port; place = e.place; value = line.value } in
      let its = event_from 0 net.ports line.event e pulse.there in
      let place : its.index ≡ e.port = omega (arith, its.port_is) in
      let there : slice_get net.ports e.port ≡ Some its.port = ap (slice_get net.ports) (sym place) ∙ its.at in
      let of_event : its.port ≡ p = (let two : Some its.port ≡ Some p = sym there ∙ pulse.at in cc two) in
      let index : k ≡ e.port =
      (has_ports net accepted).differ k e.port r p at_r pulse.at (sym port_is ∙ ap (λ (x : shown.Label). x.port) pulse.is) in
      let of_label : r ≡ p =
      (let two : Some r ≡ Some p = sym at_r ∙ (ap (slice_get net.ports) index ∙ pulse.at) in cc two) in
      let event : HasEvent r.ty e.place line.value = subst (λ (x : shown.Label). HasEvent r.ty x.event x.value) pulse.is has in
      let port = has_port e.port p pulse.at in
      let ty : r.ty ≡ ground_type port.q.ground = ap (λ (x : NetPort). x.ty) of_label ∙ sym port.ty in
      let at_p : slice_get (events p.ty) e.place ≡ Some (Is its.way its.number) =
      subst (λ (x : NetPort). slice_get (events x.ty) e.place ≡ Some (Is its.way its.number)) of_event its.event in
      let wide : IsPortType p.ty = subst IsPortType port.ty (all_at ports e.port port.q are.types port.there) in
      let word : event_word p.ty e.place ++ value_text e.bits line.value ≡ event_text p.ty e.place line.value =
      ap (λ (b : ℕ). event_word p.ty e.place ++ value_text b line.value) its.bits ∙ has_text p.ty e.place its.way its.number line.value at_p wide in
      let texts : pulse_text net.ports (slice_get (events_of net) line.event) line.value ≡ label_text ports o =
      ap (λ (x : Option seen.Event). pulse_text net.ports x line.value) pulse.there
      ∙ (ap (λ (x : Option NetPort). name_at x e.place ++ value_text e.bits line.value) pulse.at
      ∙ (append_assoc p.name (46 ∷ event_word p.ty e.place) (value_text e.bits line.value)
      ∙ (ap (λ (text : Word). p.name ++ 46 ∷ text) word
      ∙ label_said ports o port.q p.name p.ty port.there port.name port.ty))) in
      let known : IsRead line l o =
      record {
        label = (port.q, port.there, subst (λ (t : Type'). HasEvent t e.place line.value) ty event);
        same = (λ i. record { port = port.port i; event = e.place; value = line.value }) ∙ sym pulse.is;
        text = texts;
      } in
      subst (IsRead line l) (sym (ap (λ (x : Option seen.Event). read_if x line.value) pulse.there)) known
