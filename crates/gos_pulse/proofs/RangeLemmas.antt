-- The inputs that the pulses of a cycle give are clean: in range, and each number is 0 without its pulse.
use Rattle.std.proofs.Common.{◌≡◌, ◌<◌, ◌^◌, inl, inr, ℕ, suc, Bool, true, false, not, cond, List, [], ◌∷◌, ◌++◌, length, refl, pow_pos, sym, ap, subst, ◌∙◌, arith, Some, None, true≢false}
use Rattle.std.specs.Prelude.{slice_get, filter, IsFalse, All}
use Rattle.std.specs.List.{flat_map, AllByRecursion}
use Rattle.std.proofs.lemmas.Bool.{cases_lt}
use Rattle.std.proofs.lemmas.List.Elements.{All-contains, All-from_recursion}
use Rattle.gos_netlist.specs.declared.event.Event as seen
use Rattle.gos_netlist.specs.Nets.{Input, Cell, Side, NetPort, Netlist}
use Rattle.gos_netlist.specs.Events.{is_input, port_events, events_from, events_of}
use Rattle.gos_types.specs.Events.{Direction, Event, Is, events}
use Rattle.gos_netlist.specs.Settling.{Numbers, at}
use Rattle.gos_netcheck.specs.PortRules.{all_inputs, place}
use Rattle.gos_netcheck.specs.PortRules as rules
use Rattle.gos_netcheck.specs.Accepted.{IsAccepted}
use Rattle.gos_model.specs.Labels.{Port, is_output_at}
use Rattle.gos_pace.specs.Flattening.{port_of}
use Rattle.gos_pace.specs.Silence.{IsSilentFrom, AreSilent, IsClean}
use Rattle.gos_sim.specs.declared.event_nets.EventNets.{EventNets}
use Rattle.gos_sim.specs.declared.pulse.Pulse.{Pulse}
use Rattle.gos_sim.specs.EventNets as table
use Rattle.gos_sim.specs.EventNets.{input_events}
use Rattle.gos_sim.specs.Cycle.{bit, GivesAll}
use Rattle.gos_pulse.specs.Guarding.{events_way, inputs_of}
use Rattle.gos_pulse.specs.inner.Board.{AreInRange}
use Rattle.gos_pulse.proofs.EventLemmas.{AreRows, FitRows, FromPlace, TurnsOut, turns_out, nets_from, inputs_from, net_rows, from_first, next_place, this_place, port_has_rows}
use Rattle.gos_pulse.proofs.ShownLemmas.{AreFed, IsFed, inputs_fed}

-- where an event is an input, its nets have a pulse
abbrev MayBeFed : Numbers → seen.Event → EventNets → Type 0
MayBeFed ins e n = e.input ≡ true → (p : Pulse) × IsFed ins e n p

abbrev AllFed : Numbers → List seen.Event → List EventNets → Type 0
AllFed ins [] ns = Unit {0}
AllFed ins (e ∷ es) [] = Unit {0}
AllFed ins (e ∷ es) (n ∷ ns) = MayBeFed ins e n × AllFed ins es ns

all_fed : (net : Netlist) (ins : Numbers) (es : List seen.Event) (ns : List EventNets) (ps : List Pulse) → AreRows net es ns → AreFed ins (events_way true es) (filter (table.comes_in true) ns) ps → AllFed ins es ns
all_fed net ins [] ns ps h given = tt
all_fed net ins (e ∷ es) [] ps h given = tt
all_fed net ins (e ∷ es) (n ∷ ns) ps h given = by e.input n.input refl h.0.input ps given (λ qs. all_fed net ins es ns qs h.1)
  where
    by : (a b : Bool) → e.input ≡ a → b ≡ e.input → (ps : List Pulse)
        → AreFed ins (cond a (e ∷ events_way true es) (events_way true es)) (cond (table.comes_in true (record n { input = b })) (n ∷ filter (table.comes_in true) ns) (filter (table.comes_in true) ns)) ps
        → ((qs : List Pulse) → AreFed ins (events_way true es) (filter (table.comes_in true) ns) qs → AllFed ins es ns)
        → MayBeFed ins e n × AllFed ins es ns
    by true true is same [] given rest = absurd given
    by true true is same (p ∷ ps) given rest = (λ _. (p, given.0), rest ps given.1)
    by true false is same ps given rest = absurd (true≢false (sym (same ∙ is)))
    by false true is same ps given rest = absurd (true≢false (same ∙ is))
    by false false is same ps given rest = (λ input. absurd (true≢false (sym input ∙ is)), rest ps given)

fed_front : (net : Netlist) (ins : Numbers) (es fs : List seen.Event) (ns ms : List EventNets) → AreRows net es ns → AllFed ins (es ++ fs) (ns ++ ms) → AllFed ins es ns × AllFed ins fs ms
fed_front net ins [] fs [] ms h fed = (tt, fed)
fed_front net ins [] fs (n ∷ ns) ms h fed = absurd h
fed_front net ins (e ∷ es) fs [] ms h fed = absurd h
fed_front net ins (e ∷ es) fs (n ∷ ns) ms h fed =
    let rest = fed_front net ins es fs ns ms h.1 fed.1 in
    ((fed.0, rest.0), rest.1)

bit_small : (b : Bool) → bit b < 2 ^ 1
bit_small true = omega arith
bit_small false = omega arith

bit_zero : (b : Bool) → bit b ≡ 0 → b ≡ false
bit_zero true h = absurd (omega (arith, h))
bit_zero false h = refl

-- a net's input has at most the bits of its cell
abbrev IsSmall : List Cell → Numbers → ℕ → Type 0
IsSmall cells ins n = (c : Cell) → slice_get cells n ≡ Some c → at ins n < 2 ^ c.width

small : (cells : List Cell) (ins : Numbers) (n value width : ℕ) (c : Cell) → slice_get cells n ≡ Some c → c.width ≡ width → at ins n ≡ value → value < 2 ^ width → IsSmall cells ins n
small cells ins n value width c is wide has less d at_d =
    let one : c ≡ d = cc in
    let same : c.width ≡ d.width = ap (λ (x : Cell). x.width) one in
    subst (λ (k : ℕ). at ins n < 2 ^ k) (sym wide ∙ same) (subst (λ (k : ℕ). k < 2 ^ width) (sym has) less)

pub some_of : (R : ℕ → Type 0) (b : Bool) (a : ℕ) (ns : List ℕ) → (b ≡ true → R a) → AllByRecursion R ns → AllByRecursion R (cond b (a ∷ []) [] ++ ns)
some_of R true a ns h rest = (h refl, rest)
some_of R false a ns h rest = rest

pub all_append : (R : ℕ → Type 0) (xs ys : List ℕ) → AllByRecursion R xs → AllByRecursion R ys → AllByRecursion R (xs ++ ys)
all_append R [] ys h g = g
all_append R (x ∷ xs) ys h g = (h.0, all_append R xs ys h.1 g)

not_false : (b : Bool) → not b ≡ false → b ≡ true
not_false true h = refl
not_false false h = absurd (true≢false h)

module _ (cells : List Cell) (ins : Numbers) (k : ℕ) (side : Side) where
  -- of the events of one port
  port_small : (n : ℕ) (es : List Event) (ns : List ℕ) → FitRows cells side es ns → AllFed ins (port_events k side n es) (nets_from side es ns) → AllByRecursion (IsSmall cells ins) (inputs_from side es ns)
  port_small n [] [] fit fed = tt
  port_small n [] (a ∷ ns) fit fed = absurd fit
  port_small n (Is way None ∷ es) [] fit fed = absurd fit
  port_small n (Is way None ∷ es) (a ∷ ns) fit fed =
      some_of (IsSmall cells ins) (is_input side way) a (inputs_from side es ns)
      (λ input. let p = fed.0 input in small cells ins a (bit p.0.on) 1 fit.0.0 fit.0.1 fit.0.2 p.1.gives.0 (bit_small p.0.on))
      (port_small (suc n) es ns fit.1 fed.1)
  port_small n (Is way (Some b) ∷ es) [] fit fed = absurd fit
  port_small n (Is way (Some b) ∷ es) (a ∷ []) fit fed = absurd fit
  port_small n (Is way (Some b) ∷ es) (a ∷ x ∷ ns) fit fed =
      some_of (IsSmall cells ins) (is_input side way) a (cond (is_input side way) (x ∷ []) [] ++ inputs_from side es ns)
      (λ input. let p = fed.0 input in small cells ins a (bit p.0.on) 1 fit.0.0 fit.0.1 fit.0.2 p.1.gives.0 (bit_small p.0.on))
      (some_of (IsSmall cells ins) (is_input side way) x (inputs_from side es ns)
      (λ input. let p = fed.0 input in small cells ins x p.0.value b fit.1.0 fit.1.1 fit.1.2 p.1.gives.1 p.1.fits)
      (port_small (suc n) es ns fit.2 fed.1))

  -- a number comes with its pulse alone
  number_quiet : (n : ℕ) (way : Direction) (a x bits : ℕ) (port : Port) → is_output_at port n ≡ not (is_input side way)
      → MayBeFed ins (record { port = k; place = n; input = is_input side way; bits = bits }) (record { input = is_input side way; pulse = a; number = Some x })
      → IsFalse (is_output_at port n) → at ins a ≡ 0 → at ins x ≡ 0
  number_quiet n way a x bits port out fed input none =
      let p = fed (not_false (is_input side way) (sym out ∙ input)) in
      let off : p.0.on ≡ false = bit_zero p.0.on (sym p.1.gives.0 ∙ none) in
      p.1.gives.1 ∙ p.1.quiet off

  port_quiet : (port : Port) (n : ℕ) (es : List Event) (ns : List ℕ) → TurnsOut port side n es → FitRows cells side es ns → AllFed ins (port_events k side n es) (nets_from side es ns) → IsSilentFrom false port n es ns ins
  port_quiet port n [] ns out fit fed = tt
  port_quiet port n (Is way None ∷ es) [] out fit fed = tt
  port_quiet port n (Is way None ∷ es) (a ∷ ns) out fit fed = port_quiet port (suc n) es ns out.1 fit.1 fed.1
  port_quiet port n (Is way (Some b) ∷ es) [] out fit fed = tt
  port_quiet port n (Is way (Some b) ∷ es) (a ∷ []) out fit fed = tt
  port_quiet port n (Is way (Some b) ∷ es) (a ∷ x ∷ ns) out fit fed =
      (number_quiet n way a x b port out.0 fed.0, port_quiet port (suc n) es ns out.1 fit.2 fed.1)

module _ (net : Netlist) (ins : Numbers) where
  -- of the ports from place k on
  ports_small : (k : ℕ) (ps : List NetPort) → FromPlace net k ps → AllFed ins (events_from k ps) (flat_map table.port_events ps) → AllByRecursion (IsSmall net.cells ins) (all_inputs ps)
  ports_small k [] from fed = tt
  ports_small k (p ∷ ps) from fed =
      let has = (from 0 p refl).1 in
      let parts = fed_front net ins (port_events k p.side 0 (events p.ty)) (events_from (suc k) ps) (table.port_events p) (flat_map table.port_events ps) (port_has_rows net k p ps from) fed in
      let here = port_small net.cells ins k p.side 0 (events p.ty) p.nets has.fits (subst (AllFed ins (port_events k p.side 0 (events p.ty))) has.nets parts.0) in
      all_append (IsSmall net.cells ins) (rules.inputs_of p) (all_inputs ps)
      (subst (AllByRecursion (IsSmall net.cells ins)) (sym has.inputs) here)
      (ports_small (suc k) ps (next_place net k p ps from) parts.1)

  ports_quiet : (k : ℕ) (ps : List NetPort) → FromPlace net k ps → AllFed ins (events_from k ps) (flat_map table.port_events ps) → AreSilent false ps ins
  ports_quiet k [] from fed = tt
  ports_quiet k (p ∷ ps) from fed =
      let has = (from 0 p refl).1 in
      let parts = fed_front net ins (port_events k p.side 0 (events p.ty)) (events_from (suc k) ps) (table.port_events p) (flat_map table.port_events ps) (port_has_rows net k p ps from) fed in (
        port_quiet net.cells ins k p.side (port_of p.side p.name) 0 (events p.ty) p.nets (turns_out net k p (this_place net k p ps from)) has.fits
            (subst (AllFed ins (port_events k p.side 0 (events p.ty))) has.nets parts.0),
        ports_quiet (suc k) ps (next_place net k p ps from) parts.1,
      )

-- the inputs that pulses in range give are clean
pub are_clean : (net : Netlist) (ins : Numbers) (given : List Pulse) → IsAccepted net → length given ≡ length (inputs_of net) → GivesAll (input_events net) given ins → AreInRange (inputs_of net) given → IsClean net ins
are_clean net ins given accepted count gives range =
    let all : AllFed ins (events_of net) (table.all_events net) = all_fed net ins (events_of net) (table.all_events net) given (net_rows net accepted) (inputs_fed net ins given accepted count gives range) in
    let from = from_first net accepted in
    let smalls = All-from_recursion (IsSmall net.cells ins) (all_inputs net.ports) (ports_small net ins 0 net.ports from all) in
    (λ n c is gate. small_input n c is gate smalls, ports_quiet net ins 0 net.ports from all)
  where
    small_input : (n : ℕ) (c : Cell) → slice_get net.cells n ≡ Some c → c.gate ≡ Input → All (IsSmall net.cells ins) (all_inputs net.ports) → at ins n < 2 ^ c.width
    small_input n c is gate smalls =
        elim (cases_lt (at ins n) (2 ^ c.width)) [
          | inl less ↦ less
          | inr more ↦
              absurd (accepted.ports.inputs n (
                c,
                is,
                gate,
                λ has.
                    let less : at ins n < 2 ^ c.width = All-contains (IsSmall net.cells ins) (all_inputs net.ports) n smalls has c is in
                    omega (arith, less, more),
              ))
        ]

quiet_at : (port : Port) (n : ℕ) (es : List Event) (ns : List ℕ) → IsSilentFrom false port n es ns []
quiet_at port n [] ns = tt
quiet_at port n (Is way None ∷ es) [] = tt
quiet_at port n (Is way None ∷ es) (a ∷ ns) = quiet_at port (suc n) es ns
quiet_at port n (Is way (Some b) ∷ es) [] = tt
quiet_at port n (Is way (Some b) ∷ es) (a ∷ []) = tt
quiet_at port n (Is way (Some b) ∷ es) (a ∷ x ∷ ns) = (λ _ _. refl, quiet_at port (suc n) es ns)

quiet_ports : (ps : List NetPort) → AreSilent false ps []
quiet_ports [] = tt
quiet_ports (p ∷ ps) = (quiet_at (port_of p.side p.name) 0 (events p.ty) p.nets, quiet_ports ps)

-- inputs that are all 0 are clean
pub none_are_clean : (net : Netlist) → IsClean net []
none_are_clean net = (λ n c is gate. pow_pos c.width, quiet_ports net.ports)
