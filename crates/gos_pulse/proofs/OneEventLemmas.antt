-- A name is that of one input event at most: the netlist's ports have different names, and no event's word has a dot.
-- And a label is that of one event.
use Rattle.std.proofs.Common.{◌≡◌, ◌⊎◌, inl, inr, ◌+◌, ◌<◌, ℕ, zero, suc, Bool, true, not, cond, List, [], ◌∷◌, ◌++◌, length, get_or, refl, sym, ap, ◌∙◌, arith, Option, Some, None, true≢false}
use Rattle.std.specs.Prelude.{slice_get, nat_eq}
use Rattle.std.specs.List.{list_all}
use Rattle.std.proofs.lemmas.Bool.{and_parts}
use Rattle.gos_types.specs.Types.{Type', Com, Exp, Var, Pair, Fun}
use Rattle.gos_netlist.specs.declared.event.Event as seen
use Rattle.gos_netlist.specs.Nets.{Side, NetPort, Netlist}
use Rattle.gos_netlist.specs.Events.{is_input, port_events, events_from, events_of}
use Rattle.gos_types.specs.Events.{Direction, Event, Is, bits_of, events}
use Rattle.gos_netcheck.specs.Accepted.{IsAccepted}
use Rattle.gos_lex.specs.Lines.{Word}
use Rattle.gos_model.specs.Labels.{Label}
use Rattle.gos_pace.specs.Flattening.{port_of}
use Rattle.gos_pulse.specs.EventNames.{event_word, dotted, name_of, name_at, IsInput}
use Rattle.gos_pulse.specs.inner.Slots.{label_of, port_at}
use Rattle.gos_pulse.proofs.GuardLemmas.{IsEventOf, event_from, no_event}
use Rattle.gos_pulse.proofs.PortLemmas.{has_ports}

-- whether a byte is no dot
abbrev is_no_dot : ℕ → Bool
is_no_dot b = not (nat_eq b 46)

dot_among : (front back : Word) → list_all is_no_dot (front ++ 46 ∷ back) ≡ true → ⊥
dot_among [] back none = true≢false (sym none)
dot_among (b ∷ front) back none = dot_among front back (and_parts (is_no_dot b) (list_all is_no_dot (front ++ 46 ∷ back)) none).1

-- a word is cut at its last dot in one way
one_cut : (port port1 word word1 : Word) → list_all is_no_dot word ≡ true → list_all is_no_dot word1 ≡ true → dotted port word ≡ dotted port1 word1 → (port ≡ port1) × (word ≡ word1)
one_cut [] [] word word1 none none1 same = (refl, cc)
one_cut [] (b ∷ port1) word word1 none none1 same =
    let rest : word ≡ port1 ++ 46 ∷ word1 = cc in
    absurd (dot_among port1 word1 (sym (ap (list_all is_no_dot) rest) ∙ none))
one_cut (b ∷ port) [] word word1 none none1 same =
    let rest : port ++ 46 ∷ word ≡ word1 = cc in
    absurd (dot_among port word (ap (list_all is_no_dot) rest ∙ none1))
one_cut (b ∷ port) (c ∷ port1) word word1 none none1 same =
    let first : b ≡ c = cc in
    let rest : port ++ 46 ∷ word ≡ port1 ++ 46 ∷ word1 = cc in
    let parts = one_cut port port1 word word1 none none1 rest in
    (λ i. first i ∷ parts.0 i, parts.1)

-- no word of an event has a dot
no_dots : (ty : Type') (place : ℕ) (number : Option ℕ) (way : Direction) → slice_get (events ty) place ≡ Some (Is way number) → list_all is_no_dot (event_word ty place) ≡ true
no_dots Com zero number way is = refl
no_dots Com (suc zero) number way is = refl
no_dots Com (suc (suc n)) number way is = no_event way number is
no_dots (Exp w) zero number way is = refl
no_dots (Exp w) (suc zero) number way is = refl
no_dots (Exp w) (suc (suc n)) number way is = no_event way number is
no_dots (Var w) zero number way is = refl
no_dots (Var w) (suc zero) number way is = refl
no_dots (Var w) (suc (suc zero)) number way is = refl
no_dots (Var w) (suc (suc (suc zero))) number way is = refl
no_dots (Var w) (suc (suc (suc (suc n)))) number way is = no_event way number is
no_dots (Pair a b) n number way is = no_event way number is
no_dots (Fun a b) n number way is = no_event way number is

-- the place of an event, told by the second letter of its word: run, done; ask, ans; read, ans, write, done
abbrev place_told : Type' → ℕ → ℕ
place_told Com letter = cond (nat_eq letter 117) 0 1
place_told (Exp w) letter = cond (nat_eq letter 115) 0 1
place_told (Var w) letter = cond (nat_eq letter 101) 0 (cond (nat_eq letter 110) 1 (cond (nat_eq letter 114) 2 3))
place_told ty letter = 0

place_is : (ty : Type') (place : ℕ) (number : Option ℕ) (way : Direction) → slice_get (events ty) place ≡ Some (Is way number) → place_told ty (get_or (event_word ty place) 1 0) ≡ place
place_is Com zero number way is = refl
place_is Com (suc zero) number way is = refl
place_is Com (suc (suc n)) number way is = no_event way number is
place_is (Exp w) zero number way is = refl
place_is (Exp w) (suc zero) number way is = refl
place_is (Exp w) (suc (suc n)) number way is = no_event way number is
place_is (Var w) zero number way is = refl
place_is (Var w) (suc zero) number way is = refl
place_is (Var w) (suc (suc zero)) number way is = refl
place_is (Var w) (suc (suc (suc zero))) number way is = refl
place_is (Var w) (suc (suc (suc (suc n)))) number way is = no_event way number is
place_is (Pair a b) n number way is = no_event way number is
place_is (Fun a b) n number way is = no_event way number is

-- where the i-th of two lists' elements stands
either_at : {X : Type 0} (xs ys : List X) (i : ℕ) (x : X) → slice_get (xs ++ ys) i ≡ Some x
    → (slice_get xs i ≡ Some x) ⊎ ((j : ℕ) × (i ≡ length xs + j) × (slice_get ys j ≡ Some x))
either_at [] ys i x h = inr (i, omega arith, h)
either_at (y ∷ xs) ys zero x h = inl h
either_at (y ∷ xs) ys (suc i) x h = elim (either_at xs ys i x h) [
  | inl here ↦ inl here
  | inr later ↦ inr (later.0, omega (arith, later.1), later.2)
]

-- the events of one port stand by their places
placed_at : (k : ℕ) (side : Side) (n : ℕ) (es : List Event) (i : ℕ) (e : seen.Event) → slice_get (port_events k side n es) i ≡ Some e → (e.port ≡ k) × (e.place ≡ n + i)
placed_at k side n [] i e h = let wrong : None ≡ Some e = h in absurd cc
placed_at k side n (Is way number ∷ es) zero e h =
    let one : seen.Event = record { port = k; place = n; input = is_input side way; bits = bits_of number } in
    let same : one ≡ e = cc in
    (sym (ap (λ (x : seen.Event). x.port) same), sym (ap (λ (x : seen.Event). x.place) same) ∙ omega arith)
placed_at k side n (Is way number ∷ es) (suc i) e h =
    let later = placed_at k side (suc n) es i e h in
    (later.0, omega (arith, later.1))

-- no two events have one place of one port
one_index : (k : ℕ) (ports : List NetPort) (i j : ℕ) (e f : seen.Event) → slice_get (events_from k ports) i ≡ Some e → slice_get (events_from k ports) j ≡ Some f → e.port ≡ f.port → e.place ≡ f.place → i ≡ j
one_index k [] i j e f at_e at_f port place = let wrong : None ≡ Some e = at_e in absurd cc
one_index k (p ∷ ps) i j e f at_e at_f port place =
    by (either_at (port_events k p.side 0 (events p.ty)) (events_from (suc k) ps) i e at_e) (either_at (port_events k p.side 0 (events p.ty)) (events_from (suc k) ps) j f at_f)
    (λ m n at_m at_n. one_index (suc k) ps m n e f at_m at_n port place)
  where
    -- an event of this port is none of a later one
    apart : (i j : ℕ) (e f : seen.Event) → slice_get (port_events k p.side 0 (events p.ty)) i ≡ Some e → slice_get (events_from (suc k) ps) j ≡ Some f → e.port ≡ f.port → ⊥
    apart i j e f here later same = omega (arith, (placed_at k p.side 0 (events p.ty) i e here).0, (event_from (suc k) ps j f later).port_is, same)

    by : (slice_get (port_events k p.side 0 (events p.ty)) i ≡ Some e) ⊎ ((m : ℕ) × (i ≡ length (port_events k p.side 0 (events p.ty)) + m) × (slice_get (events_from (suc k) ps) m ≡ Some e))
        → (slice_get (port_events k p.side 0 (events p.ty)) j ≡ Some f) ⊎ ((m : ℕ) × (j ≡ length (port_events k p.side 0 (events p.ty)) + m) × (slice_get (events_from (suc k) ps) m ≡ Some f))
        → ((m n : ℕ) → slice_get (events_from (suc k) ps) m ≡ Some e → slice_get (events_from (suc k) ps) n ≡ Some f → m ≡ n)
        → i ≡ j
    by (inl here) (inl there) rest =
        omega (arith, (placed_at k p.side 0 (events p.ty) i e here).1, (placed_at k p.side 0 (events p.ty) j f there).1, place)
    by (inl here) (inr later) rest = absurd (apart i later.0 e f here later.2 port)
    by (inr later) (inl here) rest = absurd (apart j later.0 f e here later.2 (sym port))
    by (inr m) (inr n) rest =
        let same : m.0 ≡ n.0 = rest m.0 n.0 m.2 n.2 in
        omega (arith, m.1, n.1, same)

module _ (net : Netlist) (accepted : IsAccepted net) where
  -- ports of one name are one
  one_port : (i j : ℕ) (p q : NetPort) → slice_get net.ports i ≡ Some p → slice_get net.ports j ≡ Some q → p.name ≡ q.name → i ≡ j
  one_port i j p q at_p at_q same =
      let first : i < j → ⊥ = λ less. (accepted.ports.each j q at_q).name i p less at_p same in
      let second : j < i → ⊥ = λ less. (accepted.ports.each i p at_p).name j q less at_q (sym same) in
      omega (arith, first, second)

  -- the name of an event, from its port
  its_name : (e : seen.Event) (its : IsEventOf net.ports 0 e) → name_of net.ports e ≡ dotted its.port.name (event_word its.port.ty e.place)
  its_name e its =
      let place : e.port ≡ its.index = omega (arith, its.port_is) in
      ap (λ o. name_at o e.place) (ap (slice_get net.ports) place ∙ its.at)

  -- a name is that of one input event at most
  pub one_input : (i j : ℕ) (e f : seen.Event) (name : Word) → IsInput net i e name → IsInput net j f name → (i ≡ j) × (e ≡ f)
  one_input i j e f name one other =
      let its = event_from 0 net.ports i e one.there in
      let has = event_from 0 net.ports j f other.there in
      let same : dotted its.port.name (event_word its.port.ty e.place) ≡ dotted has.port.name (event_word has.port.ty f.place) =
      sym (its_name e its) ∙ one.named ∙ sym other.named ∙ its_name f has in
      let parts = one_cut its.port.name has.port.name (event_word its.port.ty e.place) (event_word has.port.ty f.place)
      (no_dots its.port.ty e.place its.number its.way its.event) (no_dots has.port.ty f.place has.number has.way has.event) same in
      let index : its.index ≡ has.index = one_port its.index has.index its.port has.port its.at has.at parts.0 in
      let both : Some its.port ≡ Some has.port = sym its.at ∙ ap (slice_get net.ports) index ∙ has.at in
      let port : its.port ≡ has.port = cc in
      let type : its.port.ty ≡ has.port.ty = ap (λ (p : NetPort). p.ty) port in
      let place : e.place ≡ f.place =
      sym (place_is its.port.ty e.place its.number its.way its.event)
      ∙ (λ m. place_told (type m) (get_or (parts.1 m) 1 0))
      ∙ place_is has.port.ty f.place has.number has.way has.event in
      let number : i ≡ j = one_index 0 net.ports i j e f one.there other.there (omega (arith, its.port_is, has.port_is, index)) place in
      let found : Some e ≡ Some f = sym one.there ∙ ap (slice_get (events_of net)) number ∙ other.there in
      (number, cc)

  -- a label is that of one event
  pub one_labelled : (i j : ℕ) (e f : seen.Event) (value other : ℕ) → slice_get (events_of net) i ≡ Some e → slice_get (events_of net) j ≡ Some f → label_of net.ports e value ≡ label_of net.ports f other → i ≡ j
  one_labelled i j e f value other at_e at_f label =
      let its = event_from 0 net.ports i e at_e in
      let has = event_from 0 net.ports j f at_f in
      let its_port : e.port ≡ its.index = omega (arith, its.port_is) in
      let has_port : f.port ≡ has.index = omega (arith, has.port_is) in
      let port : port_of its.port.side its.port.name ≡ port_of has.port.side has.port.name =
      ap port_at (sym (ap (slice_get net.ports) its_port ∙ its.at)) ∙ ap (λ (l : Label). l.port) label ∙ ap port_at (ap (slice_get net.ports) has_port ∙ has.at) in
      let index : its.index ≡ has.index = (has_ports net accepted).differ its.index has.index its.port has.port its.at has.at port in
      one_index 0 net.ports i j e f at_e at_f (its_port ∙ index ∙ sym has_port) (ap (λ (l : Label). l.event) label)
