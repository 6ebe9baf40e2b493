-- Gates that keep the law for firings in any order keep it for those in each order. So gates of which no two handshakes lead on
-- in one cycle by what the part keeps need know no order.
--
-- Read first: Law; Counting.
use Rattle.std.specs.Prelude.{◌&&◌, ◌||◌, nat_lt, slice_get}
use Rattle.std.proofs.Common.{◌≡◌, ℕ, zero, suc, ◌+◌, ◌≤◌, ◌<◌, Bool, true, false, not, List, [], ◌∷◌, ◌++◌, Some, length, refl, sym, ◌∙◌, ap, subst, arith, nat_eq}
use Rattle.gos_netlist.specs.Nets.{Cell}
use Rattle.gos_netlist.specs.Settling.{Numbers}
use Rattle.gos_plan.specs.Kinds.{Part, Contact, part_contacts}
use Rattle.gos_plan.specs.Firing.{State, Slot, Token}
use Rattle.gos_plan.specs.Firings.{due, value_due, times}
use Rattle.gos_macro.specs.Gates.{Incoming, Outgoing, slots_of, is_among, pulse_in, NetsShow, Shows, ShowOne}
use Rattle.gos_macro.specs.Law.{pulse_at, pulsed, Fired, Order, in_order, early_in_order, FiredInOrder, PulsesComeIn, GatesLaw, LawInOrder}
use Rattle.gos_macro.specs.laws.Counting.{times-append, those_once, as_often, split_times, none_chosen, slots_same}

-- those of these handshakes whose ranks are below r
abbrev pub ranked_below : Order → ℕ → (ℕ → Bool) → ℕ → Bool
ranked_below rank r these h = these h && nat_lt (rank h) r

-- in order each of their slots stands as often as by number
pub in_order_times : (rank : Order) (r : ℕ) (these : ℕ → Bool) (cs : List Contact) (s : Slot)
    → times s (in_order rank r these cs) ≡ times s (slots_of (ranked_below rank r these) 0 cs)
in_order_times rank zero these cs s = sym (ap (times s) (none_chosen (ranked_below rank 0 these) 0 cs (λ g. never (these g) (rank g))))
  where
    never : (b : Bool) (m : ℕ) → (b && nat_lt m 0) ≡ false
    never true m = grind arith
    never false m = refl
in_order_times rank (suc r) these cs s =
    times-append s (in_order rank r these cs) (slots_of (λ h. these h && nat_eq (rank h) r) 0 cs)
    ∙ (ap (λ (m : ℕ). m + times s (slots_of (λ h. these h && nat_eq (rank h) r) 0 cs)) (in_order_times rank r these cs s)
    ∙ sym (split_times (ranked_below rank r these) (λ h. these h && nat_eq (rank h) r) (ranked_below rank (suc r) these) s 0 cs
    (λ g. joins (these g) (rank g)) (λ g. apart (these g) (rank g))))
  where
    joins : (b : Bool) (m : ℕ) → (b && nat_lt m (suc r)) ≡ ((b && nat_lt m r) || (b && nat_eq m r))
    joins true m = grind arith
    joins false m = refl

    apart : (b : Bool) (m : ℕ) → (b && nat_lt m r) ≡ true → (b && nat_eq m r) ≡ false
    apart true m h = grind (arith, h)
    apart false m h = refl

-- below a number above all ranks there are all of them
pub all_below_top : (rank : Order) (top : ℕ) (these : ℕ → Bool) (cs : List Contact) → ((h : ℕ) → h < length cs → rank h < top)
    → slots_of (ranked_below rank top these) 0 cs ≡ slots_of these 0 cs
all_below_top rank top these cs above = slots_same (ranked_below rank top these) these 0 cs (λ m lt. by_test (these m) (rank m) (above m (omega (arith, lt))))
  where
    by_test : (b : Bool) (r : ℕ) → r < top → (b && nat_lt r top) ≡ b
    by_test true r lt = grind (arith, lt)
    by_test false r lt = refl

-- so of these slots, those that have a pulse are each there once, in whichever order
pub exactly_in_order : (f : ℕ → ℕ) (rank : Order) (top : ℕ) (these : ℕ → Bool) (cs : List Contact) → ((h : ℕ) → h < length cs → rank h < top)
    → ((h : ℕ) → h < length cs → these h ≡ true → f h ≤ 1) → (s : Slot)
    → times s (pulsed f (in_order rank top these cs)) ≡ pulse_at f s (slots_of these 0 cs)
exactly_in_order f rank top these cs above small s =
    as_often f s (in_order rank top these cs) (slots_of these 0 cs) (in_order_times rank top these cs s ∙ ap (times s) (all_below_top rank top these cs above))
    ∙ those_once f these 0 cs s (λ g lt is. small g (omega (arith, lt)) is)

-- the firings of a cycle in an order are firings in some order
pub fired_in_some : (k : Part) (late : List ℕ) (rank : Order) (v : Numbers) (i : Incoming) (q s : State) (ts us : List Token) → PulsesComeIn k v i
    → FiredInOrder k late rank v i q s ts us → Fired k late v i q s ts us
fired_in_some k late rank v i q s ts us pulses fired =
    record {
      before = fired.before;
      between = fired.between;
      behind = fired.behind;
      state = fired.state;
      list = pulsed (pulse_in v i) (early_in_order k late rank fired.top);
      exactly = exactly_in_order (pulse_in v i) rank fired.top (λ h. not (is_among late h)) (part_contacts k) fired.above (λ h small is. pulses h small);
      sooner = fired.sooner;
      later = fired.later;
    }

-- the nets of one handshake show what is due there, if that is one token at most; and so do those of each from handshake j on
abbrev AloneShown : Numbers → Outgoing → List Token → ℕ → Type 0
AloneShown v o ts j = due j ts ≤ 1 → NetsShow v o (due j ts) (value_due j ts)

abbrev pub EachShown : Numbers → ℕ → List Outgoing → List Token → Type 0
EachShown v j [] ts = Unit {0}
EachShown v j (o ∷ os) ts = (due j ts ≤ 1 → NetsShow v o (due j ts) (value_due j ts)) × EachShown v (suc j) os ts

each_from : (v : Numbers) (j : ℕ) (os : List Outgoing) (ts : List Token) → EachShown v j os ts
    → (m : ℕ) (o : Outgoing) → slice_get os m ≡ Some o → AloneShown v o ts (j + m)
each_from v j [] ts shown m o is = absurd (cc is)
each_from v j (x ∷ os) ts shown zero o is =
    let same : x ≡ o = cc is in
    let here : j ≡ j + 0 = omega arith in
    subst (λ (y : Outgoing). AloneShown v y ts (j + 0)) same (subst (λ (n : ℕ). AloneShown v x ts n) here shown.0)
each_from v j (x ∷ os) ts shown (suc m) o is =
    let here : suc j + m ≡ j + suc m = omega arith in
    subst (λ (n : ℕ). AloneShown v o ts n) here (each_from v (suc j) os ts shown.1 m o is)

pub shown_each : (v : Numbers) (os : List Outgoing) (ts : List Token) → EachShown v 0 os ts → ShowOne v os ts
shown_each v os ts shown j o is =
    let here : 0 + j ≡ j = omega arith in
    subst (λ (n : ℕ). AloneShown v o ts n) here (each_from v 0 os ts shown j o is)

-- nets that show all tokens, at most one each, show each that is due alone
each_of : (v : Numbers) (j : ℕ) (os : List Outgoing) (ts : List Token) → Shows v j os ts → EachShown v j os ts
each_of v j [] ts shows = tt
each_of v j (o ∷ os) ts shows = ((λ alone. shows.1), each_of v (suc j) os ts shows.2)

pub show_one : (v : Numbers) (os : List Outgoing) (ts : List Token) → Shows v 0 os ts → ShowOne v os ts
show_one v os ts shows = shown_each v os ts (each_of v 0 os ts shows)

-- the law for firings in any order gives that for each order
pub law_in_order : (k : Part) (cells : ℕ → Incoming → List Cell) (outs : ℕ → List Outgoing) (late : List ℕ) (pending : ℕ → Numbers → List Token)
    → (stands : ℕ → Numbers → State → Type 0) → GatesLaw k cells outs late pending stands → (rank : Order) → LawInOrder k cells outs late pending stands rank
law_in_order k cells outs late pending stands law rank b i v regs after q s ts us settled pulses values at_state fired =
    let kept = law b i v regs after q s ts us settled pulses values at_state (fired_in_some k late rank v i q s ts us pulses fired) in
    (show_one v (outs b) (pending b regs ++ ts) kept.0, kept.1, kept.2)
