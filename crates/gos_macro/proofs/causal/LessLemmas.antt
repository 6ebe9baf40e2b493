-- What the gates show where all that comes in late or outside of a set of handshakes is left out: by the law of gates, what
-- the firings by the set put.
use Rattle.std.proofs.Common.{◌≡◌, inl, inr, ℕ, ◌+◌, ◌^◌, ◌<◌, ◌≤◌, Bool, true, false, not, List, [], ◌++◌, length, refl, sym, ◌∙◌, subst, arith, pow_pos, if◌then◌else◌}
use Rattle.gos_netlist.specs.Nets.{Cell}
use Rattle.gos_netlist.specs.Settling.{Numbers, at}
use Rattle.gos_plan.specs.Kinds.{Part, part_contacts}
use Rattle.gos_plan.specs.Firing.{State, Slot, Token}
use Rattle.gos_plan.specs.Tokens.{shake_of}
use Rattle.gos_macro.specs.Gates.{Incoming, Outgoing, incoming_bits, pulse_in, value_in, is_among, ShowOne}
use Rattle.gos_macro.specs.Law.{pulsed, late_slots, Order, early_in_order, FiredInOrder, PulsesComeIn}
use Rattle.gos_plan.specs.Firings.{Fires, times}
use Rattle.gos_macro.specs.causal.Causal.{Set, pulses_of, PartlyFired, ComeInRange, FollowRows}
use Rattle.gos_macro.specs.laws.AnyOrder.{exactly_in_order}
use Rattle.gos_macro.proofs.causal.SpreadLemmas.{of_pulse, of_value}
use Rattle.gos_macro.proofs.causal.FiringLemmas.{same_in_order, none_pulsed, bits_within, same_value, has_value, value_fits, pulsing, fires_same}
use Rattle.gos_macro.proofs.causal.PartedLemmas.{shakes, wires, cut, values, Parted}

-- what the second settling has at the wires
pub less_pulse : (k : Part) (cells : ℕ → Incoming → List Cell) (late : List ℕ) (b : ℕ) (i : Incoming) (v regs : Numbers) (inside : Set)
    → (x : Parted k cells late b i v regs inside) → (h : ℕ) → h < shakes k
    → pulse_in x.less.now (wires k cells b i) h ≡ cut late inside (pulse_in v i) h
less_pulse k cells late b i v regs inside x h small =
    x.less.comes h ((wires k cells b i).pulse h) small (inl refl)
    ∙ of_pulse (b + length (cells b i)) (shakes k) (cut late inside (pulse_in v i)) (cut late inside (values v i)) (λ n. 0) h small

pub less_number : (k : Part) (cells : ℕ → Incoming → List Cell) (late : List ℕ) (b : ℕ) (i : Incoming) (v regs : Numbers) (inside : Set)
    → (x : Parted k cells late b i v regs inside) → (h : ℕ) → 0 < incoming_bits (part_contacts k) h
    → at x.less.now ((wires k cells b i).value h) ≡ cut late inside (values v i) h
less_number k cells late b i v regs inside x h some =
    let small = bits_within (part_contacts k) h some in
    x.less.comes h ((wires k cells b i).value h) small (inr (some, refl))
    ∙ of_value (b + length (cells b i)) (shakes k) (cut late inside (pulse_in v i)) (cut late inside (values v i)) (λ n. 0) h small

-- what is left out, and what isn't
left_out : (a c : Bool) (p : ℕ) → a ≡ true → (if a then 0 else (if c then p else 0)) ≡ 0
left_out true c p e = refl
left_out false c p e = cc e

kept_in : (a c : Bool) (p : ℕ) → not a ≡ true → (if c then p else 0) ≡ (if a then 0 else (if c then p else 0))
kept_in true c p e = cc e
kept_in false c p e = refl

below_cut : (a c : Bool) (p limit : ℕ) → 0 < limit → (c ≡ true → a ≡ false → p < limit) → (if a then 0 else (if c then p else 0)) < limit
below_cut true c p limit some fits = some
below_cut false true p limit some fits = fits refl refl
below_cut false false p limit some fits = some

pub counted : (a c : Bool) (p : ℕ) → (a ≡ true → ⊥) → c ≡ true → p ≡ (if a then 0 else (if c then p else 0))
counted true c p early e = absurd (early refl)
counted false true p early e = refl
counted false false p early e = cc e

not_late : (a : Bool) → not a ≡ true → a ≡ true → ⊥
not_late true e h = cc e
not_late false e h = cc h

is_early : (a : Bool) → not a ≡ true → a ≡ false
is_early true e = cc e
is_early false e = refl

at_most_one : (c : Bool) (p : ℕ) → (c ≡ true → p ≤ 1) → (if c then p else 0) ≤ 1
at_most_one true p small = small refl
at_most_one false p small = omega arith

in_set : (c : Bool) (p : ℕ) → 1 ≤ (if c then p else 0) → c ≡ true
in_set true p some = refl
in_set false p some = absurd (omega (arith, some))

-- the values that come in are the same where they count
less_value : (k : Part) (cells : ℕ → Incoming → List Cell) (late : List ℕ) (b : ℕ) (i : Incoming) (v regs : Numbers) (inside : Set)
    → (x : Parted k cells late b i v regs inside) → (h : ℕ) → (is_among late h ≡ true → ⊥) → inside h ≡ true
    → value_in k v i h ≡ value_in k x.less.now (wires k cells b i) h
less_value k cells late b i v regs inside x h early is =
    same_value (incoming_bits (part_contacts k) h) (at v (i.value h)) (at x.less.now ((wires k cells b i).value h))
    (λ some. counted (is_among late h) (inside h) (values v i h) early is ∙ sym (less_number k cells late b i v regs inside x h some))

-- so the part fires by the rest, and nothing is late
less_fired : (k : Part) (cells : ℕ → Incoming → List Cell) (late : List ℕ) (rank : Order) (b : ℕ) (i : Incoming) (v regs : Numbers) (inside : Set) (q s : State) (ts : List Token)
    → (x : Parted k cells late b i v regs inside) → ComeInRange k late v i inside → PartlyFired k late rank v i inside q s ts
    → FiredInOrder k late rank x.less.now (wires k cells b i) q s ts []
less_fired k cells late rank b i v regs inside q s ts x range fired =
    record {
      before = fired.before;
      between = fired.behind;
      behind = fired.behind;
      state = s;
      top = fired.top;
      above = fired.above;
      sooner =
          subst (λ (l : List Slot). Fires k (value_in k x.less.now (wires k cells b i)) fired.before q l fired.behind s ts)
          (same_in_order (pulses_of inside (pulse_in v i)) pulse rank these (part_contacts k) fired.top (λ h small kept low. early h small kept))
          (fires_same k (value_in k v i) (value_in k x.less.now (wires k cells b i)) fired.before q slots fired.behind s ts listed fired.fires);
      later = subst (λ (l : List Slot). Fires k (value_in k x.less.now (wires k cells b i)) fired.behind s l fired.behind s []) (sym nothing) (refl, refl, refl);
    }
  where
    pulse : ℕ → ℕ
    pulse = pulse_in x.less.now (wires k cells b i)

    these : ℕ → Bool
    these h = not (is_among late h)

    slots : List Slot
    slots = pulsed (pulses_of inside (pulse_in v i)) (early_in_order k late rank fired.top)

    small_early : (h : ℕ) → h < shakes k → these h ≡ true → pulses_of inside (pulse_in v i) h ≤ 1
    small_early h small kept = at_most_one (inside h) (pulse_in v i h) (λ is. (range h small is (is_early (is_among late h) kept)).0)

    early : (h : ℕ) → h < shakes k → these h ≡ true → pulses_of inside (pulse_in v i) h ≡ pulse h
    early h small kept = kept_in (is_among late h) (inside h) (pulse_in v i h) kept ∙ sym (less_pulse k cells late b i v regs inside x h small)

    nothing : pulsed pulse (late_slots k late) ≡ []
    nothing =
        none_pulsed pulse (is_among late) (shakes k)
        (λ h small waits. less_pulse k cells late b i v regs inside x h small ∙ left_out (is_among late h) (inside h) (pulse_in v i h) waits)
        0 (part_contacts k) (omega arith)

    listed : (t : Slot) → 1 ≤ times t slots → value_in k v i (shake_of t) ≡ value_in k x.less.now (wires k cells b i) (shake_of t)
    listed t some =
        let there = pulsing (pulses_of inside (pulse_in v i)) these (shakes k) t 0 (part_contacts k) (omega arith) (subst (λ (n : ℕ). 1 ≤ n) (exactly_in_order (pulses_of inside (pulse_in v i)) rank fired.top these (part_contacts k) fired.above small_early t) some) in
        less_value k cells late b i v regs inside x (shake_of t) (not_late (is_among late (shake_of t)) there.among) (in_set (inside (shake_of t)) (pulse_in v i (shake_of t)) there.some)

-- what comes in is in range
less_pulses : (k : Part) (cells : ℕ → Incoming → List Cell) (late : List ℕ) (b : ℕ) (i : Incoming) (v regs : Numbers) (inside : Set)
    → (x : Parted k cells late b i v regs inside) → ComeInRange k late v i inside → PulsesComeIn k x.less.now (wires k cells b i)
less_pulses k cells late b i v regs inside x range h small =
    let below = below_cut (is_among late h) (inside h) (pulse_in v i h) 2 (omega arith) (λ is early. let fits = (range h small is early).0 in omega (arith, fits)) in
    omega (arith, below, less_pulse k cells late b i v regs inside x h small)

less_values : (k : Part) (cells : ℕ → Incoming → List Cell) (late : List ℕ) (b : ℕ) (i : Incoming) (v regs : Numbers) (inside : Set)
    → (x : Parted k cells late b i v regs inside) → ComeInRange k late v i inside
    → (h : ℕ) → value_in k x.less.now (wires k cells b i) h < 2 ^ incoming_bits (part_contacts k) h
less_values k cells late b i v regs inside x range h =
    value_fits (incoming_bits (part_contacts k) h) (at x.less.now ((wires k cells b i).value h)) (2 ^ incoming_bits (part_contacts k) h) positive
    (λ some. subst (λ (n : ℕ). n < 2 ^ incoming_bits (part_contacts k) h) (sym (less_number k cells late b i v regs inside x h some))
    (below_cut (is_among late h) (inside h) (values v i h) (2 ^ incoming_bits (part_contacts k) h) positive
    (λ is early. subst (λ (n : ℕ). n < 2 ^ incoming_bits (part_contacts k) h) (has_value (incoming_bits (part_contacts k) h) (values v i h) some) (range h (bits_within (part_contacts k) h some) is early).1)))
  where
    positive : 0 < 2 ^ incoming_bits (part_contacts k) h
    positive = pow_pos (incoming_bits (part_contacts k) h)

-- and the gates show what is put
pub less_shows : (k : Part) (cells : ℕ → Incoming → List Cell) (outs : ℕ → List Outgoing) (late : List ℕ) (rank : Order) (b : ℕ) (i : Incoming) (v regs : Numbers) (inside : Set)
    → (q s : State) (pending ts : List Token) → FollowRows k cells outs late rank b regs q pending → (x : Parted k cells late b i v regs inside)
    → ComeInRange k late v i inside → PartlyFired k late rank v i inside q s ts → ShowOne x.less.now (outs b) (pending ++ ts)
less_shows k cells outs late rank b i v regs inside q s pending ts follow x range fired =
    follow (wires k cells b i) x.less.now x.less.after s ts [] x.less.settled (less_pulses k cells late b i v regs inside x range)
    (less_values k cells late b i v regs inside x range) (less_fired k cells late rank b i v regs inside q s ts x range fired)
