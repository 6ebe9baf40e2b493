-- Slots with a pulse, and firings by them, where pulses and values agree.
use Rattle.std.proofs.Common.{◌≡◌, ℕ, zero, suc, ◌+◌, ◌<◌, ◌≤◌, Bool, true, false, List, [], ◌∷◌, ◌++◌, length, refl, sym, ◌∙◌, ap, subst, arith, if◌then◌else◌}
use Rattle.std.specs.Prelude.{nat_eq, ◌&&◌}
use Rattle.gos_plan.specs.Kinds.{Part, Contact}
use Rattle.gos_plan.specs.Firing.{State, Slot, Req, Ans, Token, same_slot}
use Rattle.gos_plan.specs.Tokens.{shake_of}
use Rattle.gos_macro.specs.Gates.{incoming_bits, slot_in, slots_of}
use Rattle.gos_macro.specs.Law.{pulse_at, pulsed, Order, in_order}
use Rattle.gos_macro.specs.laws.Counting.{shake_in}
use Rattle.gos_plan.specs.Firings.{Asked, after_taking, after_putting, PutsWell, Fires, times}
use Rattle.gos_plan.specs.laws.Inversion.{same as same_slots}

-- pulses that agree at some handshakes are those of the same slots
same_pulsed : (p r : ℕ → ℕ) (these : ℕ → Bool) (limit : ℕ) → ((h : ℕ) → h < limit → these h ≡ true → p h ≡ r h)
    → (h : ℕ) (cs : List Contact) → h + length cs ≤ limit → pulsed p (slots_of these h cs) ≡ pulsed r (slots_of these h cs)
same_pulsed p r these limit same h [] within = refl
same_pulsed p r these limit same h (c ∷ cs) within =
    by_test (these h) (same h (omega (arith, within))) (same_pulsed p r these limit same (suc h) cs (omega (arith, within))) refl
  where
    at_slot : p h ≡ r h → p (shake_of (slot_in c.role h)) ≡ r (shake_of (slot_in c.role h))
    at_slot here = ap p (shake_in c.role h) ∙ (here ∙ ap r (sym (shake_in c.role h)))

    by_test : (t : Bool) → (these h ≡ true → p h ≡ r h) → pulsed p (slots_of these (suc h) cs) ≡ pulsed r (slots_of these (suc h) cs) → these h ≡ t
        → pulsed p (if t then slot_in c.role h ∷ slots_of these (suc h) cs else slots_of these (suc h) cs)
        ≡ pulsed r (if t then slot_in c.role h ∷ slots_of these (suc h) cs else slots_of these (suc h) cs)
    by_test true here rest is =
        λ j. if nat_eq (at_slot (here is) j) 1 then slot_in c.role h ∷ rest j else rest j
    by_test false here rest is = rest

pub pulsed-append : (p : ℕ → ℕ) (xs ys : List Slot) → pulsed p (xs ++ ys) ≡ pulsed p xs ++ pulsed p ys
pulsed-append p [] ys = refl
pulsed-append p (x ∷ xs) ys = by_test (nat_eq (p (shake_of x)) 1) (pulsed-append p xs ys)
  where
    by_test : (b : Bool) → pulsed p (xs ++ ys) ≡ pulsed p xs ++ pulsed p ys
        → (if b then x ∷ pulsed p (xs ++ ys) else pulsed p (xs ++ ys)) ≡ (if b then x ∷ pulsed p xs else pulsed p xs) ++ pulsed p ys
    by_test true h = ap (λ (l : List Slot). x ∷ l) h
    by_test false h = h

-- in each order, below a rank
pub same_in_order : (p r : ℕ → ℕ) (rank : Order) (these : ℕ → Bool) (cs : List Contact) (top : ℕ)
    → ((h : ℕ) → h < length cs → these h ≡ true → rank h < top → p h ≡ r h) → pulsed p (in_order rank top these cs) ≡ pulsed r (in_order rank top these cs)
same_in_order p r rank these cs zero same = refl
same_in_order p r rank these cs (suc top) same =
    pulsed-append p (in_order rank top these cs) here
    ∙ ((λ j. same_in_order p r rank these cs top (λ h small is low. same h small is (omega (arith, low))) j
    ++ same_pulsed p r chosen (length cs) (λ h small is. at_top h small (these h) refl is) 0 cs (omega arith) j)
    ∙ sym (pulsed-append r (in_order rank top these cs) here))
  where
    chosen : ℕ → Bool
    chosen h = these h && nat_eq (rank h) top

    here : List Slot
    here = slots_of chosen 0 cs

    at_top : (h : ℕ) → h < length cs → (x : Bool) → these h ≡ x → (x && nat_eq (rank h) top) ≡ true → p h ≡ r h
    at_top h small true is same_rank = let equal : rank h ≡ top = grind (arith, same_rank) in same h small is (omega (arith, equal))
    at_top h small false is same_rank = absurd (cc same_rank)

-- where there are no pulses, no slot has one
pub none_pulsed : (p : ℕ → ℕ) (these : ℕ → Bool) (limit : ℕ) → ((h : ℕ) → h < limit → these h ≡ true → p h ≡ 0)
    → (h : ℕ) (cs : List Contact) → h + length cs ≤ limit → pulsed p (slots_of these h cs) ≡ []
none_pulsed p these limit none h [] within = refl
none_pulsed p these limit none h (c ∷ cs) within =
    by_test (these h) (none h (omega (arith, within))) (none_pulsed p these limit none (suc h) cs (omega (arith, within))) refl
  where
    by_test : (t : Bool) → (these h ≡ true → p h ≡ 0) → pulsed p (slots_of these (suc h) cs) ≡ [] → these h ≡ t
        → pulsed p (if t then slot_in c.role h ∷ slots_of these (suc h) cs else slots_of these (suc h) cs) ≡ []
    by_test true here rest is =
        let zeroth = ap p (shake_in c.role h) ∙ here is in
        ap (λ (x : ℕ). if nat_eq x 1 then slot_in c.role h ∷ pulsed p (slots_of these (suc h) cs) else pulsed p (slots_of these (suc h) cs)) zeroth ∙ rest
    by_test false here rest is = rest

-- only handshakes of the part have bits
pub bits_within : (cs : List Contact) (h : ℕ) → 0 < incoming_bits cs h → h < length cs
bits_within [] h some = absurd (omega (arith, some))
bits_within (c ∷ cs) zero some = omega arith
bits_within (c ∷ cs) (suc h) some = let rest = bits_within cs h some in omega (arith, rest)

-- values agree where there are bits
pub same_value : (bits a c : ℕ) → (0 < bits → a ≡ c) → (if nat_eq bits 0 then 0 else a) ≡ (if nat_eq bits 0 then 0 else c)
same_value zero a c same = refl
same_value (suc bits) a c same = let some : nat_eq (suc bits) 0 ≡ false = grind arith in rw some (same (omega arith))

-- a value that has bits is there
pub has_value : (bits a : ℕ) → 0 < bits → (if nat_eq bits 0 then 0 else a) ≡ a
has_value zero a some = absurd (omega (arith, some))
has_value (suc bits) a some = let other : nat_eq (suc bits) 0 ≡ false = grind arith in rw other refl

-- a value fits where it does so as soon as it has bits
pub value_fits : (bits a limit : ℕ) → 0 < limit → (0 < bits → a < limit) → (if nat_eq bits 0 then 0 else a) < limit
value_fits zero a limit some fits = some
value_fits (suc bits) a limit some fits = let other : nat_eq (suc bits) 0 ≡ false = grind arith in rw other (fits (omega arith))

-- a slot that has a pulse among these is of one of these handshakes, and that is its pulse
pub record Pulsing (p : ℕ → ℕ) (these : ℕ → Bool) (limit : ℕ) (s : Slot) : Type 0 where
  pub within : shake_of s < limit
  pub among : these (shake_of s) ≡ true
  pub some : 1 ≤ p (shake_of s)

pub pulsing : (p : ℕ → ℕ) (these : ℕ → Bool) (limit : ℕ) (s : Slot) (h : ℕ) (cs : List Contact) → h + length cs ≤ limit
    → 1 ≤ pulse_at p s (slots_of these h cs) → Pulsing p these limit s
pulsing p these limit s h [] within some = absurd (omega (arith, some))
pulsing p these limit s h (c ∷ cs) within some =
    by_test (these h) refl some (pulsing p these limit s (suc h) cs (omega (arith, within)))
  where
    here : these h ≡ true → slot_in c.role h ≡ s → 1 ≤ p (shake_of (slot_in c.role h)) → Pulsing p these limit s
    here is place pulse =
        let shake : h ≡ shake_of s = sym (shake_in c.role h) ∙ ap shake_of place in
        record {
          within = subst (λ (j : ℕ). j < limit) shake (omega (arith, within));
          among = subst (λ (j : ℕ). these j ≡ true) shake is;
          some = subst (λ (j : ℕ). 1 ≤ p j) (ap shake_of place) pulse;
        }

    by_slot : (t : Bool) → same_slot (slot_in c.role h) s ≡ t → these h ≡ true
        → 1 ≤ (if t then p (shake_of (slot_in c.role h)) else pulse_at p s (slots_of these (suc h) cs))
        → (1 ≤ pulse_at p s (slots_of these (suc h) cs) → Pulsing p these limit s) → Pulsing p these limit s
    by_slot true same is pulse rest = here is (same_slots (slot_in c.role h) s same) pulse
    by_slot false same is pulse rest = rest pulse

    by_test : (t : Bool) → these h ≡ t
        → 1 ≤ pulse_at p s (if t then slot_in c.role h ∷ slots_of these (suc h) cs else slots_of these (suc h) cs)
        → (1 ≤ pulse_at p s (slots_of these (suc h) cs) → Pulsing p these limit s) → Pulsing p these limit s
    by_test true is pulse rest = by_slot (same_slot (slot_in c.role h) s) refl is pulse rest
    by_test false is pulse rest = rest pulse

-- A part fires the same by values that agree at the slots by which it fires.
pub fires_same : (k : Part) (x y : ℕ → ℕ) (o : Asked) (q : State) (fs : List Slot) (p : Asked) (r : State) (ts : List Token)
    → ((s : Slot) → 1 ≤ times s fs → x (shake_of s) ≡ y (shake_of s)) → Fires k x o q fs p r ts → Fires k y o q fs p r ts
fires_same k x y o q [] p r ts same fires = fires
fires_same k x y o q (s ∷ ss) p r ts same (w, us, is, well, puts, go) =
    let first : same_slot s s ≡ true = same_itself s in
    let here : x (shake_of s) ≡ y (shake_of s) = same s (rw first (omega arith)) in
    let rest = fires_same k x y (after_putting (w.puts (x (shake_of s))) (after_taking s o)) (w.next (x (shake_of s))) ss p r us (λ f listed. same f (more (same_slot s f) (times f ss) listed)) go in (
      w,
      us,
      is,
      subst (λ (n : ℕ). PutsWell (w.puts n) (after_taking s o)) here well,
      subst (λ (n : ℕ). ts ≡ w.puts n ++ us) here puts,
      subst (λ (n : ℕ). Fires k y (after_putting (w.puts n) (after_taking s o)) (w.next n) ss p r us) here rest,
    )
  where
    same_itself : (s : Slot) → same_slot s s ≡ true
    same_itself (Req h) = grind arith
    same_itself (Ans h) = grind arith

    more : (t : Bool) (n : ℕ) → 1 ≤ n → 1 ≤ (if t then suc n else n)
    more true n some = omega (arith, some)
    more false n some = some
