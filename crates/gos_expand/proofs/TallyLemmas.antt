-- Counting: slots, tokens and firings in lists.
use Rattle.std.proofs.Common.{◌≡◌, ℕ, zero, suc, ◌+◌, ◌≤◌, ◌<◌, Bool, true, false, List, [], ◌∷◌, ◌++◌, Some, slice_get, length, Contains, refl, sym, ◌∙◌, ap, subst, arith, nat_eq, append_assoc, if◌then◌else◌}
use Rattle.gos_types.specs.declared.shakes.Role.{Role}
use Rattle.gos_types.specs.declared.shakes.Role.TheVariants.{Serve, Ask}
use Rattle.gos_netlist.specs.Nets.{Cell}
use Rattle.gos_plan.specs.Kinds.{Part, Contact}
use Rattle.gos_plan.specs.Firing.{State, Slot, Req, Ans, Token, same_slot}
use Rattle.gos_plan.specs.Tokens.{Element, Fire, Out, In, shake_of}
use Rattle.gos_macro.specs.Gates.{Outgoing, slot_in, slots_of}
use Rattle.gos_plan.specs.Firings.{due, value_due, Asked, Fires, times}
use Rattle.gos_macro.specs.Fit.{GoesOut, AllGoOut}
use Rattle.gos_macro.specs.Law.{pulse_at}
pub use Rattle.gos_macro.specs.laws.Counting.{times-append, apart, shake_in, each_once}
use Rattle.gos_plan.specs.Made.{PartFiring, fires_of}
use Rattle.gos_plan.specs.Projection.{firings_of}
use Rattle.gos_plan.specs.laws.Inversion.{same}

-- firings in two lists, one after the other
pub record Split (k : Part) (x : ℕ → ℕ) (xs ys : List Slot) (o p : Asked) (q r : State) (ts : List Token) : Type 0 where
  pub mid : Asked
  pub state : State
  pub first : List Token
  pub second : List Token
  pub one : Fires k x o q xs mid state first
  pub two : Fires k x mid state ys p r second
  pub puts : ts ≡ first ++ second

pub fires_split : (k : Part) (x : ℕ → ℕ) (xs ys : List Slot) (o p : Asked) (q r : State) (ts : List Token) → Fires k x o q (xs ++ ys) p r ts
    → Split k x xs ys o p q r ts
fires_split k x [] ys o p q r ts f = record { mid = o; state = q; first = []; second = ts; one = (refl, refl, refl); two = f; puts = refl }
fires_split k x (s ∷ ss) ys o p q r ts (w, us, fire, well, puts, rest) =
    let m = fires_split k x ss ys _ p _ r us rest in
    record {
      mid = m.mid;
      state = m.state;
      first = w.puts (x (shake_of s)) ++ m.first;
      second = m.second;
      one = (w, m.first, fire, well, refl, m.one);
      two = m.two;
      puts = puts ∙ (ap (λ (l : List Token). w.puts (x (shake_of s)) ++ l) m.puts ∙ sym (append_assoc (w.puts (x (shake_of s))) m.first m.second));
    }

-- what is due in two lists
pub due-append : (j : ℕ) (ts us : List Token) → due j (ts ++ us) ≡ due j ts + due j us
due-append j [] us = omega arith
due-append j (t ∷ ts) us = by_test (nat_eq (shake_of t.slot) j) (due-append j ts us)
  where
    by_test : (b : Bool) → due j (ts ++ us) ≡ due j ts + due j us
        → (if b then suc (due j (ts ++ us)) else due j (ts ++ us)) ≡ (if b then suc (due j ts) else due j ts) + due j us
    by_test true h = omega (arith, h)
    by_test false h = h

pub value_due-append : (j : ℕ) (ts us : List Token) → value_due j (ts ++ us) ≡ value_due j ts + value_due j us
value_due-append j [] us = omega arith
value_due-append j (t ∷ ts) us = by_test (nat_eq (shake_of t.slot) j) (value_due-append j ts us)
  where
    by_test : (b : Bool) → value_due j (ts ++ us) ≡ value_due j ts + value_due j us
        → (if b then t.value + value_due j (ts ++ us) else value_due j (ts ++ us))
        ≡ (if b then t.value + value_due j ts else value_due j ts) + value_due j us
    by_test true h = omega (arith, h)
    by_test false h = h

-- without a token there is no value
pub no_value : (j : ℕ) (ts : List Token) → due j ts ≡ 0 → value_due j ts ≡ 0
no_value j [] h = refl
no_value j (t ∷ ts) h = by_test (nat_eq (shake_of t.slot) j) h (no_value j ts)
  where
    by_test : (b : Bool) → (if b then suc (due j ts) else due j ts) ≡ 0 → (due j ts ≡ 0 → value_due j ts ≡ 0)
        → (if b then t.value + value_due j ts else value_due j ts) ≡ 0
    by_test true h go = absurd (omega (arith, h))
    by_test false h go = go h

-- what goes out at a handshake that there is
pub outgoing_at : (b h : ℕ) (cells : List Cell) (cs : List Contact) (os : List Outgoing) (c : Contact) → AllGoOut b cells cs os → slice_get cs h ≡ Some c
    → (o : Outgoing) × (slice_get os h ≡ Some o) × GoesOut b cells c o
outgoing_at b h cells [] os c all there = absurd (grind (arith, there))
outgoing_at b h cells (x ∷ cs) [] c all there = absurd all
outgoing_at b zero cells (x ∷ cs) (o ∷ os) c all there =
    let is : x ≡ c = cc there in (o, refl, subst (λ (y : Contact). GoesOut b cells y o) is all.0)
outgoing_at b (suc h) cells (x ∷ cs) (o ∷ os) c all there = outgoing_at b h cells cs os c all.1 there

-- the pulse of a slot that there is
no_pulse : (p : ℕ → ℕ) (these : ℕ → Bool) (h : ℕ) (cs : List Contact) (s : Slot) → shake_of s < h → pulse_at p s (slots_of these h cs) ≡ 0
no_pulse p these h [] s lt = refl
no_pulse p these h (c ∷ cs) s lt = by_test (these h) (no_pulse p these (suc h) cs s (omega (arith, lt)))
  where
    by_test : (b : Bool) → pulse_at p s (slots_of these (suc h) cs) ≡ 0
        → pulse_at p s (if b then slot_in c.role h ∷ slots_of these (suc h) cs else slots_of these (suc h) cs) ≡ 0
    by_test true go = rw (apart c.role h s lt) go
    by_test false go = go

pub itself : (role : Role) (h : ℕ) → same_slot (slot_in role h) (slot_in role h) ≡ true
itself Serve h = grind arith
itself Ask h = grind arith

later_apart : (role other : Role) (h m : ℕ) → h < m → same_slot (slot_in role h) (slot_in other m) ≡ false
later_apart Serve Serve h m lt = grind (arith, lt)
later_apart Serve Ask h m lt = refl
later_apart Ask Serve h m lt = refl
later_apart Ask Ask h m lt = grind (arith, lt)

pub pulse_there : (p : ℕ → ℕ) (these : ℕ → Bool) (h g m : ℕ) (cs : List Contact) (c : Contact) → m ≡ h + g → slice_get cs g ≡ Some c
    → pulse_at p (slot_in c.role m) (slots_of these h cs) ≡ (if these m then p m else 0)
pulse_there p these h g m [] c e there = absurd (grind (arith, there))
pulse_there p these h zero m (x ∷ cs) c e there =
    let at_h : h ≡ m = omega (arith, e) in
    let is : x ≡ c = cc there in
    subst (λ (n : ℕ). pulse_at p (slot_in c.role n) (slots_of these h (x ∷ cs)) ≡ (if these n then p n else 0)) at_h
    (subst (λ (y : Contact). pulse_at p (slot_in y.role h) (slots_of these h (x ∷ cs)) ≡ (if these h then p h else 0)) is (by_test (these h)))
  where
    by_test : (b : Bool) → pulse_at p (slot_in x.role h) (if b then slot_in x.role h ∷ slots_of these (suc h) cs else slots_of these (suc h) cs) ≡ (if b then p h else 0)
    by_test true = rw (itself x.role h) (ap p (shake_in x.role h))
    by_test false = no_pulse p these (suc h) cs (slot_in x.role h) (subst (λ (n : ℕ). n < suc h) (sym (shake_in x.role h)) (omega arith))
pulse_there p these h (suc g) m (x ∷ cs) c e there = by_test (these h) (pulse_there p these (suc h) g m cs c (omega (arith, e)) there)
  where
    by_test : (b : Bool) → pulse_at p (slot_in c.role m) (slots_of these (suc h) cs) ≡ (if these m then p m else 0)
        → pulse_at p (slot_in c.role m) (if b then slot_in x.role h ∷ slots_of these (suc h) cs else slots_of these (suc h) cs) ≡ (if these m then p m else 0)
    by_test true go = rw (later_apart x.role c.role h m (omega (arith, e))) go
    by_test false go = go

-- what holds of each slot
abbrev pub Each : (Slot → Type 0) → List Slot → Type 0
Each Q [] = Unit {0}
Each Q (s ∷ ss) = Q s × Each Q ss

-- the firings of a part in two lists
pub firings-append : (i : ℕ) (xs ys : List Element) → firings_of i (xs ++ ys) ≡ firings_of i xs ++ firings_of i ys
firings-append i [] ys = refl
firings-append i (Fire j t ∷ xs) ys = by_test (nat_eq j i) (firings-append i xs ys)
  where
    by_test : (b : Bool) → firings_of i (xs ++ ys) ≡ firings_of i xs ++ firings_of i ys
        → (if b then t ∷ firings_of i (xs ++ ys) else firings_of i (xs ++ ys)) ≡ (if b then t ∷ firings_of i xs else firings_of i xs) ++ firings_of i ys
    by_test true h = ap (λ (l : List Slot). t ∷ l) h
    by_test false h = h
firings-append i (Out e v ∷ xs) ys = firings-append i xs ys
firings-append i (In e v ∷ xs) ys = firings-append i xs ys

-- a firing that is counted is there
pub counted : (i : ℕ) (s : Slot) (fs : List PartFiring) → 0 < times s (firings_of i (fires_of fs)) → Contains fs (record { part = i; takes = s })
counted i s [] h = absurd (omega (arith, h))
counted i s (f ∷ fs) h = by_part (nat_eq f.part i) refl h (counted i s fs)
  where
    further : Contains fs (record { part = i; takes = s }) → Contains (f ∷ fs) (record { part = i; takes = s })
    further c = let lt = c.1 in (suc c.0, omega (arith, lt), c.2)

    by_slot : (b : Bool) → nat_eq f.part i ≡ true → same_slot f.takes s ≡ b
        → 0 < (if b then suc (times s (firings_of i (fires_of fs))) else times s (firings_of i (fires_of fs)))
        → (0 < times s (firings_of i (fires_of fs)) → Contains fs (record { part = i; takes = s })) → Contains (f ∷ fs) (record { part = i; takes = s })
    by_slot true e d h go =
        let here : f.part ≡ i = grind (arith, e) in
        let takes : f.takes ≡ s = same f.takes s d in
        (0, omega arith, λ j. record { part = here j; takes = takes j })
    by_slot false e d h go = further (go h)

    by_part : (b : Bool) → nat_eq f.part i ≡ b → 0 < times s (if b then f.takes ∷ firings_of i (fires_of fs) else firings_of i (fires_of fs))
        → (0 < times s (firings_of i (fires_of fs)) → Contains fs (record { part = i; takes = s })) → Contains (f ∷ fs) (record { part = i; takes = s })
    by_part true e h go = by_slot (same_slot f.takes s) e refl h go
    by_part false e h go = further (go h)
