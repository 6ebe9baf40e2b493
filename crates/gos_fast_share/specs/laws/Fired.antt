-- Of handshakes in an order, those at which a pulse comes in: how often each stands among them, and what they make of the branch.
--
-- Read first: Thread, Moved; Law of gos_macro.
use Rattle.std.proofs.Common.{◌≡◌, ℕ, zero, suc, ◌+◌, ◌≤◌, ◌<◌, Bool, true, false, List, [], ◌∷◌, refl, sym, ◌∙◌, ap, subst, arith, nat_eq, if◌then◌else◌}
use Rattle.std.specs.Prelude.{length, map}
use Rattle.gos_plan.specs.Kinds.{Contact, Part, part_contacts}
use Rattle.gos_plan.specs.Firing.{Slot, Req, Ans, same_slot}
use Rattle.gos_plan.specs.Tokens.{shake_of}
use Rattle.gos_plan.specs.Firings.{times}
use Rattle.gos_types.specs.declared.shakes.Role.{Role}
use Rattle.gos_types.specs.declared.shakes.Role.TheVariants.{Serve, Ask}
use Rattle.gos_macro.specs.Gates.{slot_in, slots_of}
use Rattle.gos_macro.specs.Law.{pulse_at, pulsed, Order, IsAbove, early_in_order}
use Rattle.gos_macro.specs.laws.AnyOrder.{exactly_in_order}
use Rattle.gos_fast_share.specs.Thread.{asker, set_by, set_at, behind, when}
use Rattle.gos_fast_share.specs.laws.Moved.{often, set_all, told}

-- those with a pulse
abbrev pub with_pulse : (ℕ → ℕ) → List ℕ → List ℕ
with_pulse p [] = []
with_pulse p (e ∷ es) = if nat_eq (p e) 1 then e ∷ with_pulse p es else with_pulse p es

pub shakes_pulsed : (p : ℕ → ℕ) (ss : List Slot) → map shake_of (pulsed p ss) ≡ with_pulse p (map shake_of ss)
shakes_pulsed p [] = refl
shakes_pulsed p (s ∷ ss) = by_test (nat_eq (p (shake_of s)) 1) (shakes_pulsed p ss)
  where
    by_test : (b : Bool) → map shake_of (pulsed p ss) ≡ with_pulse p (map shake_of ss)
        → map shake_of (if b then s ∷ pulsed p ss else pulsed p ss) ≡ (if b then shake_of s ∷ with_pulse p (map shake_of ss) else with_pulse p (map shake_of ss))
    by_test true ih = ap (λ (l : List ℕ). shake_of s ∷ l) ih
    by_test false ih = ih

-- the branch behind them
pub set_by_pulses : (ks : List Contact) (p : ℕ → ℕ) (n : ℕ) (es : List ℕ) → set_all ks n (with_pulse p es) ≡ behind ks p n es
set_by_pulses ks p n [] = refl
set_by_pulses ks p n (e ∷ es) = by_test (nat_eq (p e) 1) (λ m. set_by_pulses ks p m es)
  where
    by_test : (b : Bool) → ((m : ℕ) → set_all ks m (with_pulse p es) ≡ behind ks p m es)
        → set_all ks n (if b then e ∷ with_pulse p es else with_pulse p es) ≡ behind ks p (if b then set_by (asker ks e) n else n) es
    by_test true ih = ih (set_by (asker ks e) n)
    by_test false ih = ih n

-- how often one stands among them
pub often_pulsed : (p : ℕ → ℕ) (d : ℕ) (es : List ℕ) → often d (with_pulse p es) ≡ (if nat_eq (p d) 1 then often d es else 0)
often_pulsed p d [] = by_test (nat_eq (p d) 1)
  where
    none : ℕ
    none = 0

    by_test : (b : Bool) → none ≡ (if b then none else none)
    by_test true = refl
    by_test false = refl
often_pulsed p d (e ∷ es) = by_test (nat_eq e d) refl (often_pulsed p d es)
  where
    Holds : Bool → Bool → Bool → Type 0
    Holds same here there =
        (if here then (if same then suc (often d (with_pulse p es)) else often d (with_pulse p es)) else often d (with_pulse p es))
        ≡ (if there then (if same then suc (often d es) else often d es) else 0)

    own : (b : Bool) → often d (with_pulse p es) ≡ (if b then often d es else 0) → Holds true b b
    own true ih = ap suc ih
    own false ih = ih

    other : (b : Bool) → often d (with_pulse p es) ≡ (if nat_eq (p d) 1 then often d es else 0) → Holds false b (nat_eq (p d) 1)
    other true ih = ih
    other false ih = ih

    as_list : (b c : Bool) → Holds c b (nat_eq (p d) 1) → nat_eq e d ≡ c
        → often d (if b then e ∷ with_pulse p es else with_pulse p es) ≡ (if nat_eq (p d) 1 then (if c then suc (often d es) else often d es) else 0)
    as_list true c holds same = rw same holds
    as_list false c holds same = holds

    by_test : (c : Bool) → nat_eq e d ≡ c → often d (with_pulse p es) ≡ (if nat_eq (p d) 1 then often d es else 0)
        → often d (if nat_eq (p e) 1 then e ∷ with_pulse p es else with_pulse p es) ≡ (if nat_eq (p d) 1 then (if nat_eq e d then suc (often d es) else often d es) else 0)
    by_test true same ih =
        let is : e ≡ d = grind (arith, same) in
        let pulse : nat_eq (p e) 1 ≡ nat_eq (p d) 1 = ap (λ (f : ℕ). nat_eq (p f) 1) is in
        rw same (as_list (nat_eq (p e) 1) true (subst (λ (b : Bool). Holds true b (nat_eq (p d) 1)) (sym pulse) (own (nat_eq (p d) 1) ih)) same)
    by_test false same ih = rw same (as_list (nat_eq (p e) 1) false (other (nat_eq (p e) 1) ih) same)

-- a number that counts by a test
abbrev pub if_one : ℕ → ℕ → ℕ
if_one m a = if nat_eq m 1 then a else 0

pub none_told : (ks : List Contact) (p : ℕ → ℕ) (c j n : ℕ) (es : List ℕ) → often j es ≡ 0 → told ks c j n (with_pulse p es) ≡ 0
none_told ks p c j n [] none = refl
none_told ks p c j n (e ∷ es) none = by_tests (nat_eq (p e) 1) (nat_eq e j) refl none (λ m. none_told ks p c j m es)
  where
    by_tests : (b d : Bool) → nat_eq e j ≡ d → (if d then suc (often j es) else often j es) ≡ 0
        → ((m : ℕ) → often j es ≡ 0 → told ks c j m (with_pulse p es) ≡ 0) → told ks c j n (if b then e ∷ with_pulse p es else with_pulse p es) ≡ 0
    by_tests b true same none ih = absurd (omega (arith, none))
    by_tests true false same none ih = rw same (ih (set_by (asker ks e) n) none)
    by_tests false false same none ih = ih n none

-- one that stands once is told by the branch that there is when it comes
pub told_once : (ks : List Contact) (p : ℕ → ℕ) (c j n : ℕ) (es : List ℕ) → often j es ≡ 1
    → told ks c j n (with_pulse p es) ≡ (if nat_eq (when ks p j n es) c then if_one (p j) 1 else 0)
told_once ks p c j n [] once = absurd (omega (arith, once))
told_once ks p c j n (e ∷ es) once = by_test (nat_eq e j) refl once (λ m. told_once ks p c j m es)
  where
    own : (b : Bool) → often j es ≡ 0 → nat_eq e j ≡ true
        → told ks c j n (if b then e ∷ with_pulse p es else with_pulse p es) ≡ (if nat_eq n c then (if b then 1 else 0) else 0)
    own true none same = rw same (by_branch (nat_eq n c))
      where
        rest : ℕ
        rest = told ks c j (set_by (asker ks e) n) (with_pulse p es)

        nothing : rest ≡ 0
        nothing = none_told ks p c j (set_by (asker ks e) n) es none

        by_branch : (d : Bool) → (if d then suc rest else rest) ≡ (if d then 1 else 0)
        by_branch true = ap suc nothing
        by_branch false = nothing
    own false none same = none_told ks p c j n es none ∙ by_branch (nat_eq n c)
      where
        zero_one : ℕ
        zero_one = 0

        by_branch : (d : Bool) → zero_one ≡ (if d then zero_one else zero_one)
        by_branch true = refl
        by_branch false = refl

    Rest : Type 0
    Rest = (m : ℕ) → often j es ≡ 1 → told ks c j m (with_pulse p es) ≡ (if nat_eq (when ks p j m es) c then if_one (p j) 1 else 0)

    other : (b : Bool) → often j es ≡ 1 → nat_eq e j ≡ false → Rest
        → told ks c j n (if b then e ∷ with_pulse p es else with_pulse p es) ≡ (if nat_eq (when ks p j (if b then set_by (asker ks e) n else n) es) c then if_one (p j) 1 else 0)
    other true one same ih = rw same (ih (set_by (asker ks e) n) one)
    other false one same ih = ih n one

    by_test : (d : Bool) → nat_eq e j ≡ d → (if d then suc (often j es) else often j es) ≡ 1 → Rest
        → told ks c j n (if nat_eq (p e) 1 then e ∷ with_pulse p es else with_pulse p es)
        ≡ (if nat_eq (if d then n else when ks p j (set_at ks p e n) es) c then if_one (p j) 1 else 0)
    by_test true same one ih =
        let is : e ≡ j = grind (arith, same) in
        own (nat_eq (p e) 1) (omega (arith, one)) same ∙ ap (λ (f : ℕ). if nat_eq n c then if_one (p f) 1 else 0) is
    by_test false same one ih = other (nat_eq (p e) 1) one same ih

-- how often a handshake stands among slots
often_slots : (d : ℕ) (ss : List Slot) → often d (map shake_of ss) ≡ times (Req d) ss + times (Ans d) ss
often_slots d [] = refl
often_slots d (Req e ∷ ss) = by_test (nat_eq e d) (often_slots d ss)
  where
    by_test : (b : Bool) → often d (map shake_of ss) ≡ times (Req d) ss + times (Ans d) ss
        → (if b then suc (often d (map shake_of ss)) else often d (map shake_of ss)) ≡ (if b then suc (times (Req d) ss) else times (Req d) ss) + times (Ans d) ss
    by_test true ih = omega (arith, ih)
    by_test false ih = ih
often_slots d (Ans e ∷ ss) = by_test (nat_eq e d) (often_slots d ss)
  where
    by_test : (b : Bool) → often d (map shake_of ss) ≡ times (Req d) ss + times (Ans d) ss
        → (if b then suc (often d (map shake_of ss)) else often d (map shake_of ss)) ≡ times (Req d) ss + (if b then suc (times (Ans d) ss) else times (Ans d) ss)
    by_test true ih = omega (arith, ih)
    by_test false ih = ih

-- of all handshakes of a part, one has one slot
no_slot : (f : ℕ → ℕ) (these : ℕ → Bool) (s : Slot) (h : ℕ) (cs : List Contact) → shake_of s < h → pulse_at f s (slots_of these h cs) ≡ 0
no_slot f these s h [] low = refl
no_slot f these s h (c ∷ cs) low = by_test (these h) (no_slot f these s (suc h) cs (omega (arith, low)))
  where
    apart : (r : Role) (t : Slot) → shake_of t < h → same_slot (slot_in r h) t ≡ false
    apart Serve (Req j) lt = grind (arith, lt)
    apart Serve (Ans j) lt = refl
    apart Ask (Req j) lt = refl
    apart Ask (Ans j) lt = grind (arith, lt)

    by_test : (b : Bool) → pulse_at f s (slots_of these (suc h) cs) ≡ 0
        → pulse_at f s (if b then slot_in c.role h ∷ slots_of these (suc h) cs else slots_of these (suc h) cs) ≡ 0
    by_test true ih = rw (apart c.role s low) ih
    by_test false ih = ih

strictly : (a b : ℕ) → a ≤ b → (a ≡ b → ⊥) → suc a ≤ b
strictly zero zero most apart = absurd (apart refl)
strictly zero (suc b) most apart = omega arith
strictly (suc a) zero most apart = absurd (omega (arith, most))
strictly (suc a) (suc b) most apart = let rest = strictly a b (omega (arith, most)) (λ same. apart (ap suc same)) in omega (arith, rest)

both_slots : (d h : ℕ) (cs : List Contact) → h ≤ d → d < h + length cs
    → pulse_at (λ e. 1) (Req d) (slots_of (λ e. true) h cs) + pulse_at (λ e. 1) (Ans d) (slots_of (λ e. true) h cs) ≡ 1
both_slots d h [] low high = absurd (omega (arith, low, high))
both_slots d h (c ∷ cs) low high = by_test (nat_eq h d) refl (both_slots d (suc h) cs)
  where
    here : (r : Role) → nat_eq h d ≡ true → d < suc h
        → pulse_at (λ e. 1) (Req d) (slot_in r h ∷ slots_of (λ e. true) (suc h) cs) + pulse_at (λ e. 1) (Ans d) (slot_in r h ∷ slots_of (λ e. true) (suc h) cs) ≡ 1
    here Serve same lt = rw same (let none = no_slot (λ e. 1) (λ e. true) (Ans d) (suc h) cs lt in omega (arith, none))
    here Ask same lt = rw same (let none = no_slot (λ e. 1) (λ e. true) (Req d) (suc h) cs lt in omega (arith, none))

    later : (r : Role) → nat_eq h d ≡ false
        → pulse_at (λ e. 1) (Req d) (slots_of (λ e. true) (suc h) cs) + pulse_at (λ e. 1) (Ans d) (slots_of (λ e. true) (suc h) cs) ≡ 1
        → pulse_at (λ e. 1) (Req d) (slot_in r h ∷ slots_of (λ e. true) (suc h) cs) + pulse_at (λ e. 1) (Ans d) (slot_in r h ∷ slots_of (λ e. true) (suc h) cs) ≡ 1
    later Serve same ih = rw same ih
    later Ask same ih = rw same ih

    by_test : (b : Bool) → nat_eq h d ≡ b
        → (suc h ≤ d → d < suc h + length cs → pulse_at (λ e. 1) (Req d) (slots_of (λ e. true) (suc h) cs) + pulse_at (λ e. 1) (Ans d) (slots_of (λ e. true) (suc h) cs) ≡ 1)
        → pulse_at (λ e. 1) (Req d) (slot_in c.role h ∷ slots_of (λ e. true) (suc h) cs) + pulse_at (λ e. 1) (Ans d) (slot_in c.role h ∷ slots_of (λ e. true) (suc h) cs) ≡ 1
    by_test true same ih = here c.role same (let is : h ≡ d = grind (arith, same) in omega (arith, is))
    by_test false same ih = later c.role same (ih (strictly h d low (λ f. grind (arith, same, f))) (omega (arith, high)))

all_pulsed : (ss : List Slot) → pulsed (λ e. 1) ss ≡ ss
all_pulsed [] = refl
all_pulsed (s ∷ ss) = ap (λ (l : List Slot). s ∷ l) (all_pulsed ss)

-- in the order of ranks each handshake stands once
pub each_stands_once : (k : Part) (rank : Order) (top : ℕ) → IsAbove k rank top → (d : ℕ) → d < length (part_contacts k)
    → often d (map shake_of (early_in_order k [] rank top)) ≡ 1
each_stands_once k rank top above d low =
    often_slots d (early_in_order k [] rank top)
    ∙ ((λ i. once (Req d) i + once (Ans d) i) ∙ both_slots d 0 (part_contacts k) (omega arith) (omega (arith, low)))
  where
    once : (s : Slot) → times s (early_in_order k [] rank top) ≡ pulse_at (λ e. 1) s (slots_of (λ e. true) 0 (part_contacts k))
    once s =
        ap (times s) (sym (all_pulsed (early_in_order k [] rank top)))
        ∙ exactly_in_order (λ e. 1) rank top (λ h. true) (part_contacts k) above (λ h small is. omega arith) s
