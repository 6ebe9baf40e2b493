-- How often a slot stands in lists of slots: in those of some handshakes, and in those that have a pulse.
--
-- Read first: Law.
use Rattle.std.proofs.Common.{◌≡◌, ℕ, suc, ◌+◌, ◌≤◌, ◌<◌, Bool, true, false, ◌||◌, List, [], ◌∷◌, ◌++◌, length, refl, sym, ◌∙◌, ap, subst, arith, nat_eq, if◌then◌else◌}
use Rattle.gos_types.specs.declared.shakes.Role.{Role}
use Rattle.gos_types.specs.declared.shakes.Role.TheVariants.{Serve, Ask}
use Rattle.gos_plan.specs.Kinds.{Contact}
use Rattle.gos_plan.specs.Firing.{Slot, Req, Ans, same_slot}
use Rattle.gos_plan.specs.Firings.{times}
use Rattle.gos_plan.specs.Tokens.{shake_of}
use Rattle.gos_plan.specs.laws.Inversion.{same}
use Rattle.gos_macro.specs.Gates.{slot_in, slots_of}
use Rattle.gos_macro.specs.Law.{pulse_at, pulsed}

-- in two lists
pub times-append : (s : Slot) (xs ys : List Slot) → times s (xs ++ ys) ≡ times s xs + times s ys
times-append s [] ys = omega arith
times-append s (x ∷ xs) ys = by_test (same_slot x s) (times-append s xs ys)
  where
    by_test : (b : Bool) → times s (xs ++ ys) ≡ times s xs + times s ys
        → (if b then suc (times s (xs ++ ys)) else times s (xs ++ ys)) ≡ (if b then suc (times s xs) else times s xs) + times s ys
    by_test true h = omega (arith, h)
    by_test false h = h

-- a slot of an earlier handshake stands in none of the later ones
pub apart : (role : Role) (h : ℕ) (s : Slot) → shake_of s < h → same_slot (slot_in role h) s ≡ false
apart Serve h (Req j) lt = grind (arith, lt)
apart Serve h (Ans j) lt = refl
apart Ask h (Req j) lt = refl
apart Ask h (Ans j) lt = grind (arith, lt)

same_shake : (role : Role) (h : ℕ) (s : Slot) → same_slot (slot_in role h) s ≡ true → shake_of s ≡ h
same_shake Serve h (Req j) e = grind (arith, e)
same_shake Serve h (Ans j) e = absurd (cc e)
same_shake Ask h (Req j) e = absurd (cc e)
same_shake Ask h (Ans j) e = grind (arith, e)

pub shake_in : (role : Role) (h : ℕ) → shake_of (slot_in role h) ≡ h
shake_in Serve h = refl
shake_in Ask h = refl

-- adds nothing, where it doesn't stand
keeps_zero : (p : ℕ → ℕ) (s t : Slot) (ss : List Slot) → same_slot t s ≡ false → times s (pulsed p ss) ≡ 0 → times s (pulsed p (t ∷ ss)) ≡ 0
keeps_zero p s t ss n h = by_test (nat_eq (p (shake_of t)) 1)
  where
    by_test : (b : Bool) → times s (if b then t ∷ pulsed p ss else pulsed p ss) ≡ 0
    by_test true = rw n h
    by_test false = h

none_later : (p : ℕ → ℕ) (these : ℕ → Bool) (h : ℕ) (cs : List Contact) (s : Slot) → shake_of s < h → times s (pulsed p (slots_of these h cs)) ≡ 0
none_later p these h [] s lt = refl
none_later p these h (c ∷ cs) s lt = by_test (these h) (none_later p these (suc h) cs s (omega (arith, lt)))
  where
    by_test : (b : Bool) → times s (pulsed p (slots_of these (suc h) cs)) ≡ 0
        → times s (pulsed p (if b then slot_in c.role h ∷ slots_of these (suc h) cs else slots_of these (suc h) cs)) ≡ 0
    by_test true go = keeps_zero p s (slot_in c.role h) (slots_of these (suc h) cs) (apart c.role h s lt) go
    by_test false go = go

-- of the slots of handshakes, those with a pulse are each there once
one_slot : (p : ℕ → ℕ) (s t : Slot) (ss : List Slot) → p (shake_of t) ≤ 1 → (same_slot t s ≡ true → times s (pulsed p ss) ≡ 0)
    → times s (pulsed p ss) ≡ pulse_at p s ss → times s (pulsed p (t ∷ ss)) ≡ pulse_at p s (t ∷ ss)
one_slot p s t ss small none rest = by_tests (nat_eq (p (shake_of t)) 1) refl (same_slot t s) refl
  where
    by_tests : (b : Bool) → nat_eq (p (shake_of t)) 1 ≡ b → (d : Bool) → same_slot t s ≡ d → times s (pulsed p (t ∷ ss)) ≡ pulse_at p s (t ∷ ss)
    by_tests true e true d = let z = none d in rw (e, d) (grind (arith, z, e))
    by_tests true e false d = rw (e, d) rest
    by_tests false e true d = let z = none d in rw (e, d) (grind (arith, z, e, small))
    by_tests false e false d = rw (e, d) rest

-- where the pulses of these handshakes are 0 or 1
pub those_once : (p : ℕ → ℕ) (these : ℕ → Bool) (h : ℕ) (cs : List Contact) (s : Slot)
    → ((g : ℕ) → g < h + length cs → these g ≡ true → p g ≤ 1) → times s (pulsed p (slots_of these h cs)) ≡ pulse_at p s (slots_of these h cs)
those_once p these h [] s small = refl
those_once p these h (c ∷ cs) s small = by_test (these h) refl (those_once p these (suc h) cs s (λ g lt. small g (omega (arith, lt))))
  where
    by_test : (b : Bool) → these h ≡ b → times s (pulsed p (slots_of these (suc h) cs)) ≡ pulse_at p s (slots_of these (suc h) cs)
        → times s (pulsed p (if b then slot_in c.role h ∷ slots_of these (suc h) cs else slots_of these (suc h) cs))
        ≡ pulse_at p s (if b then slot_in c.role h ∷ slots_of these (suc h) cs else slots_of these (suc h) cs)
    by_test true is go =
        one_slot p s (slot_in c.role h) (slots_of these (suc h) cs)
        (subst (λ (g : ℕ). p g ≤ 1) (sym (shake_in c.role h)) (small h (omega arith) is))
        (λ same. let same_place = same_shake c.role h s same in none_later p these (suc h) cs s (omega (arith, same_place))) go
    by_test false is go = go

pub each_once : (p : ℕ → ℕ) (these : ℕ → Bool) (h : ℕ) (cs : List Contact) (s : Slot)
    → ((g : ℕ) → g < h + length cs → p g ≤ 1) → times s (pulsed p (slots_of these h cs)) ≡ pulse_at p s (slots_of these h cs)
each_once p these h cs s small = those_once p these h cs s (λ g lt is. small g lt)

-- how often a slot stands among those with a pulse
pub times_pulsed : (f : ℕ → ℕ) (s : Slot) (ts : List Slot) → times s (pulsed f ts) ≡ (if nat_eq (f (shake_of s)) 1 then times s ts else 0)
times_pulsed f s [] = by_test (nat_eq (f (shake_of s)) 1)
  where
    none : ℕ
    none = 0

    by_test : (b : Bool) → none ≡ (if b then none else none)
    by_test true = refl
    by_test false = refl
times_pulsed f s (t ∷ ts) = by_slot (same_slot t s) refl (times_pulsed f s ts)
  where
    test : Slot → Bool
    test x = nat_eq (f (shake_of x)) 1

    own : (b : Bool) → same_slot t s ≡ true → times s (pulsed f ts) ≡ (if b then times s ts else 0)
        → times s (if b then t ∷ pulsed f ts else pulsed f ts) ≡ (if b then suc (times s ts) else 0)
    own true e h = rw e (ap suc h)
    own false e h = h

    other : (b : Bool) → same_slot t s ≡ false → times s (pulsed f ts) ≡ (if test s then times s ts else 0)
        → times s (if b then t ∷ pulsed f ts else pulsed f ts) ≡ (if test s then times s ts else 0)
    other true e h = rw e h
    other false e h = h

    by_slot : (x : Bool) → same_slot t s ≡ x → times s (pulsed f ts) ≡ (if test s then times s ts else 0)
        → times s (if test t then t ∷ pulsed f ts else pulsed f ts) ≡ (if test s then (if x then suc (times s ts) else times s ts) else 0)
    by_slot true e h =
        let is : t ≡ s = same t s e in
        ap (λ (y : Slot). times s (if test y then t ∷ pulsed f ts else pulsed f ts)) is ∙ own (test s) e h
    by_slot false e h = other (test t) e h

pub as_often : (f : ℕ → ℕ) (s : Slot) (xs ys : List Slot) → times s xs ≡ times s ys → times s (pulsed f xs) ≡ times s (pulsed f ys)
as_often f s xs ys h =
    times_pulsed f s xs ∙ (ap (λ (m : ℕ). if nat_eq (f (shake_of s)) 1 then m else 0) h ∙ sym (times_pulsed f s ys))

-- choices of which one is the two others
pub split_times : (a b c : ℕ → Bool) (s : Slot) (h : ℕ) (cs : List Contact) → ((g : ℕ) → c g ≡ (a g || b g)) → ((g : ℕ) → a g ≡ true → b g ≡ false)
    → times s (slots_of c h cs) ≡ times s (slots_of a h cs) + times s (slots_of b h cs)
split_times a b c s h [] joins apart = omega arith
split_times a b c s h (x ∷ cs) joins apart = by_tests (a h) (b h) (c h) (joins h) (apart h) (split_times a b c s (suc h) cs joins apart)
  where
    slot : Slot
    slot = slot_in x.role h

    in_a : List Slot
    in_a = slots_of a (suc h) cs

    in_b : List Slot
    in_b = slots_of b (suc h) cs

    in_c : List Slot
    in_c = slots_of c (suc h) cs

    first : (t : Bool) → times s in_c ≡ times s in_a + times s in_b
        → (if t then suc (times s in_c) else times s in_c) ≡ (if t then suc (times s in_a) else times s in_a) + times s in_b
    first true e = omega (arith, e)
    first false e = e

    second : (t : Bool) → times s in_c ≡ times s in_a + times s in_b
        → (if t then suc (times s in_c) else times s in_c) ≡ times s in_a + (if t then suc (times s in_b) else times s in_b)
    second true e = omega (arith, e)
    second false e = e

    by_tests : (u w z : Bool) → z ≡ (u || w) → (u ≡ true → w ≡ false) → times s in_c ≡ times s in_a + times s in_b
        → times s (if z then slot ∷ in_c else in_c) ≡ times s (if u then slot ∷ in_a else in_a) + times s (if w then slot ∷ in_b else in_b)
    by_tests true true z e only h = absurd (cc (only refl))
    by_tests true false true e only h = first (same_slot slot s) h
    by_tests true false false e only h = absurd (cc e)
    by_tests false true true e only h = second (same_slot slot s) h
    by_tests false true false e only h = absurd (cc e)
    by_tests false false true e only h = absurd (cc e)
    by_tests false false false e only h = h

pub none_chosen : (f : ℕ → Bool) (h : ℕ) (cs : List Contact) → ((g : ℕ) → f g ≡ false) → slots_of f h cs ≡ []
none_chosen f h [] none = refl
none_chosen f h (c ∷ cs) none = let no = none h in rw no (none_chosen f (suc h) cs none)

-- what is chosen within a list of handshakes
pub slots_same : (f g : ℕ → Bool) (h : ℕ) (cs : List Contact) → ((m : ℕ) → m < h + length cs → f m ≡ g m) → slots_of f h cs ≡ slots_of g h cs
slots_same f g h [] all = refl
slots_same f g h (c ∷ cs) all =
    let here : f h ≡ g h = all h (omega arith) in
    let rest : slots_of f (suc h) cs ≡ slots_of g (suc h) cs = slots_same f g (suc h) cs (λ m lt. all m (omega (arith, lt))) in
    λ l. if here l then slot_in c.role h ∷ rest l else rest l
