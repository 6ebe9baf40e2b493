-- The handshakes of a part in the order of their ranks: what stands before another has no higher rank, and each stands there.
--
-- Read first: Law of gos_macro; Thread and Order of gos_fast_share.
use Rattle.std.proofs.Common.{◌≡◌, ◌⊎◌, ℕ, zero, suc, ◌+◌, ◌<◌, ◌≤◌, Bool, true, false, List, [], ◌∷◌, ◌++◌, inl, inr, refl, sym, ◌∙◌, ap, subst, arith}
use Rattle.std.specs.Prelude.{◌||◌, length, map, nat_eq, nat_lt, if◌then◌else◌}
use Rattle.std.proofs.lemmas.Bool.{eqb-true, eqb-false}
use Rattle.std.proofs.lemmas.List.{length-map, length-append}
use Rattle.gos_plan.specs.Kinds.{Contact}
use Rattle.gos_plan.specs.Firing.{Slot}
use Rattle.gos_plan.specs.Tokens.{shake_of}
use Rattle.gos_macro.specs.Gates.{slot_in, slots_of}
use Rattle.gos_macro.specs.Law.{Order, in_order}
use Rattle.gos_macro.specs.laws.Counting.{shake_in}
use Rattle.gos_fast_share.specs.Thread.{stands_before}

-- a number that is no greater and another one is less
below : (m k : ℕ) → m ≤ k → (m ≡ k → ⊥) → m < k
below zero zero low apart = absurd (apart refl)
below zero (suc k) low apart = omega arith
below (suc m) zero low apart = absurd (omega (arith, low))
below (suc m) (suc k) low apart = let rest = below m k (omega (arith, low)) (λ is. apart (ap suc is)) in omega (arith, rest)

-- a number stands in a list
abbrev pub Among : ℕ → List ℕ → Type 0
Among h [] = ⊥
Among h (d ∷ ds) = (d ≡ h) ⊎ Among h ds

among_right : (h : ℕ) (xs ys : List ℕ) → Among h ys → Among h (xs ++ ys)
among_right h [] ys there = there
among_right h (x ∷ xs) ys there = inr (among_right h xs ys there)

among_left : (h : ℕ) (xs ys : List ℕ) → Among h xs → Among h (xs ++ ys)
among_left h [] ys there = absurd there
among_left h (x ∷ xs) ys (inl is) = inl is
among_left h (x ∷ xs) ys (inr there) = inr (among_left h xs ys there)

-- the numbers of some handshakes
abbrev numbers_of : (ℕ → Bool) → ℕ → List Contact → List ℕ
numbers_of these n cs = map shake_of (slots_of these n cs)

-- each of them is one of these
chosen_ones : (these : ℕ → Bool) (n : ℕ) (cs : List Contact) (h : ℕ) → Among h (numbers_of these n cs) → these h ≡ true
chosen_ones these n [] h there = absurd there
chosen_ones these n (c ∷ cs) h there = by_test (these n) refl (chosen_ones these (suc n) cs h) there
  where
    by_test : (b : Bool) → these n ≡ b → (Among h (numbers_of these (suc n) cs) → these h ≡ true)
        → Among h (map shake_of (if b then slot_in c.role n ∷ slots_of these (suc n) cs else slots_of these (suc n) cs)) → these h ≡ true
    by_test true chosen go (inl is) = subst (λ (m : ℕ). these m ≡ true) (sym (shake_in c.role n) ∙ is) chosen
    by_test true chosen go (inr behind) = go behind
    by_test false other go behind = go behind

-- and those of the part that are chosen stand there
stand_there : (these : ℕ → Bool) (n : ℕ) (cs : List Contact) (h : ℕ) → n ≤ h → h < n + length cs → these h ≡ true → Among h (numbers_of these n cs)
stand_there these n [] h low high chosen = absurd (omega (arith, low, high))
stand_there these n (c ∷ cs) h low high chosen = by_place (nat_eq n h) refl (λ after. stand_there these (suc n) cs h after (omega (arith, high)) chosen)
  where
    by_place : (b : Bool) → nat_eq n h ≡ b → (suc n ≤ h → Among h (numbers_of these (suc n) cs)) → Among h (numbers_of these n (c ∷ cs))
    by_place true is go =
        let same : n ≡ h = eqb-true n h is in
        rw (subst (λ (m : ℕ). these m ≡ true) (sym same) chosen) (inl (shake_in c.role n ∙ same))
    by_place false not_here go = by_test (these n)
      where
        other : n ≡ h → ⊥
        other = eqb-false n h not_here

        behind : Among h (numbers_of these (suc n) cs)
        behind = go (let less = below n h low other in omega (arith, less))

        by_test : (b : Bool) → Among h (map shake_of (if b then slot_in c.role n ∷ slots_of these (suc n) cs else slots_of these (suc n) cs))
        by_test true = inr behind
        by_test false = behind

-- the numbers in the order of ranks below r
abbrev pub by_rank : Order → ℕ → (ℕ → Bool) → List Contact → List ℕ
by_rank rank r these cs = map shake_of (in_order rank r these cs)

map-append : (xs ys : List Slot) → map shake_of (xs ++ ys) ≡ map shake_of xs ++ map shake_of ys
map-append [] ys = refl
map-append (x ∷ xs) ys = ap (λ (l : List ℕ). shake_of x ∷ l) (map-append xs ys)

-- all handshakes of these ranks stand there
ranked_stand : (rank : Order) (r : ℕ) (cs : List Contact) (h : ℕ) → h < length cs → rank h < r → Among h (by_rank rank r (λ m. true) cs)
ranked_stand rank zero cs h here low = absurd (omega (arith, low))
ranked_stand rank (suc r) cs h here low =
    subst (Among h) (sym (map-append (in_order rank r (λ m. true) cs) (slots_of (λ m. nat_eq (rank m) r) 0 cs))) (by_test (nat_eq (rank h) r) refl (ranked_stand rank r cs h here))
  where
    by_test : (b : Bool) → nat_eq (rank h) r ≡ b → (rank h < r → Among h (by_rank rank r (λ m. true) cs))
        → Among h (by_rank rank r (λ m. true) cs ++ numbers_of (λ m. nat_eq (rank m) r) 0 cs)
    by_test true is go = among_right h (by_rank rank r (λ m. true) cs) (numbers_of (λ m. nat_eq (rank m) r) 0 cs) (stand_there (λ m. nat_eq (rank m) r) 0 cs h (omega arith) (omega (arith, here)) is)
    by_test false other go =
        among_left h (by_rank rank r (λ m. true) cs) (numbers_of (λ m. nat_eq (rank m) r) 0 cs) (go (below (rank h) r (omega (arith, low)) (eqb-false (rank h) r other)))

-- what stands before another number stands in the list
before_stands : (e j : ℕ) (xs : List ℕ) → stands_before e j xs ≡ true → Among e xs
before_stands e j [] before = cc before
before_stands e j (d ∷ ds) before = by_tests (nat_eq d j) (nat_eq d e) refl (before_stands e j ds) before
  where
    by_tests : (b a : Bool) → nat_eq d e ≡ a → (stands_before e j ds ≡ true → Among e ds) → (if b then false else a || stands_before e j ds) ≡ true → Among e (d ∷ ds)
    by_tests true a is go before = cc before
    by_tests false true is go before = inl (eqb-true d e is)
    by_tests false false is go before = inr (go before)

-- in two lists: in the first, or in the second where the other isn't in the first
before_in : (e j : ℕ) (xs ys : List ℕ) → stands_before e j (xs ++ ys) ≡ true
    → (stands_before e j xs ≡ true) ⊎ ((Among j xs → ⊥) × (stands_before e j ys ≡ true))
before_in e j [] ys before = inr ((λ there. there), before)
before_in e j (d ∷ ds) ys before = by_tests (nat_eq d j) refl (nat_eq d e) (before_in e j ds ys) before
  where
    by_tests : (b : Bool) → nat_eq d j ≡ b → (a : Bool)
        → (stands_before e j (ds ++ ys) ≡ true → (stands_before e j ds ≡ true) ⊎ ((Among j ds → ⊥) × (stands_before e j ys ≡ true)))
        → (if b then false else a || stands_before e j (ds ++ ys)) ≡ true
        → ((if b then false else a || stands_before e j ds) ≡ true) ⊎ ((Among j (d ∷ ds) → ⊥) × (stands_before e j ys ≡ true))
    by_tests true is a go before = cc before
    by_tests false other true go before = inl refl
    by_tests false other false go before =
        elim (go before) [
          | inl here ↦ inl here
          | inr (none, behind) ↦ inr ((λ there. elim there [ inl is ↦ eqb-false d j other is | inr more ↦ none more ]), behind)
        ]

-- what stands before a handshake of the part has no higher rank
pub no_higher : (rank : Order) (r : ℕ) (cs : List Contact) (e j : ℕ) → j < length cs → stands_before e j (by_rank rank r (λ m. true) cs) ≡ true → rank e ≤ rank j
no_higher rank zero cs e j here before = cc before
no_higher rank (suc r) cs e j here before =
    elim (before_in e j (by_rank rank r (λ m. true) cs) (numbers_of (λ m. nat_eq (rank m) r) 0 cs)
    (ap (stands_before e j) (sym (map-append (in_order rank r (λ m. true) cs) (slots_of (λ m. nat_eq (rank m) r) 0 cs))) ∙ before)) [
      | inl first ↦ no_higher rank r cs e j here first
      | inr (none, behind) ↦
          (let is = eqb-true (rank e) r (chosen_ones (λ m. nat_eq (rank m) r) 0 cs e (before_stands e j (numbers_of (λ m. nat_eq (rank m) r) 0 cs) behind)) in
          not_below (rank j) r is (λ low. none (ranked_stand rank r cs j here low)))
    ]
  where
    not_below : (m k : ℕ) → rank e ≡ k → (m < k → ⊥) → rank e ≤ m
    not_below m k is apart = by_test (nat_lt m k) refl
      where
        by_test : (b : Bool) → nat_lt m k ≡ b → rank e ≤ m
        by_test true low = absurd (apart (grind (arith, low)))
        by_test false high = grind (arith, high, is)

-- how many of these numbers there are, from n on
abbrev tally : (ℕ → Bool) → ℕ → List Contact → ℕ
tally these n [] = 0
tally these n (c ∷ cs) = (if these n then 1 else 0) + tally these (suc n) cs

slots_long : (these : ℕ → Bool) (n : ℕ) (cs : List Contact) → length (slots_of these n cs) ≡ tally these n cs
slots_long these n [] = refl
slots_long these n (c ∷ cs) = by_test (these n) (slots_long these (suc n) cs)
  where
    by_test : (b : Bool) → length (slots_of these (suc n) cs) ≡ tally these (suc n) cs
        → length (if b then slot_in c.role n ∷ slots_of these (suc n) cs else slots_of these (suc n) cs) ≡ (if b then 1 else 0) + tally these (suc n) cs
    by_test true rest = omega (arith, rest)
    by_test false rest = omega (arith, rest)

-- 1 or 0
abbrev one_if : Bool → ℕ
one_if b = if b then 1 else 0

-- those of ranks below r, and those of rank r
one_rank : (rank : Order) (r n : ℕ) (cs : List Contact) → tally (λ h. nat_lt (rank h) (suc r)) n cs ≡ tally (λ h. nat_lt (rank h) r) n cs + tally (λ h. nat_eq (rank h) r) n cs
one_rank rank r n [] = refl
one_rank rank r n (c ∷ cs) = let rest = one_rank rank r (suc n) cs in let here = at_one (rank n) r in omega (arith, rest, here)
  where
    at_one : (m k : ℕ) → (if nat_lt m (suc k) then 1 else 0) ≡ (if nat_lt m k then 1 else 0) + (if nat_eq m k then 1 else 0)
    at_one m k = by_tests (nat_lt m (suc k)) refl (nat_lt m k) refl (nat_eq m k) refl
      where
        by_tests : (a : Bool) → nat_lt m (suc k) ≡ a → (b : Bool) → nat_lt m k ≡ b → (d : Bool) → nat_eq m k ≡ d
            → (if a then 1 else 0) ≡ (if b then 1 else 0) + (if d then 1 else 0)
        by_tests true e false f true g = refl
        by_tests true e true f false g = refl
        by_tests false e false f false g = refl
        by_tests true e true f true g = absurd (grind (arith, e, f, g))
        by_tests true e false f false g = absurd (grind (arith, e, f, g))
        by_tests false e true f true g = absurd (grind (arith, e, f, g))
        by_tests false e true f false g = absurd (grind (arith, e, f, g))
        by_tests false e false f true g = absurd (grind (arith, e, f, g))

none_low : (rank : Order) (n : ℕ) (cs : List Contact) → tally (λ h. nat_lt (rank h) 0) n cs ≡ 0
none_low rank n [] = refl
none_low rank n (c ∷ cs) =
    let none : nat_lt (rank n) 0 ≡ false = grind arith in
    let here : one_if (nat_lt (rank n) 0) ≡ one_if false = (λ i. one_if (none i)) in
    let rest = none_low rank (suc n) cs in
    omega (arith, rest, here)

listed_long : (rank : Order) (r : ℕ) (cs : List Contact) → length (in_order rank r (λ m. true) cs) ≡ tally (λ h. nat_lt (rank h) r) 0 cs
listed_long rank zero cs = sym (none_low rank 0 cs)
listed_long rank (suc r) cs =
    let both = length-append (in_order rank r (λ m. true) cs) (slots_of (λ m. nat_eq (rank m) r) 0 cs) in
    let first = listed_long rank r cs in
    let second = slots_long (λ m. nat_eq (rank m) r) 0 cs in
    let sum = one_rank rank r 0 cs in
    omega (arith, both, first, second, sum)

all_low : (rank : Order) (r n : ℕ) (cs : List Contact) → ((h : ℕ) → n ≤ h → h < n + length cs → rank h < r) → tally (λ h. nat_lt (rank h) r) n cs ≡ length cs
all_low rank r n [] low = refl
all_low rank r n (c ∷ cs) low =
    let small : rank n < r = low n (omega arith) (omega arith) in
    let less : nat_lt (rank n) r ≡ true = grind (arith, small) in
    let here : one_if (nat_lt (rank n) r) ≡ one_if true = (λ i. one_if (less i)) in
    let rest = all_low rank r (suc n) cs (λ h above within. low h (omega (arith, above)) (omega (arith, within))) in
    omega (arith, rest, here)

-- where all ranks are below it, as many as there are handshakes
pub as_long : (rank : Order) (r : ℕ) (cs : List Contact) → ((h : ℕ) → h < length cs → rank h < r) → length (by_rank rank r (λ m. true) cs) ≡ length cs
as_long rank r cs low =
    length-map (in_order rank r (λ m. true) cs) shake_of ∙ (listed_long rank r cs ∙ all_low rank r 0 cs (λ h above within. low h (omega (arith, within))))

-- a number above these ranks
abbrev pub above_all : Order → ℕ → ℕ
above_all rank zero = 0
above_all rank (suc n) = suc (rank n) + above_all rank n

pub all_below : (rank : Order) (n h : ℕ) → h < n → rank h < above_all rank n
all_below rank zero h low = absurd (omega (arith, low))
all_below rank (suc n) h low = by_place (nat_eq h n) refl (all_below rank n h)
  where
    by_place : (b : Bool) → nat_eq h n ≡ b → (h < n → rank h < above_all rank n) → rank h < above_all rank (suc n)
    by_place true is go = let same = ap rank (eqb-true h n is) in omega (arith, same)
    by_place false other go =
        let rest = go (below h n (omega (arith, low)) (eqb-false h n other)) in
        omega (arith, rest)
