-- The words of an array pick the number at the index; an entry clears all numbers, and a write sets the one at the index.
--
-- Read first: Words; SettledCells of laws. The numbers are counted from the one of the first word on, so that one induction over the
-- words says both.
use Rattle.std.proofs.Common.{◌≡◌, ℕ, zero, suc, ◌+◌, ◌*◌, ◌≤◌, Bool, true, false, List, [], ◌∷◌, refl, sym, ap, ◌∙◌, subst, arith}
use Rattle.std.specs.Prelude.{length, get_or, set, replicate, nat_eq, bit_and, if◌then◌else◌}
use Rattle.gos_netlist.specs.Settling.{Numbers, at}
use Rattle.gos_macro.specs.Gates.{Settled}
use Rattle.gos_macro.specs.laws.SettledCells.{settled_at, settled_both}
use Rattle.gos_data.specs.Stored.{next_stored}
use Rattle.gos_data.specs.Words.{WordNets, word_cells, words_cells, picked_net, numbers_held, kept_numbers, WordsAreKept, EachIndexPicksNoNumber}

-- the number at an index among these, of which the first is number x; s where there is none
abbrev number_at : ℕ → ℕ → List ℕ → ℕ → ℕ
number_at j x [] s = s
number_at j x (k ∷ ks) s = number_at j (suc x) ks (if nat_eq j x then k else s)

-- these numbers, of which the first is number x, with y at an index
abbrev with_at : ℕ → ℕ → ℕ → List ℕ → List ℕ
with_at j y x [] = []
with_at j y x (k ∷ ks) = (if nat_eq j x then y else k) ∷ with_at j y (suc x) ks

-- the numbers behind a cycle, of which the first is number x
abbrev next_at : (count t c j y x : ℕ) → List ℕ → List ℕ
next_at count t c j y x ks = if nat_eq t 1 then with_at j y x (kept_numbers count c ks) else kept_numbers count c ks

-- the first of them is stored by its own word
one_of : (count t c j y x k : ℕ) (ks : List ℕ) → t ≤ 1 → c ≤ 1
    → next_at (suc count) t c j y x (k ∷ ks) ≡ next_stored c (bit_and t (if nat_eq j x then 1 else 0)) y k ∷ next_at count t c j y (suc x) ks
one_of count zero zero j y x k ks f g = by_test (nat_eq j x)
  where
    by_test : (e : Bool) → 0 ∷ replicate count 0 ≡ next_stored 0 (bit_and 0 (if e then 1 else 0)) y k ∷ replicate count 0
    by_test true = refl
    by_test false = refl
one_of count zero (suc zero) j y x k ks f g = by_test (nat_eq j x)
  where
    by_test : (e : Bool) → k ∷ ks ≡ next_stored 1 (bit_and 0 (if e then 1 else 0)) y k ∷ ks
    by_test true = refl
    by_test false = refl
one_of count (suc zero) zero j y x k ks f g = by_test (nat_eq j x)
  where
    rest : List ℕ
    rest = with_at j y (suc x) (replicate count 0)

    by_test : (e : Bool) → (if e then y else 0) ∷ rest ≡ next_stored 0 (bit_and 1 (if e then 1 else 0)) y k ∷ rest
    by_test true = refl
    by_test false = refl
one_of count (suc zero) (suc zero) j y x k ks f g = by_test (nat_eq j x)
  where
    rest : List ℕ
    rest = with_at j y (suc x) ks

    by_test : (e : Bool) → (if e then y else k) ∷ rest ≡ next_stored 1 (bit_and 1 (if e then 1 else 0)) y k ∷ rest
    by_test true = refl
    by_test false = refl
one_of count (suc (suc t)) c j y x k ks f g = absurd (omega (arith, f))
one_of count t (suc (suc c)) j y x k ks f g = absurd (omega (arith, g))

none_left : (t c j y x : ℕ) → t ≤ 1 → c ≤ 1 → next_at 0 t c j y x [] ≡ []
none_left zero zero j y x f g = refl
none_left zero (suc zero) j y x f g = refl
none_left (suc zero) zero j y x f g = refl
none_left (suc zero) (suc zero) j y x f g = refl
none_left (suc (suc t)) c j y x f g = absurd (omega (arith, f))
none_left t (suc (suc c)) j y x f g = absurd (omega (arith, g))

-- a selector that is 1 or 0 by a test
by_selector : (e : Bool) (k m : ℕ) → (if nat_eq (if e then 1 else 0) 1 then k else m) ≡ (if e then k else m)
by_selector true k m = refl
by_selector false k m = refl

-- what words do, of which the first has number x
words_do : (w i : ℕ) (a : WordNets) (b n x s count : ℕ) (v regs after : Numbers) → at v a.writes ≤ 1 → at v a.stays ≤ 1
    → Settled v regs after b n (words_cells w i a b n x s count)
    → (at v (picked_net b n s count) ≡ number_at (at v a.index) x (numbers_held regs b n count) (at v s))
    × (numbers_held after b n count ≡ next_at count (at v a.writes) (at v a.stays) (at v a.index) (at v a.written) x (numbers_held regs b n count))
words_do w i a b n x s zero v regs after f g settled = (refl, sym (none_left (at v a.writes) (at v a.stays) (at v a.index) (at v a.written) x f g))
words_do w i a b n x s (suc count) v regs after f g settled =
    let rest = words_cells w i a b (n + 7) (suc x) (b + (n + 6)) count in
    let both = settled_both v regs after b n 7 (word_cells w i a b n x s) rest refl settled in
    let (c0, k0, (c1, k1, (c2, k2, (c3, k3, (c4, k4, (c5, k5, (c6, k6, nothing))))))) = settled_at v regs after b n (word_cells w i a b n x s) both.0 in
    let behind = words_do w i a b (n + 7) (suc x) (b + (n + 6)) count v regs after f g both.1 in
    let here = nat_eq (at v a.index) x in
    let held = at regs (b + (n + 5)) in
    let equal : at v (b + (n + 1)) ≡ (if here then 1 else 0) = c1 ∙ ap (λ (m : ℕ). if nat_eq (at v a.index) m then 1 else 0) c0 in
    let picked : at v (b + (n + 6)) ≡ (if here then held else at v s) =
    c6 ∙ ((λ z. if nat_eq (equal z) 1 then c5 z else at v s) ∙ by_selector here held (at v s)) in
    let sets : at v (b + (n + 2)) ≡ bit_and (at v a.writes) (if here then 1 else 0) = c2 ∙ ap (λ (m : ℕ). bit_and (at v a.writes) m) equal in
    let kept : at v (b + (n + 3)) ≡ (if nat_eq (at v a.stays) 1 then held else 0) = c3 ∙ ap (λ (m : ℕ). if nat_eq (at v a.stays) 1 then m else 0) c5 in
    let next : at after (b + (n + 5)) ≡ next_stored (at v a.stays) (bit_and (at v a.writes) (if here then 1 else 0)) (at v a.written) held =
    k5 ∙ (c4 ∙ (λ z. if nat_eq (sets z) 1 then at v a.written else kept z)) in
    let held_behind = numbers_held regs b (n + 7) count in (
      behind.0 ∙ ap (λ (m : ℕ). number_at (at v a.index) (suc x) held_behind m) picked,
      (λ z. next z ∷ behind.1 z) ∙ sym (one_of count (at v a.writes) (at v a.stays) (at v a.index) (at v a.written) x held held_behind f g),
    )

pub words_length : (w i : ℕ) (a : WordNets) (b n x s count : ℕ) → length (words_cells w i a b n x s count) ≡ 7 * count
words_length w i a b n x s zero = refl
words_length w i a b n x s (suc count) = let rest = words_length w i a b (n + 7) (suc x) (b + (n + 6)) count in omega (arith, rest)

-- an index is its own, and none behind it
itself : (x : ℕ) → nat_eq x x ≡ true
itself x = grind arith

later : (x d : ℕ) → nat_eq x (suc (x + d)) ≡ false
later x d = grind arith

sooner : (x d : ℕ) → nat_eq (x + suc d) x ≡ false
sooner x d = grind arith

-- numbers behind an index don't matter to it
picks_none : (d x s : ℕ) (ks : List ℕ) → number_at x (suc (x + d)) ks s ≡ s
picks_none d x s [] = refl
picks_none d x s (k ∷ ks) =
    let here : suc (x + suc d) ≡ suc (suc (x + d)) = omega arith in
    ap (λ (e : Bool). number_at x (suc (suc (x + d))) ks (if e then k else s)) (later x d)
    ∙ subst (λ (m : ℕ). number_at x m ks s ≡ s) here (picks_none (suc d) x s ks)

sets_none : (d x y : ℕ) (ks : List ℕ) → with_at x y (suc (x + d)) ks ≡ ks
sets_none d x y [] = refl
sets_none d x y (k ∷ ks) =
    let here : suc (x + suc d) ≡ suc (suc (x + d)) = omega arith in
    let rest = subst (λ (m : ℕ). with_at x y m ks ≡ ks) here (sets_none (suc d) x y ks) in
    λ z. (if later x d z then y else k) ∷ rest z

-- counting from the first number's own is counting from 0
picks_number : (d x : ℕ) (ks : List ℕ) → number_at (x + d) x ks 0 ≡ get_or ks d 0
picks_number d x [] = refl
picks_number zero x (k ∷ ks) =
    let here : x ≡ x + 0 = omega arith in
    subst (λ (m : ℕ). number_at m x (k ∷ ks) 0 ≡ k) here
    (ap (λ (e : Bool). number_at x (suc x) ks (if e then k else 0)) (itself x)
    ∙ subst (λ (m : ℕ). number_at x (suc m) ks k ≡ k) (sym here) (picks_none 0 x k ks))
picks_number (suc d) x (k ∷ ks) =
    let here : suc x + d ≡ x + suc d = omega arith in
    ap (λ (e : Bool). number_at (x + suc d) (suc x) ks (if e then k else 0)) (sooner x d)
    ∙ subst (λ (m : ℕ). number_at m (suc x) ks 0 ≡ get_or ks d 0) here (picks_number d (suc x) ks)

sets_number : (d x y : ℕ) (ks : List ℕ) → with_at (x + d) y x ks ≡ set ks d y
sets_number d x y [] = refl
sets_number zero x y (k ∷ ks) =
    let here : x ≡ x + 0 = omega arith in
    let rest = subst (λ (m : ℕ). with_at x y (suc m) ks ≡ ks) (sym here) (sets_none 0 x y ks) in
    subst (λ (m : ℕ). with_at m y x (k ∷ ks) ≡ y ∷ ks) here (λ z. (if itself x z then y else k) ∷ rest z)
sets_number (suc d) x y (k ∷ ks) =
    let here : suc x + d ≡ x + suc d = omega arith in
    let rest = subst (λ (m : ℕ). with_at m y (suc x) ks ≡ set ks d y) here (sets_number d (suc x) y ks) in
    λ z. (if sooner x d z then y else k) ∷ rest z

pub words_are_kept : WordsAreKept
words_are_kept w i a b n picked count v regs after f g none settled =
    let known = words_do w i a b n 0 picked count v regs after f g settled in
    let j = at v a.index in
    let y = at v a.written in
    let ks = numbers_held regs b n count in
    let kept = kept_numbers count (at v a.stays) ks in
    let here : 0 + j ≡ j = omega arith in
    let picks = subst (λ (m : ℕ). number_at m 0 ks 0 ≡ get_or ks j 0) here (picks_number j 0 ks) in
    let sets = subst (λ (m : ℕ). with_at m y 0 kept ≡ set kept j y) here (sets_number j 0 y kept) in (
      known.0 ∙ (ap (λ (m : ℕ). number_at j 0 ks m) none ∙ picks),
      known.1 ∙ ap (λ (ms : List ℕ). if nat_eq (at v a.writes) 1 then ms else kept) sets,
    )

pub each_index_picks_no_number : EachIndexPicksNoNumber
each_index_picks_no_number law =
    let bad : 7 ≡ 0 = law (7 ∷ 7 ∷ 5 ∷ []) [] [] (refl, refl, tt) in
    omega (arith, bad)
