-- All nets in an order by level, and then by number: each comes once, and behind its pins.
use Rattle.std.specs.Prelude.{◌≡◌, ℕ, zero, suc, ◌+◌, ◌-◌, ◌<◌, ◌≤◌, ◌⊎◌, Bool, false, List, [], ◌∷◌, Contains, IsPermutation, length, get_or, drop, max, nat_eq, sum_by, if◌then◌else◌}
use Rattle.std.specs.List.{AllByRecursion}
use Rattle.std.proofs.Common.{arith, refl, sym, ap, subst, inl, inr, ◌∙◌}
use Rattle.std.proofs.Math.Nat.{le-max_left, le-max_right}
use Rattle.std.proofs.lemmas.Bool.{cases_eq, cases_lt}
use Rattle.std.proofs.lemmas.List.{drop_more, drop_all, get_or_default, length-drop}
use Rattle.std.specs.List.Sorted.{IsSortedByKey}
use Rattle.std.specs.Ordering.{nat_cmp, is_lt}
use Rattle.std.proofs.lemmas.List.Sums.{sum_by-cons}
use Rattle.std.proofs.lemmas.Bool.Decides.{nat_tests}
use Rattle.std.proofs.lemmas.List.Sorted.{Contains-permutation, IsPermutation-sym, sum_by-IsPermutation}
use Rattle.std.proofs.lemmas.Option.{slice_get-get_or, slice_get_within, get_or_from_slice_get}
use Rattle.gos_netlist.specs.Nets.{Function, Cell, pins}
use Rattle.gos_netlist.specs.Nets as net
use Rattle.gos_netlist.specs.Settling.{Numbers, at}
use Rattle.gos_netcheck.specs.CellRules.{NetsExist}
use Rattle.gos_netcheck.specs.Levels.{AreLevels, greatest, level_of}
use Rattle.gos_gates.specs.Lowered.{StandsBefore, IsByLevel}
use Rattle.gos_gates.specs.inner.Laying.{cell_at, no_cell}
use Rattle.gos_gates.specs.inner.Standing.{is_source, Among, IsLaid, ComeInOrder}
use Rattle.gos_gates.specs.inner.Orders.{numbers_from, IsOrdered}

pub numbers_length : (m k : ℕ) → length (numbers_from m k) ≡ k
numbers_length m zero = refl
numbers_length m (suc k) = ap suc (numbers_length (suc m) k)

pub numbers_at : (m k i : ℕ) → i < k → get_or (numbers_from m k) i 0 ≡ m + i
numbers_at m zero i low = absurd (omega (arith, low))
numbers_at m (suc k) zero low = omega arith
numbers_at m (suc k) (suc i) low = let rest : get_or (numbers_from (suc m) k) i 0 ≡ suc m + i = numbers_at (suc m) k i (omega (arith, low)) in omega (arith, rest)

-- the level of a cell that reads is above those of its pins
above_pins : (levels : ℕ → ℕ) (ns : List ℕ) (a : ℕ) → Among a ns → levels a ≤ greatest levels ns
above_pins levels [] a h = absurd h
above_pins levels (b ∷ []) a (inl e) = let s : levels a ≡ levels b = ap levels e in omega (arith, s)
above_pins levels (b ∷ []) a (inr h) = absurd h
above_pins levels (b ∷ d ∷ ns) a (inl e) =
    let s : levels a ≡ levels b = ap levels e in
    let le : levels b ≤ max (levels b) (greatest levels (d ∷ ns)) = le-max_left (levels b) (greatest levels (d ∷ ns)) in
    omega (arith, s, le)
above_pins levels (b ∷ d ∷ ns) a (inr h) =
    let le : greatest levels (d ∷ ns) ≤ max (levels b) (greatest levels (d ∷ ns)) = le-max_right (levels b) (greatest levels (d ∷ ns)) in
    omega (arith, le, above_pins levels (d ∷ ns) a h)

pins_below : (f : Function) (levels : ℕ → ℕ) (a : ℕ) → is_source f ≡ false → Among a (pins f) → levels a < level_of f levels
pins_below net.Input levels a e h = absurd (cc)
pins_below (net.Const k) levels a e h = absurd h
pins_below (net.Not b) levels a e h = omega (arith, above_pins levels (b ∷ []) a h)
pins_below (net.And b d) levels a e h = omega (arith, above_pins levels (b ∷ d ∷ []) a h)
pins_below (net.Or b d) levels a e h = omega (arith, above_pins levels (b ∷ d ∷ []) a h)
pins_below (net.Xor b d) levels a e h = omega (arith, above_pins levels (b ∷ d ∷ []) a h)
pins_below (net.Mux s b d) levels a e h = omega (arith, above_pins levels (s ∷ b ∷ d ∷ []) a h)
pins_below (net.Add b d) levels a e h = omega (arith, above_pins levels (b ∷ d ∷ []) a h)
pins_below (net.Sub b d) levels a e h = omega (arith, above_pins levels (b ∷ d ∷ []) a h)
pins_below (net.Eq b d) levels a e h = omega (arith, above_pins levels (b ∷ d ∷ []) a h)
pins_below (net.Less b d) levels a e h = omega (arith, above_pins levels (b ∷ d ∷ []) a h)
pins_below (net.Gate s b) levels a e h = omega (arith, above_pins levels (s ∷ b ∷ []) a h)
pins_below (net.Reg b) levels a e h = absurd (cc)

-- the place at which a net stands
pub record StandsAt (ns : List ℕ) (m : ℕ) : Type 0 where
  pub place : ℕ
  pub inside : place < length ns
  pub is : get_or ns place 0 ≡ m

stands_at : (ns : List ℕ) (m : ℕ) → Among m ns → StandsAt ns m
stands_at [] m h = absurd h
stands_at (n ∷ ns) m (inl e) = record { place = 0; inside = omega arith; is = sym e }
stands_at (n ∷ ns) m (inr h) = let s = stands_at ns m h in record { place = suc s.place; inside = omega (arith, s.inside); is = s.is }

pub among_contains : (ns : List ℕ) (m : ℕ) → Contains ns m → Among m ns
among_contains [] m h = absurd (omega (arith, h.1))
among_contains (n ∷ ns) m (zero, low, is) = inl (sym is)
among_contains (n ∷ ns) m (suc k, low, is) = inr (among_contains ns m (k, omega (arith, low), is))

drop_at_place : (i k : ℕ) (ns : List ℕ) → get_or (drop i ns) k 0 ≡ get_or ns (i + k) 0
drop_at_place zero k ns = let e : k ≡ 0 + k = omega arith in ap (λ (j : ℕ). get_or ns j 0) e
drop_at_place (suc i) k [] = refl
drop_at_place (suc i) k (n ∷ ns) = let e : suc (i + k) ≡ suc i + k = omega arith in drop_at_place i k ns ∙ ap (λ (j : ℕ). get_or (n ∷ ns) j 0) e

-- how often a number stands in a list
abbrev pub one_if : Bool → ℕ
one_if b = if b then 1 else 0

abbrev pub times : ℕ → List ℕ → ℕ
times n [] = 0
times n (x ∷ xs) = one_if (nat_eq x n) + times n xs

times_sum : (n : ℕ) (xs : List ℕ) → times n xs ≡ sum_by (λ x. one_if (nat_eq x n)) xs
times_sum n [] = refl
times_sum n (x ∷ xs) = let rest = times_sum n xs in omega (arith, rest, sum_by-cons (λ y. one_if (nat_eq y n)) x xs)

pub times_some : (n : ℕ) (xs : List ℕ) → Among n xs → 1 ≤ times n xs
times_some n [] h = absurd h
times_some n (x ∷ xs) (inl e) = let t : one_if (nat_eq x n) ≡ 1 = rw (sym e) (same n) in omega (arith, t)
  where
    same : (m : ℕ) → one_if (nat_eq m m) ≡ 1
    same m = grind (arith, nat_tests)
times_some n (x ∷ xs) (inr h) = omega (arith, times_some n xs h)

apart_none : (x n : ℕ) → (x ≡ n → ⊥) → one_if (nat_eq x n) ≡ 0
apart_none x n other = grind (arith, nat_tests)

at_most_one : (x n : ℕ) → one_if (nat_eq x n) ≤ 1
at_most_one x n = grind (arith, nat_tests)

numbers_none : (n m k : ℕ) → n < m → times n (numbers_from m k) ≡ 0
numbers_none n m zero low = refl
numbers_none n m (suc k) low =
    let rest : times n (numbers_from (suc m) k) ≡ 0 = numbers_none n (suc m) k (omega (arith, low)) in
    omega (arith, rest, apart_none m n (λ e. omega (arith, e, low)))

numbers_once : (n m k : ℕ) → times n (numbers_from m k) ≤ 1
numbers_once n m zero = omega arith
numbers_once n m (suc k) = by_net (cases_eq m n) (numbers_once n (suc m) k)
  where
    by_net : (m ≡ n) ⊎ (m ≡ n → ⊥) → times n (numbers_from (suc m) k) ≤ 1 → times n (numbers_from m (suc k)) ≤ 1
    by_net (inl e) _ = let rest : times n (numbers_from (suc m) k) ≡ 0 = numbers_none n (suc m) k (omega (arith, e)) in omega (arith, rest, at_most_one m n)
    by_net (inr other) rest = omega (arith, rest, apart_none m n other)

times_drop : (n i : ℕ) (xs : List ℕ) → times n (drop i xs) ≤ times n xs
times_drop n zero xs = omega arith
times_drop n (suc i) [] = omega arith
times_drop n (suc i) (x ∷ xs) = omega (arith, times_drop n i xs)

module _ (cells : List Cell) (exist : NetsExist cells) (levels : Numbers) (are : AreLevels cells levels) (order : List ℕ)
    (perm : IsPermutation (numbers_from 0 (length cells)) order) (ord : IsOrdered levels order) where
  order_once : (n : ℕ) → times n order ≤ 1
  order_once n =
      let same = sum_by-IsPermutation (λ x. one_if (nat_eq x n)) (numbers_from 0 (length cells)) order perm in
      omega (arith, same, times_sum n order, times_sum n (numbers_from 0 (length cells)), numbers_once n 0 (length cells))

  pub order_all : (n : ℕ) → n < length cells → Contains order n
  order_all n low =
      let is : get_or (numbers_from 0 (length cells)) n 0 ≡ n = numbers_at 0 (length cells) n low ∙ (let z : 0 + n ≡ n = omega arith in z) in
      let inside : n < length (numbers_from 0 (length cells)) = omega (arith, low, numbers_length 0 (length cells)) in
      Contains-permutation (numbers_from 0 (length cells)) order n perm (n, inside, get_or_default (numbers_from 0 (length cells)) n n 0 inside ∙ is)

  pub order_low : (i : ℕ) → i < length order → get_or order i 0 < length cells
  order_low i inside =
      let m : ℕ = get_or order i 0 in
      let has = Contains-permutation order (numbers_from 0 (length cells)) m (IsPermutation-sym (numbers_from 0 (length cells)) order perm) (i, inside, get_or_default order i m 0 inside) in
      let place : has.0 < length cells = omega (arith, has.1, numbers_length 0 (length cells)) in
      omega (arith, place, numbers_at 0 (length cells) has.0 place, sym (get_or_default (numbers_from 0 (length cells)) has.0 m 0 has.1) ∙ has.2)

  -- a net that stands behind another one is not below it
  not_below : (i a : ℕ) → Among a (drop i order) → i < length order → at levels (get_or order i 0) ≤ at levels a
  not_below i a h inside =
      let s = stands_at (drop i order) a h in
      let place : get_or order (i + s.place) 0 ≡ a = sym (drop_at_place i s.place order) ∙ s.is in
      let room : i + s.place < length order = omega (arith, s.inside, length-drop i order) in
      let le = ord.rising i (i + s.place) (omega arith) room in
      let P : ℕ → Type 0 = λ x. at levels (get_or order i 0) ≤ at levels x in
      subst P place le

  in_order : (k i : ℕ) → i + k ≡ length order → ComeInOrder cells (drop i order)
  in_order zero i e =
      let none : drop i order ≡ [] = drop_all i order (omega (arith, e)) in
      let P : List ℕ → Type 0 = λ ns. ComeInOrder cells ns in
      subst P (sym none) tt
  in_order (suc k) i e =
      let inside : i < length order = omega (arith, e) in
      let n : ℕ = get_or order i 0 in
      let here : drop i order ≡ n ∷ drop (i + 1) order = drop_more order i 0 inside in
      let low : n < length cells = order_low i inside in
      let rest : ComeInOrder cells (drop (i + 1) order) = in_order k (i + 1) (omega (arith, e)) in
      let P : List ℕ → Type 0 = λ ns. ComeInOrder cells ns in
      let once : times n (drop i order) ≤ 1 = omega (arith, times_drop n i order, order_once n) in
      let counted : times n (drop i order) ≡ times n (n ∷ drop (i + 1) order) = ap (times n) here in
      subst P (sym here) (low, (λ again. twice n (drop (i + 1) order) again (omega (arith, once, counted))), (λ made. pins_laid i n here inside low made (pins (cell_at cells n).gate) (λ a h. h) (exist n (cell_at cells n) (slice_get-get_or cells n no_cell low))), rest)
    where
      twice : (n : ℕ) (ns : List ℕ) → Among n ns → times n (n ∷ ns) ≤ 1 → ⊥
      twice n ns again le =
          let first : one_if (nat_eq n n) ≡ 1 = same n in
          omega (arith, first, times_some n ns again, le)
        where
          same : (m : ℕ) → one_if (nat_eq m m) ≡ 1
          same m = grind (arith, nat_tests)

      pins_laid : (i n : ℕ) → drop i order ≡ n ∷ drop (i + 1) order → i < length order → n < length cells → is_source (cell_at cells n).gate ≡ false
          → (ps : List ℕ) → ((a : ℕ) → Among a ps → Among a (pins (cell_at cells n).gate)) → AllByRecursion (λ a. a < length cells) ps
          → AllByRecursion (λ a. (a < length cells) × IsLaid cells (n ∷ drop (i + 1) order) a) ps
      pins_laid i n here inside low made [] sub there = tt
      pins_laid i n here inside low made (a ∷ ps) sub there =
          ((there.0, inr (λ h. behind h)), pins_laid i n here inside low made ps (λ b h. sub b (inr h)) there.1)
        where
          behind : Among a (n ∷ drop (i + 1) order) → ⊥
          behind h =
              let Q : List ℕ → Type 0 = λ ns. Among a ns in
              let le : at levels (get_or order i 0) ≤ at levels a = not_below i a (subst Q (sym here) h) inside in
              let below : at levels a < level_of (cell_at cells n).gate (at levels) = pins_below (cell_at cells n).gate (at levels) a made (sub a (inl refl)) in
              let is : at levels n ≡ level_of (cell_at cells n).gate (at levels) = are.leveled n (cell_at cells n) (slice_get-get_or cells n no_cell low) in
              let first : get_or (drop i order) 0 0 ≡ n = ap (λ (ns : List ℕ). get_or ns 0 0) here in
              let net : get_or order i 0 ≡ n = (let z : i + 0 ≡ i = omega arith in ap (λ (j : ℕ). get_or order j 0) (sym z)) ∙ (sym (drop_at_place i 0 order) ∙ first) in
              let same : at levels (get_or order i 0) ≡ at levels n = ap (at levels) net in
              omega (arith, le, below, is, same)

  pub come_in_order : ComeInOrder cells order
  come_in_order = in_order (length order) 0 (omega arith)

  -- a net stands but once
  stands_once : (i : ℕ) → i < length order → Among (get_or order i 0) (drop (i + 1) order) → ⊥
  stands_once i inside =
      let n : ℕ = get_or order i 0 in
      let here : drop i order ≡ n ∷ drop (i + 1) order = drop_more order i 0 inside in
      let left : i + (length order - i) ≡ length order = omega (arith, inside) in
      let P : List ℕ → Type 0 = λ ns. ComeInOrder cells ns in
      (subst P here (in_order (length order - i) i left)).1

  -- at one level numbers rise from one net to the next, and so between any two
  next_above : (k : ℕ) → k + 1 < length order → at levels (get_or order k 0) ≡ at levels (get_or order (k + 1) 0) → get_or order k 0 < get_or order (k + 1) 0
  next_above k inside same =
      let le : get_or order k 0 ≤ get_or order (k + 1) 0 = ord.numbers k inside same in
      let after : drop (k + 1) order ≡ get_or order (k + 1) 0 ∷ drop (k + 1 + 1) order = drop_more order (k + 1) 0 inside in
      by_order (cases_lt (get_or order k 0) (get_or order (k + 1) 0)) le after
    where
      by_order : (get_or order k 0 < get_or order (k + 1) 0) ⊎ (get_or order (k + 1) 0 ≤ get_or order k 0) → get_or order k 0 ≤ get_or order (k + 1) 0
          → drop (k + 1) order ≡ get_or order (k + 1) 0 ∷ drop (k + 1 + 1) order → get_or order k 0 < get_or order (k + 1) 0
      by_order (inl less) le after = less
      by_order (inr more) le after =
          let e : get_or order k 0 ≡ get_or order (k + 1) 0 = omega (arith, more, le) in
          let P : List ℕ → Type 0 = λ ns. Among (get_or order k 0) ns in
          absurd (stands_once k (omega (arith, inside)) (subst P (sym after) (inl e)))

  above : (d i : ℕ) → i + suc d < length order → at levels (get_or order i 0) ≡ at levels (get_or order (i + suc d) 0) → get_or order i 0 < get_or order (i + suc d) 0
  above zero i inside same =
      let next : i + 1 ≡ i + suc zero = omega arith in
      next_above i (omega (arith, inside)) same
  above (suc d) i inside same =
      let shift : i + suc (suc d) ≡ i + 1 + suc d = omega arith in
      let there : get_or order (i + suc (suc d)) 0 ≡ get_or order (i + 1 + suc d) 0 = ap (λ (j : ℕ). get_or order j 0) shift in
      let level : at levels (get_or order (i + suc (suc d)) 0) ≡ at levels (get_or order (i + 1 + suc d) 0) = ap (at levels) there in
      let up : at levels (get_or order i 0) ≤ at levels (get_or order (i + 1) 0) = ord.rising i (i + 1) (omega arith) (omega (arith, inside)) in
      let down : at levels (get_or order (i + 1) 0) ≤ at levels (get_or order (i + 1 + suc d) 0) = ord.rising (i + 1) (i + 1 + suc d) (omega arith) (omega (arith, inside)) in
      let first : get_or order i 0 < get_or order (i + 1) 0 = next_above i (omega (arith, inside)) (omega (arith, up, down, same, level)) in
      let rest : get_or order (i + 1) 0 < get_or order (i + 1 + suc d) 0 = above d (i + 1) (omega (arith, inside)) (omega (arith, up, down, same, level)) in
      omega (arith, first, rest, there)

  stands_before : (i j : ℕ) → i < j → j < length order → StandsBefore levels (get_or order i 0) (get_or order j 0)
  stands_before i j less inside =
      let le : at levels (get_or order i 0) ≤ at levels (get_or order j 0) = ord.rising i j (omega (arith, less)) inside in
      by_level le (cases_lt (at levels (get_or order i 0)) (at levels (get_or order j 0)))
    where
      by_level : at levels (get_or order i 0) ≤ at levels (get_or order j 0) → (at levels (get_or order i 0) < at levels (get_or order j 0)) ⊎ (at levels (get_or order j 0) ≤ at levels (get_or order i 0))
          → StandsBefore levels (get_or order i 0) (get_or order j 0)
      by_level le (inl low) = inl low
      by_level le (inr high) =
          let same : at levels (get_or order i 0) ≡ at levels (get_or order j 0) = omega (arith, le, high) in
          let e : i + suc (j - suc i) ≡ j = omega (arith, less) in
          let P : ℕ → Type 0 = λ k. k < length order → at levels (get_or order i 0) ≡ at levels (get_or order k 0) → get_or order i 0 < get_or order k 0 in
          inr (same, subst P e (above (j - suc i) i) inside same)

  pub is_by_level : IsByLevel levels order
  is_by_level = record {
    all = λ n low. order_all n (omega (arith, low, are.each));
    nets = λ i n is.
        let inside : i < length order = slice_get_within order i n is in
        let net : get_or order i 0 ≡ n = get_or_from_slice_get order i n 0 is in
        omega (arith, order_low i inside, net, are.each);
    rising = λ i j a b less at_i at_j.
        let first : get_or order i 0 ≡ a = get_or_from_slice_get order i a 0 at_i in
        let second : get_or order j 0 ≡ b = get_or_from_slice_get order j b 0 at_j in
        let P : ℕ → Type 0 = λ x. StandsBefore levels x b in
        let Q : ℕ → Type 0 = λ y. StandsBefore levels (get_or order i 0) y in
        subst P first (subst Q second (stands_before i j less (slice_get_within order j b at_j)));
  }

-- numbers in a row are sorted
pub numbers_sorted : (m k : ℕ) → IsSortedByKey (λ x. x) nat_cmp (numbers_from m k)
numbers_sorted m k i d _ low =
    let count : i + 1 < k = omega (arith, low, numbers_length m k) in
    let before : i < length (numbers_from m k) = omega (arith, low) in
    let first : get_or (numbers_from m k) i d ≡ m + i = get_or_default (numbers_from m k) i d 0 before ∙ numbers_at m k i (omega (arith, count)) in
    let second : get_or (numbers_from m k) (i + 1) d ≡ m + (i + 1) = get_or_default (numbers_from m k) (i + 1) d 0 low ∙ numbers_at m k (i + 1) count in
    not_less (get_or (numbers_from m k) (i + 1) d) (get_or (numbers_from m k) i d) (omega (arith, first, second))
  where
    not_less : (x y : ℕ) → y ≤ x → is_lt (nat_cmp x y) ≡ false
    not_less x y le = grind (arith, nat_tests)
