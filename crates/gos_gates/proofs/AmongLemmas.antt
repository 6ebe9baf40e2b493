-- Nets among others: which of them pass a test, whether any stands twice, and how many bits they have together.
use Rattle.std.specs.Prelude.{◌≡◌, ℕ, zero, suc, ◌+◌, ◌<◌, ◌≤◌, ◌⊎◌, Bool, true, false, List, [], ◌∷◌, ◌++◌, Contains, filter, length, sum_by}
use Rattle.std.specs.List.{AllByRecursion}
use Rattle.std.proofs.Common.{arith, refl, sym, ap, subst, inl, inr, ◌∙◌, cond}
use Rattle.std.proofs.lemmas.Bool.{cases_eq, cases_lt}
use Rattle.std.proofs.lemmas.List.Sums.{sum_by-cons, sum_by-append}
use Rattle.gos_netlist.specs.Nets.{Cell}
use Rattle.gos_gates.specs.Lowered.{width_of, units, bits_in}
use Rattle.gos_gates.specs.inner.Laying.{cell_at}
use Rattle.gos_gates.specs.inner.Standing.{Among}
use Rattle.gos_gates.specs.inner.Orders.{numbers_from}
use Rattle.gos_gates.proofs.SourceLemmas.{NoTwice}
use Rattle.gos_gates.proofs.StandLemmas.{width_is}

pub contains_among : (ns : List ℕ) (m : ℕ) → Among m ns → Contains ns m
contains_among [] m h = absurd h
contains_among (n ∷ ns) m (inl e) = (0, omega arith, sym e)
contains_among (n ∷ ns) m (inr h) = let c = contains_among ns m h in (suc c.0, omega (arith, c.1), c.2)

pub among_or_not : (ns : List ℕ) (m : ℕ) → Among m ns ⊎ (Among m ns → ⊥)
among_or_not [] m = inr (λ h. h)
among_or_not (n ∷ ns) m = by_net (cases_eq m n) (among_or_not ns m)
  where
    by_net : (m ≡ n) ⊎ (m ≡ n → ⊥) → Among m ns ⊎ (Among m ns → ⊥) → Among m (n ∷ ns) ⊎ (Among m (n ∷ ns) → ⊥)
    by_net (inl e) h = inl (inl e)
    by_net (inr other) (inl h) = inl (inr h)
    by_net (inr other) (inr none) = inr neither
      where
        neither : (m ≡ n) ⊎ Among m ns → ⊥
        neither (inl e) = other e
        neither (inr h) = none h

pub among_append : (xs ys : List ℕ) (m : ℕ) → Among m (xs ++ ys) → Among m xs ⊎ Among m ys
among_append [] ys m h = inr h
among_append (x ∷ xs) ys m (inl e) = inl (inl e)
among_append (x ∷ xs) ys m (inr h) = by_side (among_append xs ys m h)
  where
    by_side : Among m xs ⊎ Among m ys → Among m (x ∷ xs) ⊎ Among m ys
    by_side (inl left) = inl (inr left)
    by_side (inr right) = inr right

pub among_left : (xs ys : List ℕ) (m : ℕ) → Among m xs → Among m (xs ++ ys)
among_left [] ys m h = absurd h
among_left (x ∷ xs) ys m (inl e) = inl e
among_left (x ∷ xs) ys m (inr h) = inr (among_left xs ys m h)

pub among_right : (xs ys : List ℕ) (m : ℕ) → Among m ys → Among m (xs ++ ys)
among_right [] ys m h = h
among_right (x ∷ xs) ys m h = inr (among_right xs ys m h)

pub among_all : (P : ℕ → Type 0) (ns : List ℕ) (m : ℕ) → Among m ns → AllByRecursion P ns → P m
among_all P [] m h all = absurd h
among_all P (n ∷ ns) m (inl e) all = subst P (sym e) all.0
among_all P (n ∷ ns) m (inr h) all = among_all P ns m h all.1

-- the nets that pass a test
pub among_filter : (test : ℕ → Bool) (ns : List ℕ) (m : ℕ) → Among m (filter test ns) → Among m ns × (test m ≡ true)
among_filter test [] m h = absurd h
among_filter test (n ∷ ns) m h = by_test (test n) refl (λ later. among_filter test ns m later) h
  where
    by_test : (b : Bool) → test n ≡ b → (Among m (filter test ns) → Among m ns × (test m ≡ true)) → Among m (cond b (n ∷ filter test ns) (filter test ns))
        → Among m (n ∷ ns) × (test m ≡ true)
    by_test true e rest (inl same) = (inl same, ap test same ∙ e)
    by_test true e rest (inr later) = let there = rest later in (inr there.0, there.1)
    by_test false e rest later = let there = rest later in (inr there.0, there.1)

pub all_filter : (P : ℕ → Type 0) (test : ℕ → Bool) (ns : List ℕ) → AllByRecursion P ns → AllByRecursion P (filter test ns)
all_filter P test [] all = tt
all_filter P test (n ∷ ns) all = by_test (test n) (all_filter P test ns all.1)
  where
    by_test : (b : Bool) → AllByRecursion P (filter test ns) → AllByRecursion P (cond b (n ∷ filter test ns) (filter test ns))
    by_test true rest = (all.0, rest)
    by_test false rest = rest

pub all_append : (P : ℕ → Type 0) (xs ys : List ℕ) → AllByRecursion P xs → AllByRecursion P ys → AllByRecursion P (xs ++ ys)
all_append P [] ys a b = b
all_append P (x ∷ xs) ys a b = (a.0, all_append P xs ys a.1 b)

-- a sum over those that pass is at most one over all
pub filter_sum : (f : ℕ → ℕ) (test : ℕ → Bool) (ns : List ℕ) → sum_by f (filter test ns) ≤ sum_by f ns
filter_sum f test [] = omega arith
filter_sum f test (n ∷ ns) = by_test (test n) (filter_sum f test ns)
  where
    by_test : (b : Bool) → sum_by f (filter test ns) ≤ sum_by f ns → sum_by f (cond b (n ∷ filter test ns) (filter test ns)) ≤ sum_by f (n ∷ ns)
    by_test true rest = omega (arith, rest, sum_by-cons f n (filter test ns), sum_by-cons f n ns)
    by_test false rest = omega (arith, rest, sum_by-cons f n ns)

-- no net stands twice in two lists that share none
pub no_twice_append : (xs ys : List ℕ) → NoTwice xs → NoTwice ys → ((m : ℕ) → Among m xs → Among m ys → ⊥) → NoTwice (xs ++ ys)
no_twice_append [] ys a b apart = b
no_twice_append (x ∷ xs) ys a b apart = (λ h. by_side (among_append xs ys x h), no_twice_append xs ys a.1 b (λ m h. apart m (inr h)))
  where
    by_side : Among x xs ⊎ Among x ys → ⊥
    by_side (inl h) = a.0 h
    by_side (inr h) = apart x (inl refl) h

-- a list at a net in it
record Split (ns : List ℕ) (m : ℕ) : Type 0 where
  front : List ℕ
  back : List ℕ
  is : ns ≡ front ++ m ∷ back

split : (ns : List ℕ) (m : ℕ) → Among m ns → Split ns m
split [] m h = absurd h
split (n ∷ ns) m (inl e) = record { front = []; back = ns; is = ap (λ (k : ℕ). k ∷ ns) (sym e) }
split (n ∷ ns) m (inr h) = let s = split ns m h in record { front = n ∷ s.front; back = s.back; is = ap (λ (xs : List ℕ). n ∷ xs) s.is }

-- nets of which none stands twice have no more in sum than a list that has them all
pub distinct_sum : (f : ℕ → ℕ) (xs ys : List ℕ) → NoTwice xs → ((m : ℕ) → Among m xs → Among m ys) → sum_by f xs ≤ sum_by f ys
distinct_sum f [] ys apart within = omega arith
distinct_sum f (x ∷ xs) ys apart within =
    let s : Split ys x = split ys x (within x (inl refl)) in
    let rest : sum_by f xs ≤ sum_by f (s.front ++ s.back) = distinct_sum f xs (s.front ++ s.back) apart.1 (left s) in
    omega (arith, rest, sum_by-cons f x xs, ap (sum_by f) s.is, sum_by-append f s.front (x ∷ s.back), sum_by-append f s.front s.back, sum_by-cons f x s.back)
  where
    left : (s : Split ys x) (m : ℕ) → Among m xs → Among m (s.front ++ s.back)
    left s m h =
        let P : List ℕ → Type 0 = λ ns. Among m ns in
        by_side (among_append s.front (x ∷ s.back) m (subst P s.is (within m (inr h))))
      where
        by_side : Among m s.front ⊎ Among m (x ∷ s.back) → Among m (s.front ++ s.back)
        by_side (inl front) = among_left s.front s.back m front
        by_side (inr (inr back)) = among_right s.front s.back m back
        by_side (inr (inl same)) = let P : ℕ → Type 0 = λ k. Among k xs in absurd (apart.0 (subst P same h))

sum_le : (f g : ℕ → ℕ) (ns : List ℕ) → ((n : ℕ) → f n ≤ g n) → sum_by f ns ≤ sum_by g ns
sum_le f g [] le = omega arith
sum_le f g (n ∷ ns) le = omega (arith, le n, sum_le f g ns le, sum_by-cons f n ns, sum_by-cons g n ns)

numbers_among : (m n k : ℕ) → n ≤ m → m < n + k → Among m (numbers_from n k)
numbers_among m n zero low high = absurd (omega (arith, low, high))
numbers_among m n (suc k) low high = by_net (cases_lt n m) (λ above. numbers_among m (suc n) k above (omega (arith, high)))
  where
    by_net : (n < m) ⊎ (m ≤ n) → (suc n ≤ m → Among m (numbers_from (suc n) k)) → Among m (numbers_from n (suc k))
    by_net (inl above) rest = inr (rest (omega (arith, above)))
    by_net (inr same) rest = let e : m ≡ n = omega (arith, low, same) in inl e

-- a sum over cells is one over their numbers
by_numbers : (u : Cell → ℕ) (whole cells : List Cell) (n : ℕ) → ((k : ℕ) → cell_at whole (n + k) ≡ cell_at cells k)
    → sum_by (λ m. u (cell_at whole m)) (numbers_from n (length cells)) ≡ sum_by u cells
by_numbers u whole [] n same = refl
by_numbers u whole (c ∷ cells) n same =
    let here : n + 0 ≡ n = omega arith in
    let first : u (cell_at whole n) ≡ u c = ap (λ (k : ℕ). u (cell_at whole k)) (sym here) ∙ ap u (same 0) in
    let rest : sum_by (λ m. u (cell_at whole m)) (numbers_from (suc n) (length cells)) ≡ sum_by u cells =
    by_numbers u whole cells (suc n) (λ k. let shift : suc n + k ≡ n + suc k = omega arith in ap (cell_at whole) shift ∙ same (suc k)) in
    omega (arith, first, rest, sum_by-cons (λ m. u (cell_at whole m)) n (numbers_from (suc n) (length cells)), sum_by-cons u c cells)

pub units_of_numbers : (cells : List Cell) → sum_by (λ n. units cells (cell_at cells n)) (numbers_from 0 (length cells)) ≡ bits_in cells
units_of_numbers cells = by_numbers (units cells) cells cells 0 (λ k. let zero_more : 0 + k ≡ k = omega arith in ap (cell_at cells) zero_more)

-- nets of which none stands twice have no more bits than the netlist
pub ends_few : (cells : List Cell) (ns : List ℕ) → NoTwice ns → AllByRecursion (λ n. n < length cells) ns → sum_by (width_of cells) ns ≤ bits_in cells
ends_few cells ns apart low =
    let all : List ℕ = numbers_from 0 (length cells) in
    let ends : sum_by (width_of cells) ns ≤ sum_by (width_of cells) all =
    distinct_sum (width_of cells) ns all apart (λ m h. let inside = among_all (λ n. n < length cells) ns m h low in numbers_among m 0 (length cells) (omega arith) (omega (arith, inside))) in
    let bits : sum_by (width_of cells) all ≤ sum_by (λ n. units cells (cell_at cells n)) all =
    sum_le (width_of cells) (λ n. units cells (cell_at cells n)) all (λ n. omega (arith, width_is cells n)) in
    omega (arith, ends, bits, units_of_numbers cells)
