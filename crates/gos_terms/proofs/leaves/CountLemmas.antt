-- Counting: what stands once in one list, and stands in another, is no more than that.
use Rattle.std.specs.Prelude.{◌≡◌, ◌≢◌, ℕ, ◌+◌, ◌<◌, ◌≤◌, List, [], ◌∷◌, length}
use Rattle.std.proofs.Common.{refl, sym, ◌∙◌, ap, subst, arith, inl, inr}
use Rattle.gos_model.proofs.NumberLemmas.{number_cases}
use Rattle.gos_check.specs.declared.linear.Split.{Split}
use Rattle.gos_check.specs.Linearity.{times, split_in, sides, IsOneOf}
use Rattle.gos_check.proofs.TimesLemmas.{times_same, times_other}
use Rattle.gos_compile.proofs.KnownLemmas.{split_length}

-- how often what is in one list is in another
abbrev pub sum_times : List ℕ → List ℕ → ℕ
sum_times [] ys = 0
sum_times (x ∷ xs) ys = times x ys + sum_times xs ys

sum_none : (xs : List ℕ) → sum_times xs [] ≡ 0
sum_none [] = refl
sum_none (x ∷ xs) = let rest = sum_none xs in omega (arith, rest)

sum_next : (xs : List ℕ) (y : ℕ) (ys : List ℕ) → sum_times xs (y ∷ ys) ≡ times y xs + sum_times xs ys
sum_next [] y ys = refl
sum_next (x ∷ xs) y ys = let rest = sum_next xs y ys in number_cases x y (λ e t. same rest e) (λ e f. other rest e)
  where
    same : sum_times xs (y ∷ ys) ≡ times y xs + sum_times xs ys → x ≡ y
        → times x (y ∷ ys) + sum_times xs (y ∷ ys) ≡ times y (x ∷ xs) + (times x ys + sum_times xs ys)
    same rest e =
        let first : times x (y ∷ ys) ≡ 1 + times x ys = ap (λ (z : ℕ). times x (z ∷ ys)) (sym e) ∙ times_same x ys in
        let second : times y (x ∷ xs) ≡ 1 + times y xs = ap (λ (z : ℕ). times y (z ∷ xs)) e ∙ times_same y xs in
        omega (arith, rest, first, second)

    other : sum_times xs (y ∷ ys) ≡ times y xs + sum_times xs ys → x ≢ y
        → times x (y ∷ ys) + sum_times xs (y ∷ ys) ≡ times y (x ∷ xs) + (times x ys + sum_times xs ys)
    other rest e =
        let first = times_other x y ys (λ z. e (sym z)) in let second = times_other y x xs e in omega (arith, rest, first, second)

-- a number of a list is once in front of it, or behind
in_front : (x : ℕ) (xs : List ℕ) → 0 < times x (x ∷ xs)
in_front x xs = let e = times_same x xs in omega (arith, e)

pub behind : (k x : ℕ) (xs : List ℕ) → times k xs ≤ times k (x ∷ xs)
behind k x xs = omega arith

pub at_most : (xs ys : List ℕ) → ((k : ℕ) → times k xs ≤ 1) → sum_times xs ys ≤ length ys
at_most xs [] once = let none = sum_none xs in omega (arith, none)
at_most xs (y ∷ ys) once = let next = sum_next xs y ys in let one = once y in let rest = at_most xs ys once in omega (arith, next, one, rest)

at_least : (xs ys : List ℕ) → ((k : ℕ) → 0 < times k xs → 0 < times k ys) → length xs ≤ sum_times xs ys
at_least [] ys all = omega arith
at_least (x ∷ xs) ys all =
    let here = all x (in_front x xs) in
    let rest = at_least xs ys (λ k small. let more = behind k x xs in all k (omega (arith, small, more))) in
    omega (arith, here, rest)

pub no_more : (xs ys : List ℕ) → ((k : ℕ) → times k xs ≤ 1) → ((k : ℕ) → 0 < times k xs → 0 < times k ys) → length xs ≤ length ys
no_more xs ys once all = let low = at_least xs ys all in let high = at_most xs ys once in omega (arith, low, high)

-- splits and their sides, counted
pub sides_two : (ss : List Split) → length (sides ss) ≡ length ss + length ss
sides_two [] = omega arith
sides_two (s ∷ ss) = let rest = sides_two ss in omega (arith, rest)

-- splits whose sides are all split again by these are none
pub no_splits : (ss : List Split) → ((k : ℕ) → times k (sides ss) ≤ 1) → ((k : ℕ) → 0 < times k (sides ss) → 0 < times k (split_in ss)) → ss ≡ []
no_splits [] once all = refl
no_splits (s ∷ ss) once all =
    let low = no_more (sides (s ∷ ss)) (split_in (s ∷ ss)) once all in
    let two = sides_two (s ∷ ss) in
    let one = split_length (s ∷ ss) in
    absurd (omega (arith, low, two, one))

-- the sides of one of the splits are among all sides
pub left_in : (s : Split) (ss : List Split) → IsOneOf s ss → 0 < times s.left (sides ss)
left_in s [] one = absurd one
left_in s (t ∷ ss) (inl e) =
    subst (λ (u : Split). 0 < times s.left (u.left ∷ u.right ∷ sides ss)) e (in_front s.left (s.right ∷ sides ss))
left_in s (t ∷ ss) (inr rest) =
    let there = left_in s ss rest in
    let one = behind s.left t.left (t.right ∷ sides ss) in let two = behind s.left t.right (sides ss) in omega (arith, there, one, two)

pub right_in : (s : Split) (ss : List Split) → IsOneOf s ss → 0 < times s.right (sides ss)
right_in s [] one = absurd one
right_in s (t ∷ ss) (inl e) =
    let there = in_front s.right (sides ss) in let more = behind s.right s.left (s.right ∷ sides ss) in
    subst (λ (u : Split). 0 < times s.right (u.left ∷ u.right ∷ sides ss)) e (omega (arith, there, more))
right_in s (t ∷ ss) (inr rest) =
    let there = right_in s ss rest in
    let one = behind s.right t.left (t.right ∷ sides ss) in let two = behind s.right t.right (sides ss) in omega (arith, there, one, two)

-- what is split is so by one of the splits
pub split_by : (k : ℕ) (ss : List Split) → 0 < times k (split_in ss) → (s : Split) × IsOneOf s ss × (s.of ≡ k)
split_by k [] small = absurd (omega (arith, small))
split_by k (s ∷ ss) small = number_cases s.of k (λ e t. (s, inl refl, e)) (λ e f. later (split_by k ss (let less = times_other k s.of (split_in ss) e in omega (arith, small, less))))
  where
    later : (t : Split) × IsOneOf t ss × (t.of ≡ k) → (t : Split) × IsOneOf t (s ∷ ss) × (t.of ≡ k)
    later (t, one, e) = (t, inr one, e)

-- Where of each split a side is among these numbers, and there are no more sides among them than splits, there is one of each.
fewest : (ys : List ℕ) (ss : List Split) → ((s : Split) → IsOneOf s ss → 1 ≤ times s.left ys + times s.right ys) → length ss ≤ sum_times (sides ss) ys
fewest ys [] all = omega arith
fewest ys (s ∷ ss) all =
    let here = all s (inl refl) in let rest = fewest ys ss (λ t one. all t (inr one)) in omega (arith, here, rest)

pub one_each : (ys : List ℕ) (ss : List Split) → ((s : Split) → IsOneOf s ss → 1 ≤ times s.left ys + times s.right ys)
    → sum_times (sides ss) ys ≤ length ss → (s : Split) → IsOneOf s ss → times s.left ys + times s.right ys ≤ 1
one_each ys [] all few s one = absurd one
one_each ys (t ∷ ss) all few s (inl e) =
    let rest = fewest ys ss (λ u one. all u (inr one)) in
    subst (λ (u : Split). times u.left ys + times u.right ys ≤ 1) (sym e) (omega (arith, few, rest))
one_each ys (t ∷ ss) all few s (inr one) =
    let here = all t (inl refl) in one_each ys ss (λ u other. all u (inr other)) (omega (arith, few, here)) s one
