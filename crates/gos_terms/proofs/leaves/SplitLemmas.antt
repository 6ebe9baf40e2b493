-- A node without parts, or with one, has no splits.
use Rattle.std.specs.Prelude.{◌≡◌, ℕ, zero, suc, ◌+◌, ◌<◌, ◌≤◌, List, [], ◌∷◌, ◌++◌}
use Rattle.std.proofs.Common.{refl, sym, ◌∙◌, subst, arith, inl}
use Rattle.gos_model.proofs.NumberLemmas.{number_cases}
use Rattle.gos_check.specs.declared.linear.Split.{Split}
use Rattle.gos_check.specs.Nodes.{Numbered, Closed, Use, Under, One, Two, If}
use Rattle.gos_check.specs.Linearity.{times, split_in, sides, used, made, IsOneOf, Comes, itself, by_left, by_right, IsSplitBetween}
use Rattle.gos_check.proofs.TimesLemmas.{times-append, times_other}
use Rattle.gos_compile.proofs.KnownLemmas.{split_length}
use Rattle.gos_terms.specs.leaves.Splits.{AreOnceIn, LeavesHaveNoSplits}
use Rattle.gos_terms.proofs.leaves.CountLemmas.{behind, at_most, no_splits, left_in, right_in, split_by, one_each}

-- with one part, and that part's numbers
module _ (ss : List Split) (m : Numbered) (within : AreOnceIn ss (split_in ss ++ used m)) (once : (k : ℕ) → times k (sides ss) ≤ 1)
    (between : IsSplitBetween ss m)
  where
    parted : (k : ℕ) → 0 < times k (sides ss) → times k (split_in ss) + times k (used m) ≡ 1
    parted k small = sym (times-append k (split_in ss) (used m)) ∙ within k small

    left_parted : (s : Split) → IsOneOf s ss → times s.left (split_in ss) + times s.left (used m) ≡ 1
    left_parted s one = parted s.left (left_in s ss one)

    right_parted : (s : Split) → IsOneOf s ss → times s.right (split_in ss) + times s.right (used m) ≡ 1
    right_parted s one = parted s.right (right_in s ss one)

    abbrev splits : Split → ℕ
    splits s = times s.left (split_in ss) + times s.right (split_in ss)

    -- not both sides are in the part, so one is split
    some_split : (s : Split) → IsOneOf s ss → 1 ≤ splits s
    some_split s one = by_number (splits s) refl
      where
        by_number : (n : ℕ) → splits s ≡ n → 1 ≤ splits s
        by_number zero e =
            let left = left_parted s one in let right = right_parted s one in
            absurd (between s s.left s.right one (itself s.left) (itself s.right) (omega (arith, left, e)) (omega (arith, right, e)))
        by_number (suc n) e = omega (arith, e)

    one_split : (s : Split) → IsOneOf s ss → splits s ≤ 1
    one_split s one =
        one_each (split_in ss) ss some_split (let few = at_most (sides ss) (split_in ss) once in let size = split_length ss in omega (arith, few, size)) s one

    -- so what is split comes to the part
    abbrev ComesIn : ℕ → Type 0
    ComesIn k = (a : ℕ) × Comes ss k a × (0 < times a (used m))

    comes : (s : Split) → IsOneOf s ss → ComesIn s.of
    comes s one = by_number (times s.left (split_in ss)) refl
      where
        by_number : (n : ℕ) → times s.left (split_in ss) ≡ n → ComesIn s.of
        by_number zero e =
            let left = left_parted s one in (s.left, by_left s s.left one (itself s.left), omega (arith, left, e))
        by_number (suc n) e =
            let right = right_parted s one in let all = one_split s one in
            (s.right, by_right s s.right one (itself s.right), omega (arith, right, all, e))

    split_comes : (k : ℕ) → 0 < times k (split_in ss) → ComesIn k
    split_comes k small = let (s, one, e) = split_by k ss small in subst ComesIn e (comes s one)

    none : (s : Split) → IsOneOf s ss → ⊥
    none s one = by_number (times s.left (split_in ss)) refl
      where
        by_number : (n : ℕ) → times s.left (split_in ss) ≡ n → ⊥
        by_number zero e =
            let left = left_parted s one in let some = some_split s one in
            let (b, way, there) = split_comes s.right (omega (arith, some, e)) in
            between s s.left b one (itself s.left) way (omega (arith, left, e)) there
        by_number (suc n) e =
            let right = right_parted s one in let all = one_split s one in
            let (a, way, there) = split_comes s.left (omega (arith, e)) in
            between s a s.right one way (itself s.right) there (omega (arith, right, all, e))

    pub none_alone : (ts : List Split) → ts ≡ ss → ts ≡ []
    none_alone [] e = refl
    none_alone (t ∷ ts) e = absurd (none t (subst (IsOneOf t) e (inl refl)))

-- with no part
none_closed : (ss : List Split) → AreOnceIn ss (split_in ss) → ((k : ℕ) → times k (sides ss) ≤ 1) → ss ≡ []
none_closed ss within once = no_splits ss once (λ k small. let one = within k small in omega (arith, one))

none_used : (ss : List Split) (n : ℕ) → AreOnceIn ss (split_in ss ++ n ∷ []) → times n (sides ss) ≡ 0 → ((k : ℕ) → times k (sides ss) ≤ 1) → ss ≡ []
none_used ss n within free once = no_splits ss once split
  where
    split : (k : ℕ) → 0 < times k (sides ss) → 0 < times k (split_in ss)
    split k small = number_cases k n
        (λ e t. let none : times k (sides ss) ≡ 0 = subst (λ (a : ℕ). times a (sides ss) ≡ 0) (sym e) free in absurd (omega (arith, small, none)))
        (λ e f. let one = within k small in
        let parted = times-append k (split_in ss) (n ∷ []) in
        let other = times_other k n [] (λ h. e (sym h)) in
        omega (arith, one, parted, other))

-- the sides of a node's splits are made in it
rest_once : (ms ns : List ℕ) → ((k : ℕ) → times k (ms ++ ns) ≤ 1) → (k : ℕ) → times k ns ≤ 1
rest_once ms ns once k = let parted = times-append k ms ns in let all = once k in omega (arith, parted, all)

first_once : (ms ns : List ℕ) → ((k : ℕ) → times k (ms ++ ns) ≤ 1) → (k : ℕ) → times k ms ≤ 1
first_once ms ns once k = let parted = times-append k ms ns in let all = once k in omega (arith, parted, all)

pub leaves_have_no_splits : LeavesHaveNoSplits
leaves_have_no_splits (Closed t ss c) within once apart = none_closed ss within once
leaves_have_no_splits (Use t ss n) within once apart = none_used ss n within.0 within.1 once
leaves_have_no_splits (Under t ss b n m) within once apart =
    let rest = rest_once (sides ss) (n ∷ made m) once in (
      none_alone ss m within.0 (first_once (sides ss) (n ∷ made m) once) apart.0 ss refl,
      leaves_have_no_splits m within.1 (λ k. let all = rest k in let more = behind k n (made m) in omega (arith, all, more)) apart.1,
    )
leaves_have_no_splits (One t ss f m) within once apart = (
  none_alone ss m within.0 (first_once (sides ss) (made m) once) apart.0 ss refl,
  leaves_have_no_splits m within.1 (rest_once (sides ss) (made m) once) apart.1,
)
leaves_have_no_splits (Two t ss f m n) within once apart =
    let rest = rest_once (sides ss) (made m ++ made n) once in (
      leaves_have_no_splits m within.1 (first_once (made m) (made n) rest) apart.2,
      leaves_have_no_splits n within.2 (rest_once (made m) (made n) rest) apart.3,
    )
leaves_have_no_splits (If t ss m n p) within once apart =
    let rest = rest_once (sides ss) (made m ++ (made n ++ made p)) once in
    let later = rest_once (made m) (made n ++ made p) rest in (
      leaves_have_no_splits m within.1 (first_once (made m) (made n ++ made p) rest) apart.3,
      leaves_have_no_splits n within.2 (first_once (made n) (made p) later) apart.4,
      leaves_have_no_splits p within.3 (rest_once (made n) (made p) later) apart.5,
    )
