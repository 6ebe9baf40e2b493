-- The parts of a node inherit what is kept of its numbers.
use Rattle.std.specs.Prelude.{◌≡◌, ℕ, zero, suc, ◌+◌, ◌<◌, ◌≤◌, List, [], ◌∷◌, ◌++◌}
use Rattle.std.proofs.Common.{refl, subst, arith}
use Rattle.gos_types.specs.Types.{Type'}
use Rattle.gos_check.specs.declared.linear.Split.{Split}
use Rattle.gos_check.specs.Nodes.{Numbered, Under, One, Two, If, Binding, OneForm, TwoForm}
use Rattle.gos_check.specs.Linearity.{times, split_in, sides, used, made}
use Rattle.gos_check.proofs.TimesLemmas.{times-append}
use Rattle.gos_compile.specs.Wiring.{Types}
use Rattle.gos_terms.specs.stages.Inside.{numbers_inside}
use Rattle.gos_terms.specs.regions.Blocks.{IsBound}
use Rattle.gos_terms.specs.numbers.Kept.{IsKept}
use Rattle.gos_terms.specs.numbers.Inherited.{own_numbers, first_numbers, IsPart, BodyIsKept, PartIsKept, BothAreKept, BothAreParted, ThreeAreKept}
use Rattle.gos_terms.proofs.numbers.ListLemmas.{passed, stopped, none_passed, some_stopped}
use Rattle.gos_terms.proofs.numbers.ScopeLemmas.{covered}
use Rattle.gos_terms.proofs.numbers.PartLemmas.{is_part}

-- a binder, without splits
plain_body : (types : Types) (ns : List ℕ) (t : Type') (b : Binding) (n : ℕ) (m : Numbered)
    → IsKept types ns (Under t [] b n m) → IsKept types (ns ++ n ∷ []) m × IsBound n m ns
plain_body types ns t b n m is = (
  record {
    once = once;
    used_once = is.used_once;
    scope = is.scope.1;
    within = is.within.1;
    apart = is.apart.1;
    forks = is.forks.1;
    typed = is.typed.2;
  },
  record { once = once; knows = λ k small. covered m (ns ++ n ∷ []) is.forks.1 is.scope.1 k small },
)
  where
    once : (k : ℕ) → times k (made m) + times k (ns ++ n ∷ []) ≤ 1
    once k =
        let all = is.once k in let two = times-append k ns (n ∷ []) in
        let has : times k (n ∷ made m) ≡ times k (n ∷ []) + times k (made m) = omega arith in omega (arith, all, two, has)

pub body_is_kept : BodyIsKept
body_is_kept types ns t ss b n m is =
    let none : ss ≡ [] = is.forks.0 in
    let (kept, bound) = plain_body types ns t b n m (subst (λ (ts : List Split). IsKept types ns (Under t ts b n m)) none is) in
    (none, kept, bound)

-- one part, without splits
plain_part : (types : Types) (ns : List ℕ) (t : Type') (f : OneForm) (m : Numbered) → IsKept types ns (One t [] f m) → IsPart types [] ns ns m
plain_part types ns t f m is =
    is_part types [] ns ns m
    (record {
      once = λ k. (let one = is.once k in omega (arith, one));
      used_once = λ k. (let one = is.used_once k in omega (arith, one));
      split = tt;
      scope = is.scope.1;
      between = is.apart.0;
      agree = tt;
      within = is.within.1;
      apart = is.apart.1;
      forks = is.forks.1;
      typed = is.typed.2;
      few = λ k. omega arith;
      unsplit = λ k small. refl;
      all = λ k small there. there;
      sides = λ k side small. absurd (omega (arith, side));
    })

pub part_is_kept : PartIsKept
part_is_kept types ns t ss f m is =
    let none : ss ≡ [] = is.forks.0 in
    (none, plain_part types ns t f m (subst (λ (ts : List Split). IsKept types ns (One t ts f m)) none is))

-- the numbers of the first part
module _ (ss : List Split) (ns others : List ℕ) where
  abbrev taken : ℕ → ℕ
  taken k = times k (split_in ss) + times k others

  first_few : (k : ℕ) → times k (first_numbers ss ns others) ≤ times k (numbers_inside ss ns)
  first_few k = by_number (taken k) refl
    where
      by_number : (a : ℕ) → taken k ≡ a → times k (first_numbers ss ns others) ≤ times k (numbers_inside ss ns)
      by_number zero e = let same = none_passed taken (numbers_inside ss ns) k e in omega (arith, same)
      by_number (suc a) e = let none = some_stopped taken (numbers_inside ss ns) k (omega (arith, e)) in omega (arith, none)

  first_free : (k : ℕ) → 0 < times k (first_numbers ss ns others) → taken k ≡ 0
  first_free k small = by_number (taken k) refl
    where
      by_number : (a : ℕ) → taken k ≡ a → taken k ≡ 0
      by_number zero e = e
      by_number (suc a) e = let none = some_stopped taken (numbers_inside ss ns) k (omega (arith, e)) in absurd (omega (arith, none, small))

  pub first_all : (k : ℕ) → taken k ≡ 0 → times k (first_numbers ss ns others) ≡ times k (numbers_inside ss ns)
  first_all k e = none_passed taken (numbers_inside ss ns) k e

  pub first_none : (k : ℕ) → 0 < taken k → times k (first_numbers ss ns others) ≡ 0
  first_none k e = some_stopped taken (numbers_inside ss ns) k e

-- the numbers of another part
module _ (ss : List Split) (ns : List ℕ) (m : Numbered) where
  abbrev uses : ℕ → ℕ
  uses k = times k (used m)

  own_few : (k : ℕ) → times k (own_numbers ss ns m) ≤ times k (numbers_inside ss ns)
  own_few k = by_number (uses k) refl
    where
      by_number : (a : ℕ) → uses k ≡ a → times k (own_numbers ss ns m) ≤ times k (numbers_inside ss ns)
      by_number zero e = let none = stopped uses (numbers_inside ss ns) k e in omega (arith, none)
      by_number (suc a) e = let same = passed uses (numbers_inside ss ns) k (omega (arith, e)) in omega (arith, same)

  own_used : (k : ℕ) → 0 < times k (own_numbers ss ns m) → 0 < uses k
  own_used k small = by_number (uses k) refl
    where
      by_number : (a : ℕ) → uses k ≡ a → 0 < uses k
      by_number zero e = let none = stopped uses (numbers_inside ss ns) k e in absurd (omega (arith, none, small))
      by_number (suc a) e = omega (arith, e)

  own_all : (k : ℕ) → 0 < uses k → times k (own_numbers ss ns m) ≡ times k (numbers_inside ss ns)
  own_all k small = passed uses (numbers_inside ss ns) k small

  own_none : (k : ℕ) → uses k ≡ 0 → times k (own_numbers ss ns m) ≡ 0
  own_none k e = stopped uses (numbers_inside ss ns) k e

-- what is taken or not
by_zero : {P : Type 0} (a : ℕ) → (a ≡ 0 → P) → (0 < a → P) → P
by_zero zero none some = none refl
by_zero (suc a) none some = some (omega arith)

-- Numbers that a part may have: of those inside the splits some that aren't split, all that it uses, and no side that it doesn't use.
pub record Suits (ss : List Split) (ns uses : List ℕ) (m : Numbered) : Type 0 where
  pub few : (k : ℕ) → times k uses ≤ times k (numbers_inside ss ns)
  pub unsplit : (k : ℕ) → 0 < times k uses → times k (split_in ss) ≡ 0
  pub all : (k : ℕ) → 0 < times k (used m) → 0 < times k (numbers_inside ss ns) → 0 < times k uses
  pub sides : (k : ℕ) → 0 < times k (sides ss) → 0 < times k uses → 0 < times k (used m)

-- such are those that neither are split nor others use
pub first_suits : (ss : List Split) (ns others : List ℕ) (m : Numbered) → ((k : ℕ) → times k (split_in ss) + (times k (used m) + times k others) ≤ 1)
    → ((k : ℕ) → 0 < times k (sides ss) → times k (split_in ss) + (times k (used m) + times k others) ≡ 1)
    → Suits ss ns (first_numbers ss ns others) m
first_suits ss ns others m once sides =
    record {
      few = first_few ss ns others;
      unsplit = λ k small. (let none = first_free ss ns others k small in omega (arith, none));
      all = λ k small there. (let one = once k in let same = first_all ss ns others k (omega (arith, small, one)) in omega (arith, same, there));
      sides = λ k side small. (let none = first_free ss ns others k small in let one = sides k side in omega (arith, none, one));
    }

-- and those that it uses
own_suits : (ss : List Split) (ns : List ℕ) (m : Numbered) → ((k : ℕ) → times k (split_in ss) + times k (used m) ≤ 1) → Suits ss ns (own_numbers ss ns m) m
own_suits ss ns m once =
    record {
      few = own_few ss ns m;
      unsplit = λ k small. (let here = own_used ss ns m k small in let one = once k in omega (arith, here, one));
      all = λ k small there. (let same = own_all ss ns m k small in omega (arith, same, there));
      sides = λ k side small. own_used ss ns m k small;
    }

-- either part of a form of two, with such numbers
module _ (types : Types) (ns : List ℕ) (t : Type') (ss : List Split) (f : TwoForm) (m n : Numbered) (is : IsKept types ns (Two t ss f m n)) where
  made_two : (k : ℕ) → times k (made (Two t ss f m n)) ≡ times k (sides ss) + (times k (made m) + times k (made n))
  made_two k = let one = times-append k (sides ss) (made m ++ made n) in let two = times-append k (made m) (made n) in omega (arith, one, two)

  used_two : (k : ℕ) → times k (used (Two t ss f m n)) ≡ times k (split_in ss) + (times k (used m) + times k (used n))
  used_two k = let one = times-append k (split_in ss) (used m ++ used n) in let two = times-append k (used m) (used n) in omega (arith, one, two)

  pub two_once : (k : ℕ) → times k (split_in ss) + (times k (used m) + times k (used n)) ≤ 1
  two_once k = let all = used_two k in let one = is.used_once k in omega (arith, all, one)

  pub two_sides : (k : ℕ) → 0 < times k (sides ss) → times k (split_in ss) + (times k (used m) + times k (used n)) ≡ 1
  two_sides k side = let all = used_two k in let one = is.within.0 k side in omega (arith, all, one)

  pub front_is_kept : (uses : List ℕ) → Suits ss ns uses m → IsPart types ss ns uses m
  front_is_kept uses suits =
      is_part types ss ns uses m
      (record {
        once = λ k. (let all = made_two k in let one = is.once k in omega (arith, all, one));
        used_once = λ k. (let one = two_once k in omega (arith, one));
        split = is.scope.0;
        scope = is.scope.1;
        between = is.apart.0;
        agree = is.typed.0;
        within = is.within.1;
        apart = is.apart.2;
        forks = is.forks.0;
        typed = is.typed.2;
        few = suits.few;
        unsplit = suits.unsplit;
        all = suits.all;
        sides = suits.sides;
      })

  pub back_is_kept : (uses : List ℕ) → Suits ss ns uses n → IsPart types ss ns uses n
  back_is_kept uses suits =
      is_part types ss ns uses n
      (record {
        once = λ k. (let all = made_two k in let one = is.once k in omega (arith, all, one));
        used_once = λ k. (let one = two_once k in omega (arith, one));
        split = is.scope.0;
        scope = is.scope.2;
        between = is.apart.1;
        agree = is.typed.0;
        within = is.within.2;
        apart = is.apart.3;
        forks = is.forks.1;
        typed = is.typed.3;
        few = suits.few;
        unsplit = suits.unsplit;
        all = suits.all;
        sides = suits.sides;
      })

pub both_are_kept : BothAreKept
both_are_kept types ns t ss f m n is = (
  front_is_kept types ns t ss f m n is (first_numbers ss ns (used n))
      (first_suits ss ns (used n) m (two_once types ns t ss f m n is) (two_sides types ns t ss f m n is)),
  back_is_kept types ns t ss f m n is (own_numbers ss ns n)
      (own_suits ss ns n (λ k. (let one = two_once types ns t ss f m n is k in omega (arith, one)))),
  λ k none. by_zero (times k (used n))
      (λ e. (let first = first_all ss ns (used n) k (omega (arith, none, e)) in let own = own_none ss ns n k e in omega (arith, first, own)))
      (λ e. (let first = first_none ss ns (used n) k (omega (arith, none, e)) in let own = own_all ss ns n k e in omega (arith, first, own))),
)

pub both_are_parted : BothAreParted
both_are_parted types ns t f m n is =
    let (first, own, all) = both_are_kept types ns t [] f m n is in
    record {
      once = λ k. (let one = is.once k in let two = times-append k (made m) (made n) in omega (arith, one, two));
      split = λ k. all k refl;
      left = λ k small. covered m (first_numbers [] ns (used n)) first.kept.forks first.kept.scope k small;
      right = λ k small. covered n (own_numbers [] ns n) own.kept.forks own.kept.scope k small;
    }

pub three_are_kept : ThreeAreKept
three_are_kept types ns t ss m n p is = (
  is_part types ss ns (first_numbers ss ns (used n ++ used p)) m
      (record {
        once = λ k. (let all = made_all k in let one = is.once k in omega (arith, all, one));
        used_once = λ k. (let all = used_all k in let one = is.used_once k in omega (arith, all, one));
        split = is.scope.0;
        scope = is.scope.1;
        between = is.apart.0;
        agree = is.typed.0;
        within = is.within.1;
        apart = is.apart.3;
        forks = is.forks.0;
        typed = is.typed.2;
        few = first.few;
        unsplit = first.unsplit;
        all = first.all;
        sides = first.sides;
      }),
  is_part types ss ns (own_numbers ss ns n) n
      (record {
        once = λ k. (let all = made_all k in let one = is.once k in omega (arith, all, one));
        used_once = λ k. (let all = used_all k in let one = is.used_once k in omega (arith, all, one));
        split = is.scope.0;
        scope = is.scope.2;
        between = is.apart.1;
        agree = is.typed.0;
        within = is.within.2;
        apart = is.apart.4;
        forks = is.forks.1;
        typed = is.typed.3;
        few = second.few;
        unsplit = second.unsplit;
        all = second.all;
        sides = second.sides;
      }),
  is_part types ss ns (own_numbers ss ns p) p
      (record {
        once = λ k. (let all = made_all k in let one = is.once k in omega (arith, all, one));
        used_once = λ k. (let all = used_all k in let one = is.used_once k in omega (arith, all, one));
        split = is.scope.0;
        scope = is.scope.3;
        between = is.apart.2;
        agree = is.typed.0;
        within = is.within.3;
        apart = is.apart.5;
        forks = is.forks.2;
        typed = is.typed.4;
        few = third.few;
        unsplit = third.unsplit;
        all = third.all;
        sides = third.sides;
      }),
  λ k none. by_zero (times k (used n))
      (λ e. by_zero (times k (used p))
      (λ d. (let two = times-append k (used n) (used p) in
      let first = first_all ss ns (used n ++ used p) k (omega (arith, none, e, d, two)) in
      let own = own_none ss ns n k e in let last = own_none ss ns p k d in omega (arith, first, own, last)))
      (λ d. (let two = times-append k (used n) (used p) in
      let first = first_none ss ns (used n ++ used p) k (omega (arith, none, d, two)) in
      let own = own_none ss ns n k e in let last = own_all ss ns p k d in omega (arith, first, own, last))))
      (λ e. (let two = times-append k (used n) (used p) in let all = used_all k in let one = is.used_once k in
      let first = first_none ss ns (used n ++ used p) k (omega (arith, none, e, two)) in
      let own = own_all ss ns n k e in let last = own_none ss ns p k (omega (arith, e, all, one)) in omega (arith, first, own, last))),
)
  where
    made_all : (k : ℕ) → times k (made (If t ss m n p)) ≡ times k (sides ss) + (times k (made m) + (times k (made n) + times k (made p)))
    made_all k =
        let one = times-append k (sides ss) (made m ++ (made n ++ made p)) in
        let two = times-append k (made m) (made n ++ made p) in let three = times-append k (made n) (made p) in omega (arith, one, two, three)

    used_all : (k : ℕ) → times k (used (If t ss m n p)) ≡ times k (split_in ss) + (times k (used m) + (times k (used n) + times k (used p)))
    used_all k =
        let one = times-append k (split_in ss) (used m ++ (used n ++ used p)) in
        let two = times-append k (used m) (used n ++ used p) in let three = times-append k (used n) (used p) in omega (arith, one, two, three)

    first : Suits ss ns (first_numbers ss ns (used n ++ used p)) m
    first =
        first_suits ss ns (used n ++ used p) m
        (λ k. (let all = used_all k in let one = is.used_once k in let two = times-append k (used n) (used p) in omega (arith, all, one, two)))
        (λ k side. (let all = used_all k in let one = is.within.0 k side in let two = times-append k (used n) (used p) in omega (arith, all, one, two)))

    second : Suits ss ns (own_numbers ss ns n) n
    second = own_suits ss ns n (λ k. (let all = used_all k in let one = is.used_once k in omega (arith, all, one)))

    third : Suits ss ns (own_numbers ss ns p) p
    third = own_suits ss ns p (λ k. (let all = used_all k in let one = is.used_once k in omega (arith, all, one)))
