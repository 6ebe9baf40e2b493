-- The parts of a linear node are linear: what is used or made in a part is so in the node.
use Rattle.std.specs.Prelude.{◌≡◌, ℕ, zero, suc, ◌+◌, ◌≤◌, ◌<◌, ◌⊎◌, List, ◌∷◌, ◌++◌, Contains}
use Rattle.std.proofs.Common.{subst, arith, inl, inr}
use Rattle.gos_check.specs.declared.linear.Split.{Split}
use Rattle.gos_check.specs.Nodes.{Numbered, Under, One, Two, If}
use Rattle.gos_check.specs.Linearity.{times, split_in, sides, used, made}
use Rattle.gos_check.proofs.TimesLemmas.{times-append, times_same}
use Rattle.gos_terms.specs.wired.NodeFitting.{IsLinear, AreInside, BodyIsLinear, PartIsLinear, PartsAreLinear, ChoicesAreLinear}

-- a part that uses and makes no more than the node, beside the sides of its splits
smaller : (node part : Numbered) (ss : List Split) (ns ks : List ℕ) → IsLinear node ns → AreInside ss ns ks
    → ((k : ℕ) → times k (used part) ≤ times k (used node)) → ((k : ℕ) → times k (sides ss) + times k (made part) ≤ times k (made node))
    → IsLinear part ks
smaller node part ss ns ks linear inside uses makes =
    record {
      used_once = λ k. let few = linear.used_once k in let less = uses k in omega (arith, few, less);
      made_once = λ k. let few = linear.made_once k in let less = makes k in omega (arith, few, less);
      supplied = λ k among. by_way k (inside k among);
    }
  where
    by_way : (k : ℕ) → Contains ns k ⊎ (0 < times k (sides ss)) → times k (made part) ≡ 0
    by_way k (inl outside) = let none = linear.supplied k outside in let less = makes k in omega (arith, none, less)
    by_way k (inr side) = let few = linear.made_once k in let less = makes k in omega (arith, few, less, side)

pub part_is_linear : PartIsLinear
part_is_linear t ss f m ns ks linear inside =
    smaller (One t ss f m) m ss ns ks linear inside (λ k. let all = times-append k (split_in ss) (used m) in omega (arith, all))
    (λ k. let all = times-append k (sides ss) (made m) in omega (arith, all))

pub parts_are_linear : PartsAreLinear
parts_are_linear t ss f m n ns ks linear inside = (
  smaller (Two t ss f m n) m ss ns ks linear inside
      (λ k. let all = times-append k (split_in ss) (used m ++ used n) in let both = times-append k (used m) (used n) in omega (arith, all, both))
      (λ k. let all = times-append k (sides ss) (made m ++ made n) in let both = times-append k (made m) (made n) in omega (arith, all, both)),
  smaller (Two t ss f m n) n ss ns ks linear inside
      (λ k. let all = times-append k (split_in ss) (used m ++ used n) in let both = times-append k (used m) (used n) in omega (arith, all, both))
      (λ k. let all = times-append k (sides ss) (made m ++ made n) in let both = times-append k (made m) (made n) in omega (arith, all, both)),
)

pub choices_are_linear : ChoicesAreLinear
choices_are_linear t ss m n p ns ks linear inside = (
  smaller node m ss ns ks linear inside (λ k. let all = uses k in omega (arith, all)) (λ k. let all = makes k in omega (arith, all)),
  smaller node n ss ns ks linear inside (λ k. let all = uses k in omega (arith, all)) (λ k. let all = makes k in omega (arith, all)),
  smaller node p ss ns ks linear inside (λ k. let all = uses k in omega (arith, all)) (λ k. let all = makes k in omega (arith, all)),
)
  where
    node : Numbered
    node = If t ss m n p

    uses : (k : ℕ) → times k (used (If t ss m n p)) ≡ times k (split_in ss) + (times k (used m) + (times k (used n) + times k (used p)))
    uses k =
        let all = times-append k (split_in ss) (used m ++ (used n ++ used p)) in
        let three = times-append k (used m) (used n ++ used p) in
        let both = times-append k (used n) (used p) in
        omega (arith, all, three, both)

    makes : (k : ℕ) → times k (made (If t ss m n p)) ≡ times k (sides ss) + (times k (made m) + (times k (made n) + times k (made p)))
    makes k =
        let all = times-append k (sides ss) (made m ++ (made n ++ made p)) in
        let three = times-append k (made m) (made n ++ made p) in
        let both = times-append k (made n) (made p) in
        omega (arith, all, three, both)

pub body_is_linear : BodyIsLinear
body_is_linear t ss b n m ns ks linear inside = (body, record { used_once = body.used_once; made_once = body.made_once; supplied = with_own })
  where
    body : IsLinear m ks
    body =
        smaller (Under t ss b n m) m ss ns ks linear inside (λ k. let all = times-append k (split_in ss) (used m) in omega (arith, all))
        (λ k. let all = times-append k (sides ss) (n ∷ made m) in omega (arith, all))

    own : times n (made m) ≡ 0
    own =
        let few = linear.made_once n in
        let all = times-append n (sides ss) (n ∷ made m) in
        let here = times_same n (made m) in
        omega (arith, few, all, here)

    with_own : (k : ℕ) → Contains (n ∷ ks) k → times k (made m) ≡ 0
    with_own k (zero, small, e) = subst (λ (l : ℕ). times l (made m) ≡ 0) e own
    with_own k (suc i, small, e) = body.supplied k (i, omega (arith, small), e)
