-- The names of a term are those of what its numbers stand for.
use Rattle.std.specs.Prelude.{◌≡◌, ℕ, zero, suc, ◌-◌, Bool, true, false, List, [], ◌∷◌, ◌++◌, ◌||◌, Contains, nat_eq, nat_lt, if◌then◌else◌}
use Rattle.std.proofs.Common.{refl, subst, arith, inl, inr}
use Rattle.std.proofs.lemmas.List.Elements.{Contains-append_cases}
use Rattle.gos_types.specs.Types.{Type'}
use Rattle.gos_types.proofs.ListLemmas.{none_in_empty}
use Rattle.gos_model.specs.Terms as terms
use Rattle.gos_model.specs.Terms.{Term, Name}
use Rattle.gos_model.specs.Typing.{Thing, Variable, Named, things}
use Rattle.gos_check.specs.declared.linear.Split.{Split}
use Rattle.gos_check.specs.Nodes.{Numbered, Closed, Use, Under, One, Two, If, Binding, OfFun, OfNew, OfArray, OneForm, OfFst, OfSnd, OfDeref, OfNot, TwoForm, OfApp, OfBoth, OfSeq, OfPar, OfWhile, OfAssign, OfBin, Meaning, shifted, below, inside_one, inside, meaning, binder_term, one_term, two_term}
use Rattle.gos_terms.specs.stages.Inside.{AreSplit, numbers_inside}
use Rattle.gos_terms.specs.meanings.Meanings.{IsLeaf, HasLeaves}
use Rattle.gos_terms.specs.numbers.Kept.{InScope}
use Rattle.gos_terms.proofs.regions.NamedLemmas.{in_list, before}

-- a variable has no name
pub bound_names : (f j : ℕ) (x : Name) → Contains (things f (terms.Bound j)) (Named x) → ⊥
bound_names f j x = by_test (nat_lt j f)
  where
    by_test : (b : Bool) → Contains (if b then [] else Variable (j - f) ∷ []) (Named x) → ⊥
    by_test true h = none_in_empty (Named x) h
    by_test false (zero, small, e) = cc e
    by_test false (suc k, small, e) = omega (arith, small)

-- one binder further in a term has the same names
shifted_names : (f : ℕ) (t : Term) (x : Name) → Contains (things f (shifted t)) (Named x) → Contains (things f t) (Named x)
shifted_names f (terms.Bound j) x h = absurd (bound_names f (suc j) x h)
shifted_names f terms.Skip x h = h
shifted_names f (terms.Lit k w) x h = h
shifted_names f (terms.Import y) x h = h
shifted_names f (terms.Lam a m) x h = h
shifted_names f (terms.App m p) x h = h
shifted_names f (terms.Both m p) x h = h
shifted_names f (terms.Fst m) x h = h
shifted_names f (terms.Snd m) x h = h
shifted_names f (terms.Seq m p) x h = h
shifted_names f (terms.Par m p) x h = h
shifted_names f (terms.If m p q) x h = h
shifted_names f (terms.While m p) x h = h
shifted_names f (terms.Assign m p) x h = h
shifted_names f (terms.Deref m) x h = h
shifted_names f (terms.New w m) x h = h
shifted_names f (terms.NewArray n w m) x h = h
shifted_names f (terms.Not m) x h = h
shifted_names f (terms.Bin op m p) x h = h
shifted_names f (terms.Loc j) x h = h
shifted_names f (terms.Arr j) x h = h
shifted_names f (terms.Scope j m) x h = h
shifted_names f (terms.Wait y s) x h = h
shifted_names f (terms.Held k op m) x h = h
shifted_names f (terms.Put m k) x h = h

-- a number of these has a name
abbrev pub Whose : List ℕ → Meaning → Name → Type 0
Whose ns e x = (k : ℕ) × (f : ℕ) × Contains ns k × Contains (things f (e k)) (Named x)

inside_whose : (ss : List Split) (ns : List ℕ) (e : Meaning) (k f : ℕ) (x : Name)
    → AreSplit ss ns → Contains (numbers_inside ss ns) k → Contains (things f (inside ss e k)) (Named x) → Whose ns e x
inside_whose [] ns e k f x split has h = (k, f, has, h)
inside_whose (s ∷ ss) ns e k f x (source, split) has h =
    let (j, g, there, named) = inside_whose ss (s.left ∷ s.right ∷ ns) (inside_one s e) k f x split has h in
    by_side j g there (nat_eq j s.left) (nat_eq j s.right) refl refl named
  where
    by_side : (j g : ℕ) → Contains (s.left ∷ s.right ∷ ns) j → (a b : Bool) → nat_eq j s.left ≡ a → nat_eq j s.right ≡ b
        → Contains (things g (if nat_eq j s.left || nat_eq j s.right then e s.of else e j)) (Named x) → Whose ns e x
    by_side j g there true b is_left is_right h =
        (s.of, g, source, subst (λ (c : Bool). Contains (things g (if c || nat_eq j s.right then e s.of else e j)) (Named x)) is_left h)
    by_side j g there false true is_left is_right h = (
      s.of,
      g,
      source,
      subst (λ (c : Bool). Contains (things g (if c then e s.of else e j)) (Named x)) is_right
          (subst (λ (c : Bool). Contains (things g (if c || nat_eq j s.right then e s.of else e j)) (Named x)) is_left h),
    )
    by_side j g there false false is_left is_right h = (
      j,
      g,
      in_list ns j s.right is_right (in_list (s.right ∷ ns) j s.left is_left there),
      subst (λ (c : Bool). Contains (things g (if c then e s.of else e j)) (Named x)) is_right
          (subst (λ (c : Bool). Contains (things g (if c || nat_eq j s.right then e s.of else e j)) (Named x)) is_left h),
    )

-- below a binder
pub below_whose : (ns : List ℕ) (n : ℕ) (e : Meaning) (x : Name) → Whose (ns ++ n ∷ []) (below n e) x → Whose ns e x
below_whose ns n e x (k, f, has, h) = by_test (nat_eq k n) refl h
  where
    by_test : (b : Bool) → nat_eq k n ≡ b → Contains (things f (if nat_eq k n then terms.Bound 0 else shifted (e k))) (Named x) → Whose ns e x
    by_test true is h =
        absurd (bound_names f 0 x (subst (λ (c : Bool). Contains (things f (if c then terms.Bound 0 else shifted (e k))) (Named x)) is h))
    by_test false is h = (
      k,
      f,
      before ns n k is has,
      shifted_names f (e k) x (subst (λ (c : Bool). Contains (things f (if c then terms.Bound 0 else shifted (e k))) (Named x)) is h),
    )

within : (ss : List Split) (ns : List ℕ) (e : Meaning) (x : Name) → AreSplit ss ns → Whose (numbers_inside ss ns) (inside ss e) x → Whose ns e x
within ss ns e x split (k, f, has, h) = inside_whose ss ns e k f x split has h

leaf_names : (d : ℕ) (c : Term) (x : Name) → IsLeaf c → Contains (things d c) (Named x) → ⊥
leaf_names d terms.Skip x leaf h = none_in_empty (Named x) h
leaf_names d (terms.Lit k w) x leaf h = none_in_empty (Named x) h
leaf_names d (terms.Bound j) x leaf h = absurd leaf
leaf_names d (terms.Import y) x leaf h = absurd leaf
leaf_names d (terms.Lam a m) x leaf h = absurd leaf
leaf_names d (terms.App m p) x leaf h = absurd leaf
leaf_names d (terms.Both m p) x leaf h = absurd leaf
leaf_names d (terms.Fst m) x leaf h = absurd leaf
leaf_names d (terms.Snd m) x leaf h = absurd leaf
leaf_names d (terms.Seq m p) x leaf h = absurd leaf
leaf_names d (terms.Par m p) x leaf h = absurd leaf
leaf_names d (terms.If m p q) x leaf h = absurd leaf
leaf_names d (terms.While m p) x leaf h = absurd leaf
leaf_names d (terms.Assign m p) x leaf h = absurd leaf
leaf_names d (terms.Deref m) x leaf h = absurd leaf
leaf_names d (terms.New w m) x leaf h = absurd leaf
leaf_names d (terms.NewArray n w m) x leaf h = absurd leaf
leaf_names d (terms.Not m) x leaf h = absurd leaf
leaf_names d (terms.Bin op m p) x leaf h = absurd leaf
leaf_names d (terms.Loc j) x leaf h = absurd leaf
leaf_names d (terms.Arr j) x leaf h = absurd leaf
leaf_names d (terms.Scope j m) x leaf h = absurd leaf
leaf_names d (terms.Wait y s) x leaf h = absurd leaf
leaf_names d (terms.Held k op m) x leaf h = absurd leaf
leaf_names d (terms.Put m k) x leaf h = absurd leaf

binder_things : (d : ℕ) (b : Binding) (t : Type') (m : Term) → things d (binder_term b t m) ≡ things (suc d) m
binder_things d OfFun t m = refl
binder_things d (OfNew w) t m = refl
binder_things d (OfArray k w) t m = refl

one_things : (d : ℕ) (g : OneForm) (m : Term) → things d (one_term g m) ≡ things d m
one_things d OfFst m = refl
one_things d OfSnd m = refl
one_things d OfDeref m = refl
one_things d OfNot m = refl

two_things : (d : ℕ) (g : TwoForm) (m n : Term) → things d (two_term g m n) ≡ things d m ++ things d n
two_things d OfApp m n = refl
two_things d OfBoth m n = refl
two_things d OfSeq m n = refl
two_things d OfPar m n = refl
two_things d OfWhile m n = refl
two_things d OfAssign m n = refl
two_things d (OfBin op) m n = refl

pub whose : (m : Numbered) (ns : List ℕ) (e : Meaning) (d : ℕ) (x : Name)
    → HasLeaves m → InScope ns m → Contains (things d (meaning e m)) (Named x) → Whose ns e x
whose (Closed t ss c) ns e d x leaves scope h = absurd (leaf_names d c x leaves h)
whose (Use t ss n) ns e d x leaves scope h = (n, d, scope, h)
whose (Under t ss b n m) ns e d x leaves (split, scope) h =
    within ss ns e x split
    (below_whose (numbers_inside ss ns) n (inside ss e) x
    (whose m (numbers_inside ss ns ++ n ∷ []) (below n (inside ss e)) (suc d) x leaves scope
    (subst (λ (ts : List Thing). Contains ts (Named x)) (binder_things d b t (meaning (below n (inside ss e)) m)) h)))
whose (One t ss g m) ns e d x leaves (split, scope) h =
    within ss ns e x split
    (whose m (numbers_inside ss ns) (inside ss e) d x leaves scope
    (subst (λ (ts : List Thing). Contains ts (Named x)) (one_things d g (meaning (inside ss e) m)) h))
whose (Two t ss g m n) ns e d x leaves (split, one, other) h =
    within ss ns e x split
    (elim (Contains-append_cases (things d (meaning (inside ss e) m)) (things d (meaning (inside ss e) n)) (Named x)
    (subst (λ (ts : List Thing). Contains ts (Named x)) (two_things d g (meaning (inside ss e) m) (meaning (inside ss e) n)) h)) [
      | inl l ↦ whose m (numbers_inside ss ns) (inside ss e) d x leaves.0 one l
      | inr r ↦ whose n (numbers_inside ss ns) (inside ss e) d x leaves.1 other r
    ])
whose (If t ss m n p) ns e d x leaves (split, first, second, third) h =
    within ss ns e x split
    (elim (Contains-append_cases (things d (meaning (inside ss e) m)) (things d (meaning (inside ss e) n) ++ things d (meaning (inside ss e) p)) (Named x) h) [
      | inl l ↦ whose m (numbers_inside ss ns) (inside ss e) d x leaves.0 first l
      | inr r ↦ elim (Contains-append_cases (things d (meaning (inside ss e) n)) (things d (meaning (inside ss e) p)) (Named x) r) [
        | inl l ↦ whose n (numbers_inside ss ns) (inside ss e) d x leaves.1 second l
        | inr q ↦ whose p (numbers_inside ss ns) (inside ss e) d x leaves.2 third q
      ]
    ])
