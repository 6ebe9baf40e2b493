-- What a number stands for is free in a term that uses the number.
use Rattle.std.specs.Prelude.{◌≡◌, ◌≢◌, ℕ, suc, ◌+◌, ◌-◌, ◌<◌, ◌≤◌, Bool, List, [], ◌∷◌, ◌++◌, Contains, if◌then◌else◌}
use Rattle.std.proofs.Common.{sym, ◌∙◌, ap, subst, arith, inl, inr}
use Rattle.std.proofs.lemmas.List.Elements.{Contains-append_left, Contains-append_right}
use Rattle.std.proofs.lemmas.Bool.{le-ltb, ne_eqb}
use Rattle.gos_types.specs.Types.{Type'}
use Rattle.gos_model.specs.Terms as terms
use Rattle.gos_model.specs.Terms.{Term}
use Rattle.gos_model.specs.Typing.{Thing, Variable, Named, things}
use Rattle.gos_model.proofs.NumberLemmas.{either, number_cases}
use Rattle.gos_check.specs.declared.linear.Split.{Split}
use Rattle.gos_check.specs.Nodes.{Numbered, Closed, Use, Under, One, Two, If, Binding, OfFun, OfNew, OfArray, OneForm, OfFst, OfSnd, OfDeref, OfNot, TwoForm, OfApp, OfBoth, OfSeq, OfPar, OfWhile, OfAssign, OfBin, Meaning, meaning, below, shifted, inside, binder_term, one_term, two_term}
use Rattle.gos_check.specs.Linearity.{times, split_in, sides, used, made}
use Rattle.gos_check.proofs.TimesLemmas.{times_same, times_other, times-append, inside_other}
use Rattle.gos_compile.specs.Wiring.{Types}
use Rattle.gos_terms.proofs.leaves.CountLemmas.{behind}
use Rattle.gos_terms.specs.numbers.Kept.{IsKept}
use Rattle.gos_terms.specs.numbers.Inherited.{own_numbers, first_numbers}
use Rattle.gos_terms.proofs.numbers.ScopeLemmas.{in_order}
use Rattle.gos_terms.proofs.numbers.InheritedLemmas.{body_is_kept, part_is_kept, both_are_kept, three_are_kept}
use Rattle.gos_terms.proofs.numbers.ReachLemmas.{Used, reach, comes_none}

-- a term under d binders is this thing
abbrev pub IsThing : ℕ → Term → Thing → Type 0
IsThing d (terms.Bound i) th = (d ≤ i) × (Variable (i - d) ≡ th)
IsThing d (terms.Import x) th = Named x ≡ th
IsThing d m th = ⊥

pub thing_free : (d : ℕ) (m : Term) (th : Thing) → IsThing d m th → Contains (things d m) th
thing_free d (terms.Bound i) th (low, e) =
    subst (λ (b : Bool). Contains (if b then [] else Variable (i - d) ∷ []) th) (sym (le-ltb i d low)) (0, omega arith, e)
thing_free d (terms.Import x) th e = (0, omega arith, e)
thing_free d m th h = absurd h

pub thing_below : (d : ℕ) (m : Term) (th : Thing) → IsThing d m th → IsThing (suc d) (shifted m) th
thing_below d (terms.Bound i) th (low, e) = (omega (arith, low), ap Variable (let same : suc i - suc d ≡ i - d = omega arith in same) ∙ e)
thing_below d (terms.Import x) th e = e
thing_below d m th h = absurd h

-- what is free in the parts is free in the node
binder_free : (d : ℕ) (b : Binding) (t : Type') (m : Term) (th : Thing) → Contains (things (suc d) m) th → Contains (things d (binder_term b t m)) th
binder_free d OfFun t m th h = h
binder_free d (OfNew w) t m th h = h
binder_free d (OfArray k w) t m th h = h

one_free : (d : ℕ) (f : OneForm) (m : Term) (th : Thing) → Contains (things d m) th → Contains (things d (one_term f m)) th
one_free d OfFst m th h = h
one_free d OfSnd m th h = h
one_free d OfDeref m th h = h
one_free d OfNot m th h = h

two_free : (d : ℕ) (f : TwoForm) (m n : Term) (th : Thing) → Contains (things d m ++ things d n) th → Contains (things d (two_term f m n)) th
two_free d OfApp m n th h = h
two_free d OfBoth m n th h = h
two_free d OfSeq m n th h = h
two_free d OfPar m n th h = h
two_free d OfWhile m n th h = h
two_free d OfAssign m n th h = h
two_free d (OfBin op) m n th h = h

-- what a node's splits are like
pub two_used : (types : Types) (ns : List ℕ) (t : Type') (ss : List Split) (f : TwoForm) (m n : Numbered) → IsKept types ns (Two t ss f m n)
    → Used ss (λ k. times k (used m) + times k (used n))
two_used types ns t ss f m n is =
    record {
      order = in_order ss ns (λ k. (let one = is.once k in let all = times-append k (sides ss) (made m ++ made n) in omega (arith, one, all))) is.scope.0;
      once = λ k. (let one = is.once k in let all = times-append k (sides ss) (made m ++ made n) in omega (arith, one, all));
      all = λ k small. (
          let one = is.within.0 k small in
          let two = times-append k (split_in ss) (used m ++ used n) in let three = times-append k (used m) (used n) in omega (arith, one, two, three));
    }

three_used : (types : Types) (ns : List ℕ) (t : Type') (ss : List Split) (m n p : Numbered) → IsKept types ns (If t ss m n p)
    → Used ss (λ k. times k (used m) + (times k (used n) + times k (used p)))
three_used types ns t ss m n p is =
    record {
      order = in_order ss ns (λ k. (let one = is.once k in let all = times-append k (sides ss) (made m ++ (made n ++ made p)) in omega (arith, one, all))) is.scope.0;
      once = λ k. (let one = is.once k in let all = times-append k (sides ss) (made m ++ (made n ++ made p)) in omega (arith, one, all));
      all = λ k small. (
          let one = is.within.0 k small in
          let two = times-append k (split_in ss) (used m ++ (used n ++ used p)) in
          let three = times-append k (used m) (used n ++ used p) in let four = times-append k (used n) (used p) in omega (arith, one, two, three, four));
    }

-- sides are not made in the parts
pub two_away : (types : Types) (ns : List ℕ) (t : Type') (ss : List Split) (f : TwoForm) (m n : Numbered) → IsKept types ns (Two t ss f m n)
    → (j : ℕ) → 0 < times j (sides ss) → times j (made m ++ made n) ≡ 0
two_away types ns t ss f m n is j small = let one = is.once j in let all = times-append j (sides ss) (made m ++ made n) in omega (arith, one, all, small)

three_away : (types : Types) (ns : List ℕ) (t : Type') (ss : List Split) (m n p : Numbered) → IsKept types ns (If t ss m n p)
    → (j : ℕ) → 0 < times j (sides ss) → times j (made m ++ (made n ++ made p)) ≡ 0
three_away types ns t ss m n p is j small = let one = is.once j in let all = times-append j (sides ss) (made m ++ (made n ++ made p)) in omega (arith, one, all, small)

no_split : (k : ℕ) (ss : List Split) → ss ≡ [] → times k (split_in ss) ≡ 0
no_split k ss none = ap (λ (ts : List Split). times k (split_in ts)) none

no_side : (k : ℕ) (ss : List Split) → ss ≡ [] → times k (sides ss) ≡ 0
no_side k ss none = ap (λ (ts : List Split). times k (sides ts)) none

below_other : (k n : ℕ) (env : Meaning) → k ≢ n → shifted (env k) ≡ below n env k
below_other k n env other =
    let f = ne_eqb k n other in
    let path : below n env k ≡ shifted (env k) = λ i. if f i then terms.Bound 0 else shifted (env k) in
    sym path

pub free : (types : Types) (ns : List ℕ) (m : Numbered) (env : Meaning) (d k : ℕ) (th : Thing) → IsKept types ns m
    → 0 < times k (used m) → times k (made m) ≡ 0 → IsThing d (env k) th → Contains (things d (meaning env m)) th
free types ns (Closed t ss c) env d k th is small unmade thing = let none = no_split k ss is.forks in absurd (omega (arith, small, none))
free types ns (Use t ss n) env d k th is small unmade thing =
    let none = no_split k ss is.forks in
    let two = times-append k (split_in ss) (n ∷ []) in
    let here : 0 < times k (n ∷ []) = omega (arith, small, none, two) in
    number_cases n k (λ e f. thing_free d (env n) th (subst (λ (a : ℕ). IsThing d (env a) th) (sym e) thing))
    (λ e f. let other = times_other k n [] e in absurd (omega (arith, here, other)))
free types ns (Under t ss b n m) env d k th is small unmade thing =
    let (row, kept, bound) = body_is_kept types ns t ss b n m is in
    let none = no_split k ss row in
    let two = times-append k (split_in ss) (used m) in
    let all = times-append k (sides ss) (n ∷ made m) in
    let more = behind k n (made m) in
    let other : k ≢ n = (λ e. (let one : times k (n ∷ made m) ≡ 1 + times k (made m) = subst (λ (a : ℕ). times k (a ∷ made m) ≡ 1 + times k (made m)) e (times_same k (made m)) in
    omega (arith, one, all, unmade))) in
    let same : shifted (env k) ≡ below n (inside ss env) k =
    ap shifted (sym (inside_other ss env k (no_side k ss row))) ∙ below_other k n (inside ss env) other in
    binder_free d b t (meaning (below n (inside ss env)) m) th
    (free types (ns ++ n ∷ []) m (below n (inside ss env)) (suc d) k th kept (omega (arith, small, none, two)) (omega (arith, unmade, all, more))
    (subst (λ (a : Term). IsThing (suc d) a th) same (thing_below d (env k) th thing)))
free types ns (One t ss f m) env d k th is small unmade thing =
    let (row, part) = part_is_kept types ns t ss f m is in
    let none = no_split k ss row in
    let two = times-append k (split_in ss) (used m) in
    let all = times-append k (sides ss) (made m) in
    one_free d f (meaning (inside ss env) m) th
    (free types ns m (inside ss env) d k th part.kept (omega (arith, small, none, two)) (omega (arith, unmade, all))
    (subst (λ (a : Term). IsThing d a th) (sym (inside_other ss env k (no_side k ss row))) thing))
free types ns (Two t ss f m n) env d k th is small unmade thing =
    let (first, second, rest) = both_are_kept types ns t ss f m n is in
    let all = times-append k (sides ss) (made m ++ made n) in
    let parted = times-append k (split_in ss) (used m ++ used n) in
    let parted_two = times-append k (used m) (used n) in
    let (a, c, u, same) = reach ss env (λ j. times j (used m) + times j (used n)) k (two_used types ns t ss f m n is) (omega (arith, unmade, all))
    (omega (arith, small, parted, parted_two)) in
    let away = comes_none ss k a (made m ++ made n) c (omega (arith, unmade, all)) (two_away types ns t ss f m n is) in
    let made_two = times-append a (made m) (made n) in
    let thing_a : IsThing d (inside ss env a) th = subst (λ (x : Term). IsThing d x th) (sym same) thing in
    two_free d f (meaning (inside ss env) m) (meaning (inside ss env) n) th
    (elim (either (times a (used m)) (times a (used n)) u) [
      | inl h ↦ Contains-append_left (things d (meaning (inside ss env) m)) (things d (meaning (inside ss env) n)) th
          (free types (first_numbers ss ns (used n)) m (inside ss env) d a th first.kept h (omega (arith, away, made_two)) thing_a)
      | inr h ↦ Contains-append_right (things d (meaning (inside ss env) m)) (things d (meaning (inside ss env) n)) th
          (free types (own_numbers ss ns n) n (inside ss env) d a th second.kept h (omega (arith, away, made_two)) thing_a)
    ])
free types ns (If t ss m n p) env d k th is small unmade thing =
    let (first, second, third, rest) = three_are_kept types ns t ss m n p is in
    let all = times-append k (sides ss) (made m ++ (made n ++ made p)) in
    let parted = times-append k (split_in ss) (used m ++ (used n ++ used p)) in
    let parted_two = times-append k (used m) (used n ++ used p) in
    let parted_three = times-append k (used n) (used p) in
    let (a, c, u, same) = reach ss env (λ j. times j (used m) + (times j (used n) + times j (used p))) k (three_used types ns t ss m n p is) (omega (arith, unmade, all))
    (omega (arith, small, parted, parted_two, parted_three)) in
    let away = comes_none ss k a (made m ++ (made n ++ made p)) c (omega (arith, unmade, all)) (three_away types ns t ss m n p is) in
    let made_two = times-append a (made m) (made n ++ made p) in
    let made_three = times-append a (made n) (made p) in
    let thing_a : IsThing d (inside ss env a) th = subst (λ (x : Term). IsThing d x th) (sym same) thing in
    elim (either (times a (used m)) (times a (used n) + times a (used p)) u) [
      | inl h ↦ Contains-append_left (things d (meaning (inside ss env) m)) (things d (meaning (inside ss env) n) ++ things d (meaning (inside ss env) p)) th
          (free types (first_numbers ss ns (used n ++ used p)) m (inside ss env) d a th first.kept h (omega (arith, away, made_two)) thing_a)
      | inr j ↦
          Contains-append_right (things d (meaning (inside ss env) m)) (things d (meaning (inside ss env) n) ++ things d (meaning (inside ss env) p)) th
          (elim (either (times a (used n)) (times a (used p)) j) [
            | inl h ↦ Contains-append_left (things d (meaning (inside ss env) n)) (things d (meaning (inside ss env) p)) th
                (free types (own_numbers ss ns n) n (inside ss env) d a th second.kept h (omega (arith, away, made_two, made_three)) thing_a)
            | inr h ↦ Contains-append_right (things d (meaning (inside ss env) n)) (things d (meaning (inside ss env) p)) th
                (free types (own_numbers ss ns p) p (inside ss env) d a th third.kept h (omega (arith, away, made_two, made_three)) thing_a)
          ])
    ]
