-- How often a point inside a term is met in a role, at most: by its uses, by where it is made, and by its node.
--
-- Read first: CountLemmas, TermFlowLemmas.
use Rattle.std.specs.Prelude.{◌≡◌, ℕ, zero, suc, ◌+◌, ◌-◌, ◌≤◌, List, [], ◌∷◌, ◌++◌, length, take}
use Rattle.std.proofs.Common.{refl, sym, ◌∙◌, ap, subst, arith, length-append}
use Rattle.gos_types.specs.declared.shakes.Role.{Role}
use Rattle.gos_types.specs.Types.{Type', Var, Pair, Fun}
use Rattle.gos_model.specs.Typing.{array_type}
use Rattle.gos_check.specs.declared.linear.Split.{Split}
use Rattle.gos_check.specs.Nodes.{Numbered, Closed, Use, Under, One, Two, If, Binding, OfFun, OfNew, OfArray, OneForm, OfFst, OfSnd, OfDeref, OfNot, TwoForm, OfApp, OfBoth, OfSeq, OfPar, OfWhile, OfAssign, OfBin}
use Rattle.gos_plan.specs.Kinds as kinds
use Rattle.gos_plan.specs.Kinds.{Part, Contact, contacts_of, other_side}
use Rattle.gos_plan.proofs.SideLemmas.{sides_turn_back}
use Rattle.gos_ties.specs.declared.points.Place.{Place}
use Rattle.gos_ties.specs.declared.points.Place.TheVariants as places
use Rattle.gos_ties.specs.declared.points.Point.{Point}
use Rattle.gos_ties.specs.Ties.{point}
use Rattle.gos_ties.specs.Counted.{place_once}
use Rattle.gos_realises.specs.realises.Regular.{count}
use Rattle.gos_compile.specs.Wiring.{Types, row, nodes, binder_out, one_out, first_out, second_out}
use Rattle.gos_compile.specs.Typed.{SidesTyped, BinderTyped, OneTyped, TwoTyped}
use Rattle.gos_terms.proofs.wired.FlowLemmas.{Flow}
use Rattle.gos_terms.proofs.wired.FlowedLemmas.{seen, flowing, shares_flows, binder_flows, one_flows, two_flows}
use Rattle.gos_terms.proofs.wired.OutLemmas.{seen_pair, seen_fun, contacts_fun, seen_length}
use Rattle.gos_terms.proofs.wired.CountLemmas.{meets, occurs, meets_two, meets_flowing, occurs_two, occurs_front, occurs_parted, row_none}

module _ (U M N : ℕ → ℕ) where
  -- of splits, and of a term whose nodes have numbers from j on
  abbrev pub splits : List Split → ℕ
  splits [] = 0
  splits (s ∷ ss) = U s.of + (M s.left + M s.right) + splits ss

  abbrev pub weight : ℕ → Numbered → ℕ
  weight j (Closed t ss c) = splits ss
  weight j (Use t ss n) = splits ss + U n
  weight j (Under t ss b n m) = splits ss + (M n + weight (suc j) m)
  weight j (One t ss f m) = splits ss + (N j + weight (suc j) m)
  weight j (Two t ss f m n) = splits ss + (N j + (weight (suc j) m + weight (suc j + nodes m) n))
  weight j (If t ss m n p) = splits ss + (weight (suc j) m + (weight (suc j + nodes m) n + weight (suc j + nodes m + nodes n) p))

module _ (types : Types) (r : Role) (q : Point) (U M N : ℕ → ℕ) (no_part : (i : ℕ) → place_once q.place (places.Part i) ≡ 0)
    (uses : (n k : ℕ) → occurs r q (contacts_of (types n)) (row (places.Number n) 0 k) ≤ U n)
    (makes : (n k : ℕ) → occurs r q (seen (types n)) (row (places.Number n) 0 k) ≤ M n)
    (nodes_few : (j k : ℕ) (cs : List Contact) → occurs r q cs (row (places.Node j) 0 k) + occurs r q (other_side cs) (row (places.Node j) 0 k) ≤ N j)
  where
    pub to_part : (cs : List Contact) (ps : List Point) (i h : ℕ) → meets r q (flowing cs ps (places.Part i) h) ≡ occurs r q cs ps
    to_part cs ps i h =
        let all = meets_flowing r q cs ps (places.Part i) h in
        let none = row_none r q (other_side cs) (places.Part i) h (length ps) (no_part i) in
        omega (arith, all, none)

    pub of_part : (cs : List Contact) (i h : ℕ) → occurs r q cs (point (places.Part i) h ∷ []) ≡ 0
    of_part cs i h = row_none r q cs (places.Part i) h 1 (no_part i)

    side_makes : (n k : ℕ) (t : Type') → types n ≡ t → occurs r q (seen t) (row (places.Number n) 0 k) ≤ M n
    side_makes n k t e = subst (λ (u : Type'). occurs r q (seen u) (row (places.Number n) 0 k) ≤ M n) e (makes n k)

    pub side_uses : (n k : ℕ) (t : Type') → types n ≡ t → occurs r q (contacts_of t) (row (places.Number n) 0 k) ≤ U n
    side_uses n k t e = subst (λ (u : Type'). occurs r q (contacts_of u) (row (places.Number n) 0 k) ≤ U n) e (uses n k)

    pub turned_occurs : (t : Type') (ps : List Point) → occurs r q (other_side (seen t)) ps ≡ occurs r q (contacts_of t) ps
    turned_occurs t ps = ap (λ (cs : List Contact). occurs r q cs ps) (sides_turn_back (contacts_of t))

    pub shares_count : (i : ℕ) (ss : List Split) → SidesTyped types ss → meets r q (shares_flows i ss types) ≤ splits U M N ss
    shares_count i [] sides = omega arith
    shares_count i (s ∷ ss) (left, right, sides) =
        let t : Type' = types s.of in
        let n : ℕ = count t in
        let a : List Flow = flowing (contacts_of t) (row (places.Number s.of) 0 n) (places.Part i) 0 in
        let b : List Flow = flowing (seen t) (row (places.Number s.left) 0 n) (places.Part i) n in
        let c : List Flow = flowing (seen t) (row (places.Number s.right) 0 n) (places.Part i) (n + n) in
        let all = meets_two r q (a ++ (b ++ c)) (shares_flows (suc i) ss types) in
        let one = meets_two r q a (b ++ c) in
        let two = meets_two r q b c in
        let at_a = to_part (contacts_of t) (row (places.Number s.of) 0 n) i 0 in
        let at_b = to_part (seen t) (row (places.Number s.left) 0 n) i n in
        let at_c = to_part (seen t) (row (places.Number s.right) 0 n) i (n + n) in
        let of_a = uses s.of n in
        let of_b = side_makes s.left n t left in
        let of_c = side_makes s.right n t right in
        let rest = shares_count (suc i) ss sides in
        omega (arith, all, one, two, at_a, at_b, at_c, of_a, of_b, of_c, rest)

    -- binders
    abbrev BinderCount : Binding → Type' → Type' → ℕ → ℕ → List Point → Type 0
    BinderCount b t u i n out =
        meets r q (binder_flows b t i n out) + occurs r q (seen u) (binder_out b t i out) ≤ occurs r q (seen t) out + M n

    fun_count : (u : Type') (i n : ℕ) (out : List Point) → length out ≡ count (Fun (types n) u) → BinderCount OfFun (Fun (types n) u) u i n out
    fun_count u i n out size =
        let a : Type' = types n in
        let taken : List Point = take (count a) out in
        let flows = meets_flowing r q (seen (Fun a u)) taken (places.Number n) 0 in
        let parted = occurs_parted r q (count a) (contacts_of a) (seen u) out refl in
        let whole = ap (λ (cs : List Contact). occurs r q cs out) (seen_fun a u) in
        let short : length taken ≤ length (contacts_of a) = taken_few (count a) out in
        let front = occurs_front r q (contacts_of a) (seen u) taken short in
        let seen_taken = ap (λ (cs : List Contact). occurs r q cs taken) (seen_fun a u) in
        let size_row : length (row (places.Number n) 0 (length taken)) ≤ length (seen a) =
        (let rows = row_size (places.Number n) 0 (length taken) in let own = seen_length a in omega (arith, rows, own, short))
        in
        let behind = occurs_front r q (seen a) (contacts_of u) (row (places.Number n) 0 (length taken)) size_row in
        let other = ap (λ (cs : List Contact). occurs r q cs (row (places.Number n) 0 (length taken))) (sides_turn_back (contacts_of (Fun a u)) ∙ contacts_fun a u) in
        let made = makes n (length taken) in
        omega (arith, flows, parted, whole, front, seen_taken, behind, other, made)
      where
        taken_few : (k : ℕ) (ps : List Point) → length (take k ps) ≤ k
        taken_few zero [] = omega arith
        taken_few zero (p ∷ ps) = omega arith
        taken_few (suc k) [] = omega arith
        taken_few (suc k) (p ∷ ps) = let rest = taken_few k ps in omega (arith, rest)

        row_size : (place : Place) (h k : ℕ) → length (row place h k) ≡ k
        row_size place h zero = refl
        row_size place h (suc k) = ap suc (row_size place (suc h) k)

    pub binder_count : (b : Binding) (t u : Type') (i n : ℕ) (out : List Point) → BinderTyped types b t n u → length out ≡ count t → BinderCount b t u i n out
    binder_count OfFun t u i n out e size =
        subst (λ (x : Type'). length out ≡ count x → BinderCount OfFun x u i n out) (sym e) (fun_count u i n out) size
    binder_count (OfNew w) t u i n out (done, there, body) size =
        let all = meets_two r q (flowing (seen t) out (places.Part i) 3) (flowing (seen (Var w)) (row (places.Number n) 0 2) (places.Part i) 1) in
        let first = to_part (seen t) out i 3 in
        let second = to_part (seen (Var w)) (row (places.Number n) 0 2) i 1 in
        let made = side_makes n 2 (Var w) there in
        let none = of_part (seen u) i 0 in
        omega (arith, all, first, second, made, none)
    binder_count (OfArray c w) t u i n out (done, there, body) size =
        let all = meets_two r q (flowing (seen t) out (places.Part i) 4) (flowing (seen (array_type c w)) (row (places.Number n) 0 3) (places.Part i) 1) in
        let first = to_part (seen t) out i 4 in
        let second = to_part (seen (array_type c w)) (row (places.Number n) 0 3) i 1 in
        let made = side_makes n 3 (array_type c w) there in
        let none = of_part (seen u) i 0 in
        omega (arith, all, first, second, made, none)

    -- forms of one part
    abbrev OneCount : OneForm → Type' → Type' → ℕ → ℕ → List Point → Type 0
    OneCount f t u i j out = meets r q (one_flows f t i out) + occurs r q (seen u) (one_out f t u i j out) ≤ occurs r q (seen t) out + N j

    row_size : (place : Place) (h k : ℕ) → length (row place h k) ≡ k
    row_size place h zero = refl
    row_size place h (suc k) = ap suc (row_size place (suc h) k)

    count_pair : (a b : Type') → count (Pair a b) ≡ length (seen a) + count b
    count_pair a b =
        let whole = seen_length (Pair a b) in
        let split = ap length (seen_pair a b) ∙ length-append (seen a) (seen b) in
        let right = seen_length b in
        omega (arith, whole, split, right)

    fst_count : (t b : Type') (i j : ℕ) (out : List Point) → length out ≡ count t → OneCount OfFst t (Pair t b) i j out
    fst_count t b i j out size =
        let k : ℕ = count (Pair t b) - count t in
        let own = seen_length t in
        let two = occurs_two r q (seen t) (seen b) out (row (places.Node j) 0 k) (omega (arith, own, size)) in
        let whole = ap (λ (cs : List Contact). occurs r q cs (out ++ row (places.Node j) 0 k)) (seen_pair t b) in
        let few = nodes_few j k (seen b) in
        omega (arith, two, whole, few)

    snd_count : (a t : Type') (i j : ℕ) (out : List Point) → OneCount OfSnd t (Pair a t) i j out
    snd_count a t i j out =
        let k : ℕ = count (Pair a t) - count t in
        let sum = count_pair a t in
        let rows = row_size (places.Node j) 0 k in
        let two = occurs_two r q (seen a) (seen t) (row (places.Node j) 0 k) out (omega (arith, sum, rows)) in
        let whole = ap (λ (cs : List Contact). occurs r q cs (row (places.Node j) 0 k ++ out)) (seen_pair a t) in
        let few = nodes_few j k (seen a) in
        omega (arith, two, whole, few)

    pub one_count : (f : OneForm) (t u : Type') (i j : ℕ) (out : List Point) → OneTyped f t u → length out ≡ count t → OneCount f t u i j out
    one_count OfFst t u i j out (b, e) size = subst (λ (x : Type'). OneCount OfFst t x i j out) (sym e) (fst_count t b i j out size)
    one_count OfSnd t u i j out (a, e) size = subst (λ (x : Type'). OneCount OfSnd t x i j out) (sym e) (snd_count a t i j out)
    one_count OfDeref t u i j out (w, e, f) size =
        subst (λ (x : Type'). OneCount OfDeref t x i j out) (sym f)
        (let flows = to_part (seen t) out i 1 in
        let first = of_part (kinds.asks 0 w ∷ []) i 0 in
        let few = nodes_few j 1 (kinds.asks w 0 ∷ []) in
        omega (arith, flows, first, few))
    one_count OfNot t u i j out (w, e, f) size =
        let flows = to_part (seen t) out i 1 in let none = of_part (seen u) i 0 in omega (arith, flows, none)

    -- forms of two parts
    abbrev TwoCount : TwoForm → Type' → Type' → Type' → ℕ → ℕ → List Point → Type 0
    TwoCount f t u v i j out =
        meets r q (two_flows f t i out) + (occurs r q (seen u) (first_out f u v i j out) + occurs r q (seen v) (second_out f u v i j out))
        ≤ occurs r q (seen t) out + N j

    app_count : (t v : Type') (i j : ℕ) (out : List Point) → TwoCount OfApp t (Fun v t) v i j out
    app_count t v i j out =
        let k : ℕ = count v in
        let rows = row_size (places.Node j) 0 k in
        let two = occurs_two r q (contacts_of v) (seen t) (row (places.Node j) 0 k) out rows in
        let whole = ap (λ (cs : List Contact). occurs r q cs (row (places.Node j) 0 k ++ out)) (seen_fun v t) in
        let few = nodes_few j k (contacts_of v) in
        omega (arith, two, whole, few)

    both_count : (u v : Type') (i j : ℕ) (out : List Point) → TwoCount OfBoth (Pair u v) u v i j out
    both_count u v i j out =
        let parted = occurs_parted r q (count u) (seen u) (seen v) out (sym (seen_length u)) in
        let whole = ap (λ (cs : List Contact). occurs r q cs out) (seen_pair u v) in
        omega (arith, parted, whole)

    driven : (t u v : Type') (i j : ℕ) (out : List Point)
        → meets r q (flowing (seen t) out (places.Part i) 2) + (occurs r q (seen u) (point (places.Part i) 0 ∷ []) + occurs r q (seen v) (point (places.Part i) 1 ∷ []))
        ≤ occurs r q (seen t) out + N j
    driven t u v i j out =
        let flows = to_part (seen t) out i 2 in
        let first = of_part (seen u) i 0 in
        let second = of_part (seen v) i 1 in
        omega (arith, flows, first, second)

    pub two_count : (f : TwoForm) (t u v : Type') (i j : ℕ) (out : List Point) → TwoTyped f t u v → TwoCount f t u v i j out
    two_count OfApp t u v i j out e = subst (λ (x : Type'). TwoCount OfApp t x v i j out) (sym e) (app_count t v i j out)
    two_count OfBoth t u v i j out e = subst (λ (x : Type'). TwoCount OfBoth x u v i j out) (sym e) (both_count u v i j out)
    two_count OfSeq t u v i j out e = driven t u v i j out
    two_count OfPar t u v i j out e = driven t u v i j out
    two_count OfWhile t u v i j out e = driven t u v i j out
    two_count OfAssign t u v i j out (w, e, g, h) =
        subst (λ (x : Type'). TwoCount OfAssign t x v i j out) (sym g)
        (let flows = to_part (seen t) out i 2 in
        let second = of_part (seen v) i 0 in
        let first = of_part (kinds.asks w 0 ∷ []) i 1 in
        let few = nodes_few j 1 (kinds.asks 0 w ∷ []) in
        omega (arith, flows, second, first, few))
    two_count (OfBin op) t u v i j out e = driven t u v i j out
