-- How often a point inside a typed term is met in a role, at most: the induction on the term.
--
-- Read first: WeightLemmas.
use Rattle.std.specs.Prelude.{◌≡◌, ℕ, suc, ◌+◌, ◌≤◌, List, [], ◌∷◌, ◌++◌, length}
use Rattle.std.proofs.Common.{refl, sym, ◌∙◌, arith}
use Rattle.gos_types.specs.declared.shakes.Role.{Role}
use Rattle.gos_types.specs.Types.{Type'}
use Rattle.gos_model.specs.Typing.{Imports}
use Rattle.gos_check.specs.declared.linear.Split.{Split}
use Rattle.gos_check.specs.Nodes.{Numbered, Closed, Use, Under, One, Two, If, type_of_node}
use Rattle.gos_plan.specs.Kinds as kinds
use Rattle.gos_plan.specs.Kinds.{Part, Contact, contacts_of, other_side}
use Rattle.gos_ties.specs.declared.points.Place.TheVariants as places
use Rattle.gos_ties.specs.declared.points.Point.{Point}
use Rattle.gos_ties.specs.Ties.{point}
use Rattle.gos_ties.specs.Counted.{place_once}
use Rattle.gos_realises.specs.realises.Regular.{count}
use Rattle.gos_compile.specs.Wiring.{Types, row, answer_bits, shares, binder_part, one_part, two_part, parts_of, nodes, binder_out, one_out, first_out, second_out}
use Rattle.gos_compile.specs.Typed.{NodesTyped}
use Rattle.gos_terms.proofs.wired.FlowLemmas.{Flow}
use Rattle.gos_terms.proofs.wired.FlowedLemmas.{seen, flowing, shares_flows, binder_flows, one_flows, two_flows, flows_of}
use Rattle.gos_terms.proofs.wired.OutLemmas.{seen_length}
use Rattle.gos_terms.proofs.wired.SightLemmas as sight
use Rattle.gos_terms.proofs.wired.FormLemmas as forms
use Rattle.gos_terms.proofs.wired.TableLemmas.{TableFits}
use Rattle.gos_terms.proofs.wired.CountLemmas.{meets, occurs, meets_two, meets_flowing}
use Rattle.gos_terms.proofs.wired.WeightLemmas as weights
use Rattle.gos_terms.proofs.wired.WeightLemmas.{weight}
use Rattle.gos_compile.proofs.ThinLemmas.{shares_length}

module _ (parts : List Part) (is : Imports) (outcome : Type') (table : ℕ → List Contact) (types : Types) (r : Role) (q : Point) (U M N : ℕ → ℕ)
    (no_part : (i : ℕ) → place_once q.place (places.Part i) ≡ 0)
    (uses : (n k : ℕ) → occurs r q (contacts_of (types n)) (row (places.Number n) 0 k) ≤ U n)
    (makes : (n k : ℕ) → occurs r q (seen (types n)) (row (places.Number n) 0 k) ≤ M n)
    (nodes_few : (j k : ℕ) (cs : List Contact) → occurs r q cs (row (places.Node j) 0 k) + occurs r q (other_side cs) (row (places.Node j) 0 k) ≤ N j)
  where
    abbrev See : List Contact → List Point → Type 0
    See = sight.See parts is outcome types table

    abbrev PartsAt : ℕ → List Part → Type 0
    PartsAt = sight.PartsAt parts is outcome types table

    front : (i : ℕ) (ks ls : List Part) → PartsAt i (ks ++ ls) → PartsAt i ks
    front = sight.parts_front parts is outcome types table

    behind : (i n : ℕ) (ks ls : List Part) → n ≡ length ks → PartsAt i (ks ++ ls) → PartsAt (i + n) ls
    behind = sight.parts_behind parts is outcome types table

    after_shares : (i : ℕ) (ss : List Split) (ls : List Part) → PartsAt i (shares ss types ++ ls) → PartsAt (i + length ss) ls
    after_shares i ss ls all = behind i (length ss) (shares ss types) ls (sym (shares_length ss types)) all

    size_of : (t : Type') (out : List Point) → See (seen t) out → length out ≡ count t
    size_of t out see = sight.see_length parts is outcome types table (seen t) out see ∙ seen_length t

    to_part : (cs : List Contact) (ps : List Point) (i h : ℕ) → meets r q (flowing cs ps (places.Part i) h) ≡ occurs r q cs ps
    to_part = weights.to_part types r q U M N no_part uses makes nodes_few

    of_part : (cs : List Contact) (i h : ℕ) → occurs r q cs (point (places.Part i) h ∷ []) ≡ 0
    of_part = weights.of_part types r q U M N no_part uses makes nodes_few

    pub term_count : (i j : ℕ) (m : Numbered) (out : List Point) → NodesTyped types m → TableFits table j m → PartsAt i (parts_of types m)
        → See (seen (type_of_node m)) out → meets r q (flows_of types i j m out) ≤ occurs r q (seen (type_of_node m)) out + weight U M N j m
    term_count i j (Closed t ss c) out (sides, typed) tab all see =
        let i' : ℕ = i + length ss in
        let split = meets_two r q (shares_flows i ss types) (flowing (seen t) out (places.Part i') 0) in
        let first = weights.shares_count types r q U M N no_part uses makes nodes_few i ss sides in
        let own = to_part (seen t) out i' 0 in
        omega (arith, split, first, own)
    term_count i j (Use t ss n) out (sides, typed) tab all see =
        let split = meets_two r q (shares_flows i ss types) (flowing (seen t) out (places.Number n) 0) in
        let first = weights.shares_count types r q U M N no_part uses makes nodes_few i ss sides in
        let flows = meets_flowing r q (seen t) out (places.Number n) 0 in
        let used = weights.side_uses types r q U M N no_part uses makes nodes_few n (length out) t (sym typed) in
        let same = weights.turned_occurs types r q U M N no_part uses makes nodes_few t (row (places.Number n) 0 (length out)) in
        omega (arith, split, first, flows, used, same)
    term_count i j (Under t ss b n m) out (sides, typed, rest) tab all see =
        let i' : ℕ = i + length ss in
        let k : ℕ = i' + length (binder_part b t) in
        let out' : List Point = binder_out b t i' out in
        let below : List Flow = flows_of types k (suc j) m out' in
        let own = after_shares i ss (binder_part b t ++ parts_of types m) all in
        let good = forms.binder_good parts is outcome types table b t (type_of_node m) i' n out typed (front i' (binder_part b t) (parts_of types m) own) see in
        let split = meets_two r q (shares_flows i ss types) (binder_flows b t i' n out ++ below) in
        let split_own = meets_two r q (binder_flows b t i' n out) below in
        let first = weights.shares_count types r q U M N no_part uses makes nodes_few i ss sides in
        let of_own = weights.binder_count types r q U M N no_part uses makes nodes_few b t (type_of_node m) i' n out typed (size_of t out see) in
        let later =
        term_count k (suc j) m out' rest tab (behind i' (length (binder_part b t)) (binder_part b t) (parts_of types m) refl own) good.1
        in
        omega (arith, split, split_own, first, of_own, later)
    term_count i j (One t ss f m) out (sides, typed, rest) (own_tab, tab) all see =
        let i' : ℕ = i + length ss in
        let k : ℕ = i' + length (one_part f t) in
        let out' : List Point = one_out f t (type_of_node m) i' j out in
        let below : List Flow = flows_of types k (suc j) m out' in
        let own = after_shares i ss (one_part f t ++ parts_of types m) all in
        let good = forms.one_good parts is outcome types table f t (type_of_node m) i' j out typed own_tab (front i' (one_part f t) (parts_of types m) own) see in
        let split = meets_two r q (shares_flows i ss types) (one_flows f t i' out ++ below) in
        let split_own = meets_two r q (one_flows f t i' out) below in
        let first = weights.shares_count types r q U M N no_part uses makes nodes_few i ss sides in
        let of_own = weights.one_count types r q U M N no_part uses makes nodes_few f t (type_of_node m) i' j out typed (size_of t out see) in
        let later = term_count k (suc j) m out' rest tab (behind i' (length (one_part f t)) (one_part f t) (parts_of types m) refl own) good.1 in
        omega (arith, split, split_own, first, of_own, later)
    term_count i j (Two t ss f m n) out (sides, typed, rest, restn) (own_tab, tab, tabn) all see =
        let i' : ℕ = i + length ss in
        let u : Type' = type_of_node m in
        let v : Type' = type_of_node n in
        let k : ℕ = i' + length (two_part f t v) in
        let l : ℕ = k + length (parts_of types m) in
        let own = after_shares i ss (two_part f t v ++ (parts_of types m ++ parts_of types n)) all in
        let good =
        forms.two_good parts is outcome types table f t u v i' j out typed own_tab (front i' (two_part f t v) (parts_of types m ++ parts_of types n) own) see
        in
        let inner = behind i' (length (two_part f t v)) (two_part f t v) (parts_of types m ++ parts_of types n) refl own in
        let first_points : List Point = first_out f u v i' j out in
        let second_points : List Point = second_out f u v i' j out in
        let left : List Flow = flows_of types k (suc j) m first_points in
        let right : List Flow = flows_of types l (suc j + nodes m) n second_points in
        let split = meets_two r q (shares_flows i ss types) (two_flows f t i' out ++ (left ++ right)) in
        let split_own = meets_two r q (two_flows f t i' out) (left ++ right) in
        let split_two = meets_two r q left right in
        let first = weights.shares_count types r q U M N no_part uses makes nodes_few i ss sides in
        let of_own = weights.two_count types r q U M N no_part uses makes nodes_few f t u v i' j out typed in
        let of_left = term_count k (suc j) m first_points rest tab (front k (parts_of types m) (parts_of types n) inner) good.1 in
        let of_right =
        term_count l (suc j + nodes m) n second_points restn tabn (behind k (length (parts_of types m)) (parts_of types m) (parts_of types n) refl inner) good.2
        in
        omega (arith, split, split_own, split_two, first, of_own, of_left, of_right)
    term_count i j (If t ss m n p) out (sides, typed, rest, restn, restp) (tab, tabn, tabp) all see =
        let i' : ℕ = i + length ss in
        let P = places.Part i' in
        let x : Part = kinds.If (answer_bits t) in
        let inside : List Part = parts_of types m ++ (parts_of types n ++ parts_of types p) in
        let k : ℕ = i' + 1 in
        let l : ℕ = k + length (parts_of types m) in
        let o : ℕ = l + length (parts_of types n) in
        let own : PartsAt i' (x ∷ inside) = after_shares i ss (x ∷ inside) all in
        let good =
        forms.choice_good parts is outcome types table t (type_of_node m) (type_of_node n) (type_of_node p) i' out typed (front i' (x ∷ []) inside own) see
        in
        let inner : PartsAt k inside = behind i' 1 (x ∷ []) inside refl own in
        let late : PartsAt l (parts_of types n ++ parts_of types p) =
        behind k (length (parts_of types m)) (parts_of types m) (parts_of types n ++ parts_of types p) refl inner
        in
        let test : List Flow = flows_of types k (suc j) m (point P 0 ∷ []) in
        let left : List Flow = flows_of types l (suc j + nodes m) n (point P 1 ∷ []) in
        let right : List Flow = flows_of types o (suc j + nodes m + nodes n) p (point P 2 ∷ []) in
        let split = meets_two r q (shares_flows i ss types) (flowing (seen t) out P 3 ++ (test ++ (left ++ right))) in
        let split_own = meets_two r q (flowing (seen t) out P 3) (test ++ (left ++ right)) in
        let split_three = meets_two r q test (left ++ right) in
        let split_two = meets_two r q left right in
        let first = weights.shares_count types r q U M N no_part uses makes nodes_few i ss sides in
        let of_own = to_part (seen t) out i' 3 in
        let of_test = term_count k (suc j) m (point P 0 ∷ []) rest tab (front k (parts_of types m) (parts_of types n ++ parts_of types p) inner) good.1 in
        let of_left = term_count l (suc j + nodes m) n (point P 1 ∷ []) restn tabn (front l (parts_of types n) (parts_of types p) late) good.2 in
        let of_right =
        term_count o (suc j + nodes m + nodes n) p (point P 2 ∷ []) restp tabp
        (behind l (length (parts_of types n)) (parts_of types n) (parts_of types p) refl late) good.3
        in
        let none_test = of_part (seen (type_of_node m)) i' 0 in
        let none_left = of_part (seen (type_of_node n)) i' 1 in
        let none_right = of_part (seen (type_of_node p)) i' 2 in
        omega (arith, split, split_own, split_three, split_two, first, of_own, of_test, of_left, of_right, none_test, none_left, none_right)
