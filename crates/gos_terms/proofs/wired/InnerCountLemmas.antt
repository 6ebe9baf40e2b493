-- A number and a node of a typed term are met in each role once at most.
--
-- Read first: TermCountLemmas. In one role a number is met where it is used, and in the other where it is made; a node is met from
-- its two sides.
use Rattle.std.specs.Prelude.{◌≡◌, ℕ, zero, suc, ◌+◌, ◌≤◌, ◌<◌, Bool, true, false, List, [], ◌∷◌, ◌++◌, length, Some, slice_get, nat_eq, if◌then◌else◌}
use Rattle.std.proofs.Common.{refl, ◌∙◌, ap, subst, arith}
use Rattle.std.proofs.lemmas.Bool.{ne_eqb}
use Rattle.gos_types.specs.declared.shakes.Role.{Role}
use Rattle.gos_types.specs.Types.{Type'}
use Rattle.gos_model.specs.Typing.{Imports, Imported}
use Rattle.gos_model.proofs.NumberLemmas.{number_cases}
use Rattle.gos_check.specs.declared.linear.Split.{Split}
use Rattle.gos_check.specs.Nodes.{Numbered, Closed, Use, Under, One, Two, If, type_of_node}
use Rattle.gos_check.specs.Linearity.{times, split_in, sides, used, made}
use Rattle.gos_check.proofs.TimesLemmas.{times-append}
use Rattle.gos_plan.specs.Kinds.{Part, Contact, contacts_of, other_side}
use Rattle.gos_ties.specs.declared.points.Place.TheVariants as places
use Rattle.gos_ties.specs.declared.points.Point.{Point}
use Rattle.gos_ties.specs.Ties.{point}
use Rattle.gos_ties.specs.Counted.{place_once}
use Rattle.gos_realises.specs.realises.Regular.{count}
use Rattle.gos_compile.specs.Wiring.{Types, row, parts_of, nodes}
use Rattle.gos_compile.specs.Typed.{NodesTyped}
use Rattle.gos_terms.proofs.wired.FlowLemmas.{Flow}
use Rattle.gos_terms.proofs.wired.FlowedLemmas.{seen, flowing, flows_of, import_flows}
use Rattle.gos_terms.proofs.wired.SightLemmas as sight
use Rattle.gos_terms.proofs.wired.TableLemmas.{TableFits}
use Rattle.gos_terms.proofs.wired.CountLemmas.{meets, occurs, meets_two, meets_flowing, row_none, row_at, is_it, place_few, place_none, turned_few}
use Rattle.gos_terms.proofs.wired.WeightLemmas.{splits, weight}
use Rattle.gos_terms.proofs.wired.TermCountLemmas.{term_count}

-- 1 where two numbers are one
abbrev pub one : ℕ → ℕ → ℕ
one k n = if nat_eq n k then 1 else 0

abbrev as_one : Bool → ℕ
as_one b = if b then 1 else 0

abbrev as_none : Bool → ℕ
as_none b = if b then 0 else 1

abbrev pub zeros : ℕ → ℕ
zeros n = 0

one_few : (k n : ℕ) → one k n ≤ 1
one_few k n = by (nat_eq n k)
  where
    by : (b : Bool) → (if b then 1 else 0) ≤ 1
    by true = omega arith
    by false = omega arith

-- the sum from a number on, of so many
abbrev pub sum_from : (ℕ → ℕ) → ℕ → ℕ → ℕ
sum_from f a zero = 0
sum_from f a (suc n) = f a + sum_from f (suc a) n

sum_zeros : (a n : ℕ) → sum_from zeros a n ≡ 0
sum_zeros a zero = refl
sum_zeros a (suc n) = let rest = sum_zeros (suc a) n in omega (arith, rest)

sum_parted : (f : ℕ → ℕ) (a m n : ℕ) → sum_from f a (m + n) ≡ sum_from f a m + sum_from f (a + m) n
sum_parted f a zero n =
    let none : 0 + n ≡ n = omega arith in
    let start : a ≡ a + 0 = omega arith in
    let same = ap (λ (k : ℕ). sum_from f a k) none in
    let from = ap (λ (k : ℕ). sum_from f k n) start in
    omega (arith, same, from)
sum_parted f a (suc m) n =
    let rest = sum_parted f (suc a) m n in
    let more : suc m + n ≡ suc (m + n) = omega arith in
    let same = ap (λ (k : ℕ). sum_from f a k) more in
    let start : suc a + m ≡ a + suc m = omega arith in
    let from = ap (λ (k : ℕ). sum_from f k n) start in
    omega (arith, rest, same, from)

sum_beyond : (k a n : ℕ) → k < a → sum_from (one k) a n ≡ 0
sum_beyond k a zero low = refl
sum_beyond k a (suc n) low =
    let rest = sum_beyond k (suc a) n (omega (arith, low)) in
    let other : nat_eq a k ≡ false = ne_eqb a k (λ e. let f : a ≡ k = e in omega (arith, f, low)) in
    let none : one k a ≡ 0 = ap (λ (b : Bool). if b then 1 else 0) other in
    omega (arith, rest, none)

sum_once : (k a n : ℕ) → sum_from (one k) a n ≤ 1
sum_once k a zero = omega arith
sum_once k a (suc n) =
    number_cases a k
    (λ e t. let f : a ≡ k = e in let rest = sum_beyond k (suc a) n (omega (arith, f)) in let few = one_few k a in omega (arith, rest, few))
    (λ e t. let rest = sum_once k (suc a) n in let none : one k a ≡ 0 = ap (λ (b : Bool). if b then 1 else 0) t in omega (arith, rest, none))

sum_past : (k a n : ℕ) → a + n ≤ k → sum_from (one k) a n ≡ 0
sum_past k a zero low = refl
sum_past k a (suc n) low =
    let rest = sum_past k (suc a) n (omega (arith, low)) in
    let other : nat_eq a k ≡ false = ne_eqb a k (λ e. let f : a ≡ k = e in omega (arith, f, low)) in
    let none : one k a ≡ 0 = ap (λ (b : Bool). if b then 1 else 0) other in
    omega (arith, rest, none)

-- the weights are numbers of uses, of makings and of nodes
splits_used : (k : ℕ) (ss : List Split) → splits (one k) zeros zeros ss ≡ times k (split_in ss)
splits_used k [] = refl
splits_used k (s ∷ ss) = let rest = splits_used k ss in omega (arith, rest)

splits_made : (k : ℕ) (ss : List Split) → splits zeros (one k) zeros ss ≡ times k (sides ss)
splits_made k [] = refl
splits_made k (s ∷ ss) = let rest = splits_made k ss in omega (arith, rest)

splits_none : (f : ℕ → ℕ) (ss : List Split) → splits zeros zeros f ss ≡ 0
splits_none f [] = refl
splits_none f (s ∷ ss) = let rest = splits_none f ss in omega (arith, rest)

weight_used : (k j : ℕ) (m : Numbered) → weight (one k) zeros zeros j m ≡ times k (used m)
weight_used k j (Closed t ss c) = splits_used k ss
weight_used k j (Use t ss n) =
    let own = splits_used k ss in let all = times-append k (split_in ss) (n ∷ []) in omega (arith, own, all)
weight_used k j (Under t ss b n m) =
    let own = splits_used k ss in let all = times-append k (split_in ss) (used m) in let rest = weight_used k (suc j) m in omega (arith, own, all, rest)
weight_used k j (One t ss f m) =
    let own = splits_used k ss in let all = times-append k (split_in ss) (used m) in let rest = weight_used k (suc j) m in omega (arith, own, all, rest)
weight_used k j (Two t ss f m n) =
    let own = splits_used k ss in
    let all = times-append k (split_in ss) (used m ++ used n) in
    let both = times-append k (used m) (used n) in
    let left = weight_used k (suc j) m in
    let right = weight_used k (suc j + nodes m) n in
    omega (arith, own, all, both, left, right)
weight_used k j (If t ss m n p) =
    let own = splits_used k ss in
    let all = times-append k (split_in ss) (used m ++ (used n ++ used p)) in
    let three = times-append k (used m) (used n ++ used p) in
    let both = times-append k (used n) (used p) in
    let test = weight_used k (suc j) m in
    let left = weight_used k (suc j + nodes m) n in
    let right = weight_used k (suc j + nodes m + nodes n) p in
    omega (arith, own, all, three, both, test, left, right)

weight_made : (k j : ℕ) (m : Numbered) → weight zeros (one k) zeros j m ≡ times k (made m)
weight_made k j (Closed t ss c) = splits_made k ss
weight_made k j (Use t ss n) = let own = splits_made k ss in omega (arith, own)
weight_made k j (Under t ss b n m) =
    let own = splits_made k ss in
    let all = times-append k (sides ss) (n ∷ made m) in
    let rest = weight_made k (suc j) m in
    omega (arith, own, all, rest)
weight_made k j (One t ss f m) =
    let own = splits_made k ss in let all = times-append k (sides ss) (made m) in let rest = weight_made k (suc j) m in omega (arith, own, all, rest)
weight_made k j (Two t ss f m n) =
    let own = splits_made k ss in
    let all = times-append k (sides ss) (made m ++ made n) in
    let both = times-append k (made m) (made n) in
    let left = weight_made k (suc j) m in
    let right = weight_made k (suc j + nodes m) n in
    omega (arith, own, all, both, left, right)
weight_made k j (If t ss m n p) =
    let own = splits_made k ss in
    let all = times-append k (sides ss) (made m ++ (made n ++ made p)) in
    let three = times-append k (made m) (made n ++ made p) in
    let both = times-append k (made n) (made p) in
    let test = weight_made k (suc j) m in
    let left = weight_made k (suc j + nodes m) n in
    let right = weight_made k (suc j + nodes m + nodes n) p in
    omega (arith, own, all, three, both, test, left, right)

weight_nodes : (k j : ℕ) (m : Numbered) → weight zeros zeros (one k) j m ≤ sum_from (one k) j (nodes m)
weight_nodes k j (Closed t ss c) = let own = splits_none (one k) ss in omega (arith, own)
weight_nodes k j (Use t ss n) = let own = splits_none (one k) ss in omega (arith, own)
weight_nodes k j (Under t ss b n m) =
    let own = splits_none (one k) ss in let rest = weight_nodes k (suc j) m in omega (arith, own, rest)
weight_nodes k j (One t ss f m) =
    let own = splits_none (one k) ss in let rest = weight_nodes k (suc j) m in omega (arith, own, rest)
weight_nodes k j (Two t ss f m n) =
    let own = splits_none (one k) ss in
    let parted = sum_parted (one k) (suc j) (nodes m) (nodes n) in
    let left = weight_nodes k (suc j) m in
    let right = weight_nodes k (suc j + nodes m) n in
    omega (arith, own, parted, left, right)
weight_nodes k j (If t ss m n p) =
    let own = splits_none (one k) ss in
    let parted = sum_parted (one k) (suc j) (nodes m + nodes n) (nodes p) in
    let parted_two = sum_parted (one k) (suc j) (nodes m) (nodes n) in
    let start : suc j + (nodes m + nodes n) ≡ suc j + nodes m + nodes n = omega arith in
    let from = ap (λ (a : ℕ). sum_from (one k) a (nodes p)) start in
    let test = weight_nodes k (suc j) m in
    let left = weight_nodes k (suc j + nodes m) n in
    let right = weight_nodes k (suc j + nodes m + nodes n) p in
    omega (arith, own, parted, parted_two, from, test, left, right)

-- the flows of imports
imports_count : (types : Types) (r : Role) (q : Point) (M : ℕ → ℕ) → ((i : ℕ) → place_once q.place (places.Import i) ≡ 0)
    → ((n k : ℕ) → occurs r q (seen (types n)) (row (places.Number n) 0 k) ≤ M n)
    → (a : ℕ) (xs : Imports) → ((i : ℕ) (x : Imported) → slice_get xs i ≡ Some x → types (a + i) ≡ x.ty)
    → meets r q (import_flows a xs) ≤ sum_from M a (length xs)
imports_count types r q M no_import makes a [] typed = omega arith
imports_count types r q M no_import makes a (x ∷ xs) typed =
    let start : a ≡ a + 0 = omega arith in
    let type : types a ≡ x.ty = ap types start ∙ typed 0 x refl in
    let all = meets_two r q (flowing (contacts_of x.ty) (row (places.Import a) 0 (count x.ty)) (places.Number a) 0) (import_flows (suc a) xs) in
    let flow = meets_flowing r q (contacts_of x.ty) (row (places.Import a) 0 (count x.ty)) (places.Number a) 0 in
    let none = row_none r q (contacts_of x.ty) (places.Import a) 0 (count x.ty) (no_import a) in
    let own =
    subst (λ (t : Type'). occurs r q (seen t) (row (places.Number a) 0 (length (row (places.Import a) 0 (count x.ty)))) ≤ M a) type
    (makes a (length (row (places.Import a) 0 (count x.ty))))
    in
    let rest =
    imports_count types r q M no_import makes (suc a) xs
    (λ i y at. let sum : suc a + i ≡ a + suc i = omega arith in ap types sum ∙ typed (suc i) y at)
    in
    omega (arith, all, flow, none, own, rest)

-- numbers and nodes among flows of both
module _ (parts : List Part) (is : Imports) (outcome : Type') (table : ℕ → List Contact) (types : Types) (xs : Imports) (i j : ℕ) (m : Numbered)
    (typed : NodesTyped types m) (fits : TableFits table j m) (all : sight.PartsAt parts is outcome types table i (parts_of types m))
    (see : sight.See parts is outcome types table (seen (type_of_node m)) (row places.Result 0 (count (type_of_node m))))
    (imports : (i : ℕ) (x : Imported) → slice_get xs i ≡ Some x → types (0 + i) ≡ x.ty)
  where
    abbrev out : List Point
    out = row places.Result 0 (count (type_of_node m))

    abbrev both : List Flow
    both = import_flows 0 xs ++ flows_of types i j m out

    module _ (r : Role) (k h : ℕ) where
      abbrev q : Point
      q = point (places.Number k) h

      no_node : (j n : ℕ) (cs : List Contact) → occurs r q cs (row (places.Node j) 0 n) + occurs r q (other_side cs) (row (places.Node j) 0 n) ≤ zeros j
      no_node j n cs =
          let first = row_none r q cs (places.Node j) 0 n refl in
          let second = row_none r q (other_side cs) (places.Node j) 0 n refl in
          omega (arith, first, second)

      elsewhere : (n : ℕ) → nat_eq n k ≡ false → place_once (places.Number k) (places.Number n) ≡ 0
      elsewhere n t = ap (λ (b : Bool). if b then 1 else 0) t

      counted : (U M : ℕ → ℕ) → ((n i : ℕ) → occurs r q (contacts_of (types n)) (row (places.Number n) 0 i) ≤ U n)
          → ((n i : ℕ) → occurs r q (seen (types n)) (row (places.Number n) 0 i) ≤ M n)
          → meets r q both ≤ sum_from M 0 (length xs) + weight U M zeros j m
      counted U M uses makes =
          let split = meets_two r q (import_flows 0 xs) (flows_of types i j m out) in
          let first = imports_count types r q M (λ i. refl) makes 0 xs imports in
          let term = term_count parts is outcome table types r q U M zeros (λ i. refl) uses makes no_node i j m out typed fits all see in
          let none = row_none r q (seen (type_of_node m)) places.Result 0 (count (type_of_node m)) refl in
          omega (arith, split, first, term, none)

      role_at : ℕ → Bool
      role_at n = is_it r (slice_get (contacts_of (types n)) h)

      uses_one : (n i : ℕ) → occurs r q (contacts_of (types n)) (row (places.Number n) 0 i) ≤ one k n
      uses_one n i =
          let at = row_at r q (contacts_of (types n)) (places.Number n) i in
          number_cases n k
          (λ e t. let few = place_few r q (places.Number n) (slice_get (contacts_of (types n)) h) (one_few k n) in
          let one_is : one k n ≡ 1 = ap (λ (b : Bool). if b then 1 else 0) t in
          let most = bool_few (is_it r (slice_get (contacts_of (types n)) h)) in
          omega (arith, at, few, one_is, most))
          (λ e t. let none = place_none r q (places.Number n) (slice_get (contacts_of (types n)) h) (elsewhere n t) in omega (arith, at, none))
        where
          bool_few : (b : Bool) → (if b then 1 else 0) ≤ 1
          bool_few true = omega arith
          bool_few false = omega arith

      makes_one : (n i : ℕ) → occurs r q (seen (types n)) (row (places.Number n) 0 i) ≤ one k n
      makes_one n i =
          let at = row_at r q (seen (types n)) (places.Number n) i in
          number_cases n k
          (λ e t. let few = place_few r q (places.Number n) (slice_get (seen (types n)) h) (one_few k n) in
          let one_is : one k n ≡ 1 = ap (λ (b : Bool). if b then 1 else 0) t in
          let most = bool_few (is_it r (slice_get (seen (types n)) h)) in
          omega (arith, at, few, one_is, most))
          (λ e t. let none = place_none r q (places.Number n) (slice_get (seen (types n)) h) (elsewhere n t) in omega (arith, at, none))
        where
          bool_few : (b : Bool) → (if b then 1 else 0) ≤ 1
          bool_few true = omega arith
          bool_few false = omega arith

      -- in the role of its use it is not met where it is made, and the other way round
      uses_none : is_it r (slice_get (contacts_of (types k)) h) ≡ false → (n i : ℕ) → occurs r q (contacts_of (types n)) (row (places.Number n) 0 i) ≤ zeros n
      uses_none differs n i =
          let at = row_at r q (contacts_of (types n)) (places.Number n) i in
          number_cases n k
          (λ e t. let few = place_few r q (places.Number n) (slice_get (contacts_of (types n)) h) (one_few k n) in
          let same : as_one (is_it r (slice_get (contacts_of (types n)) h)) ≡ 0 =
          ap (λ (a : ℕ). as_one (is_it r (slice_get (contacts_of (types a)) h))) e ∙ ap as_one differs
          in
          omega (arith, at, few, same))
          (λ e t. let none = place_none r q (places.Number n) (slice_get (contacts_of (types n)) h) (elsewhere n t) in omega (arith, at, none))

      makes_none : is_it r (slice_get (contacts_of (types k)) h) ≡ true → (n i : ℕ) → occurs r q (seen (types n)) (row (places.Number n) 0 i) ≤ zeros n
      makes_none agrees n i =
          let at = row_at r q (seen (types n)) (places.Number n) i in
          number_cases n k
          (λ e t. let few = place_few r q (places.Number n) (slice_get (seen (types n)) h) (one_few k n) in
          let turned = turned_few r (contacts_of (types n)) h in
          let same : as_none (is_it r (slice_get (contacts_of (types n)) h)) ≡ 0 =
          ap (λ (a : ℕ). as_none (is_it r (slice_get (contacts_of (types a)) h))) e ∙ ap as_none agrees
          in
          omega (arith, at, few, turned, same))
          (λ e t. let none = place_none r q (places.Number n) (slice_get (seen (types n)) h) (elsewhere n t) in omega (arith, at, none))

      -- in the role in which it is made
      pub number_made : is_it r (slice_get (contacts_of (types k)) h) ≡ false → meets r q both ≤ sum_from (one k) 0 (length xs) + times k (made m)
      number_made differs =
          let all_met = counted zeros (one k) (uses_none differs) makes_one in let weighs = weight_made k j m in omega (arith, all_met, weighs)

      pub number_once : times k (used m) ≤ 1 → times k (made m) ≤ 1 → (0 < times k (made m) → length xs ≤ k) → meets r q both ≤ 1
      number_once used_few made_few no_import = by_role (is_it r (slice_get (contacts_of (types k)) h)) refl
        where
          by_made : (n : ℕ) → times k (made m) ≡ n → sum_from (one k) 0 (length xs) + times k (made m) ≤ 1
          by_made zero e = let few = sum_once k 0 (length xs) in omega (arith, e, few)
          by_made (suc n) e =
              let high = no_import (omega (arith, e)) in let past = sum_past k 0 (length xs) (omega (arith, high)) in omega (arith, past, made_few)

          by_role : (b : Bool) → is_it r (slice_get (contacts_of (types k)) h) ≡ b → meets r q both ≤ 1
          by_role true agrees =
              let all_met = counted (one k) zeros uses_one (makes_none agrees) in
              let none = sum_zeros 0 (length xs) in
              let weighs = weight_used k j m in
              omega (arith, all_met, none, weighs, used_few)
          by_role false differs =
              let all_met = counted zeros (one k) (uses_none differs) makes_one in
              let weighs = weight_made k j m in
              let few = by_made (times k (made m)) refl in
              omega (arith, all_met, weighs, few)

    module _ (r : Role) (k h : ℕ) where
      abbrev node : Point
      node = point (places.Node k) h

      no_number : (cs : List Contact) (n i : ℕ) → occurs r node cs (row (places.Number n) 0 i) ≤ zeros n
      no_number cs n i = let none = row_none r node cs (places.Number n) 0 i refl in omega (arith, none)

      sides_once : (b : Bool) → (if b then 1 else 0) + (if b then 0 else 1) ≤ 1
      sides_once true = omega arith
      sides_once false = omega arith

      from_both : (j n : ℕ) (cs : List Contact) → occurs r node cs (row (places.Node j) 0 n) + occurs r node (other_side cs) (row (places.Node j) 0 n) ≤ one k j
      from_both j n cs =
          let first = row_at r node cs (places.Node j) n in
          let second = row_at r node (other_side cs) (places.Node j) n in
          number_cases j k
          (λ e t. let few = place_few r node (places.Node j) (slice_get cs h) (one_few k j) in
          let few_back = place_few r node (places.Node j) (slice_get (other_side cs) h) (one_few k j) in
          let turned = turned_few r cs h in
          let most = sides_once (is_it r (slice_get cs h)) in
          let one_is : one k j ≡ 1 = ap (λ (b : Bool). if b then 1 else 0) t in
          omega (arith, first, second, few, few_back, turned, most, one_is))
          (λ e t. let apart : place_once (places.Node k) (places.Node j) ≡ 0 = ap (λ (b : Bool). if b then 1 else 0) t in
          let none = place_none r node (places.Node j) (slice_get cs h) apart in
          let none_back = place_none r node (places.Node j) (slice_get (other_side cs) h) apart in
          omega (arith, first, second, none, none_back))

      pub node_once : meets r node both ≤ 1
      node_once =
          let split = meets_two r node (import_flows 0 xs) (flows_of types i j m out) in
          let first = imports_count types r node zeros (λ i. refl) (λ n i. no_number (seen (types n)) n i) 0 xs imports in
          let none = sum_zeros 0 (length xs) in
          let term =
          term_count parts is outcome table types r node zeros zeros (one k) (λ i. refl) (λ n i. no_number (contacts_of (types n)) n i)
          (λ n i. no_number (seen (types n)) n i) from_both i j m out typed fits all see
          in
          let result = row_none r node (seen (type_of_node m)) places.Result 0 (count (type_of_node m)) refl in
          let weighs = weight_nodes k j m in
          let few = sum_once k j (nodes m) in
          omega (arith, split, first, none, term, result, weighs, few)
