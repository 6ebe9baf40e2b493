-- The flows of a typed term have their handshakes at both sides, and are its ties.
--
-- Read first: FormLemmas, TableLemmas.
use Rattle.std.specs.Prelude.{◌≡◌, ℕ, suc, ◌+◌, List, [], ◌∷◌, ◌++◌, length, Some, slice_get}
use Rattle.std.proofs.Common.{refl, ap, sym, ◌∙◌, subst, arith}
use Rattle.gos_types.specs.Types.{Type'}
use Rattle.gos_model.specs.Typing.{Imports, Imported}
use Rattle.gos_check.specs.declared.linear.Split.{Split}
use Rattle.gos_check.specs.Nodes.{Numbered, Closed, Use, Under, One, Two, If, type_of_node}
use Rattle.gos_plan.specs.Kinds as kinds
use Rattle.gos_plan.specs.Kinds.{Part, Contact, contacts_of}
use Rattle.gos_plan.specs.Plans.{contacts_of_import}
use Rattle.gos_plan.proofs.SideLemmas.{sides_turn_back}
use Rattle.gos_ties.specs.declared.points.Place.TheVariants as places
use Rattle.gos_ties.specs.declared.points.Point.{Point}
use Rattle.gos_ties.specs.declared.points.Tie.{Tie}
use Rattle.gos_ties.specs.Ties.{point}
use Rattle.gos_realises.specs.realises.Regular.{count}
use Rattle.gos_compile.specs.Wiring.{Types, row, led, answer_bits, shares, closed_part, binder_part, one_part, two_part, parts_of, nodes, shares_ties, binder_ties, binder_out, one_ties, one_out, two_ties, first_out, second_out, ties_of, import_ties}
use Rattle.gos_compile.specs.Typed.{NodesTyped}
use Rattle.gos_terms.proofs.wired.FlowLemmas.{Flow}
use Rattle.gos_terms.proofs.wired.FlowedLemmas.{seen, flowing, shares_flows, binder_flows, one_flows, two_flows, flows_of, import_flows}
use Rattle.gos_terms.proofs.wired.SightLemmas as sight
use Rattle.gos_terms.proofs.wired.FormLemmas as forms
use Rattle.gos_terms.proofs.wired.TableLemmas.{TableFits}
use Rattle.gos_compile.proofs.ThinLemmas.{shares_length}

module _ (parts : List Part) (is : Imports) (outcome : Type') (types : Types) (table : ℕ → List Contact) where
  abbrev See : List Contact → List Point → Type 0
  See = sight.See parts is outcome types table

  abbrev Good : List Flow → List Tie → Type 0
  Good = sight.Good parts is outcome types table

  abbrev PartsAt : ℕ → List Part → Type 0
  PartsAt = sight.PartsAt parts is outcome types table

  two : (fs gs : List Flow) (ts us : List Tie) → Good fs ts → Good gs us → Good (fs ++ gs) (ts ++ us)
  two = sight.good_two parts is outcome types table

  front : (i : ℕ) (ks ls : List Part) → PartsAt i (ks ++ ls) → PartsAt i ks
  front = sight.parts_front parts is outcome types table

  behind : (i n : ℕ) (ks ls : List Part) → n ≡ length ks → PartsAt i (ks ++ ls) → PartsAt (i + n) ls
  behind = sight.parts_behind parts is outcome types table

  after_shares : (i : ℕ) (ss : List Split) (ls : List Part) → PartsAt i (shares ss types ++ ls) → PartsAt (i + length ss) ls
  after_shares i ss ls all = behind i (length ss) (shares ss types) ls (sym (shares_length ss types)) all

  pub flows_good : (i j : ℕ) (m : Numbered) (out : List Point) → NodesTyped types m → TableFits table j m → PartsAt i (parts_of types m)
      → See (seen (type_of_node m)) out → Good (flows_of types i j m out) (ties_of types i j m out)
  flows_good i j (Closed t ss c) out (sides, typed) tab all see =
      let i' : ℕ = i + length ss in
      two (shares_flows i ss types) (flowing (seen t) out (places.Part i') 0) (shares_ties i ss types) (led out (places.Part i') 0)
      (forms.shares_good parts is outcome types table i ss sides (front i (shares ss types) (closed_part c) all))
      (forms.closed_good parts is outcome types table c t i' out typed (after_shares i ss (closed_part c) all) see)
  flows_good i j (Use t ss n) out (sides, typed) tab all see =
      two (shares_flows i ss types) (flowing (seen t) out (places.Number n) 0) (shares_ties i ss types) (led out (places.Number n) 0)
      (forms.shares_good parts is outcome types table i ss sides all)
      (sight.good_led parts is outcome types table (seen t) out (places.Number n) 0 see
      (subst (λ (cs : List Contact). sight.Offers parts is outcome types table (places.Number n) 0 cs) (sym (sides_turn_back (contacts_of t)))
      (sight.used_offers parts is outcome types table n t typed)))
  flows_good i j (Under t ss b n m) out (sides, typed, rest) tab all see =
      let i' : ℕ = i + length ss in
      let k : ℕ = i' + length (binder_part b t) in
      let own = after_shares i ss (binder_part b t ++ parts_of types m) all in
      let good = forms.binder_good parts is outcome types table b t (type_of_node m) i' n out typed (front i' (binder_part b t) (parts_of types m) own) see in
      let out' : List Point = binder_out b t i' out in
      two (shares_flows i ss types) (binder_flows b t i' n out ++ flows_of types k (suc j) m out') (shares_ties i ss types)
      (binder_ties b t i' n out ++ ties_of types k (suc j) m out')
      (forms.shares_good parts is outcome types table i ss sides (front i (shares ss types) (binder_part b t ++ parts_of types m) all))
      (two (binder_flows b t i' n out) (flows_of types k (suc j) m out') (binder_ties b t i' n out) (ties_of types k (suc j) m out') good.0
      (flows_good k (suc j) m out' rest tab (behind i' (length (binder_part b t)) (binder_part b t) (parts_of types m) refl own) good.1))
  flows_good i j (One t ss f m) out (sides, typed, rest) (own_tab, tab) all see =
      let i' : ℕ = i + length ss in
      let k : ℕ = i' + length (one_part f t) in
      let own = after_shares i ss (one_part f t ++ parts_of types m) all in
      let good = forms.one_good parts is outcome types table f t (type_of_node m) i' j out typed own_tab (front i' (one_part f t) (parts_of types m) own) see in
      let out' : List Point = one_out f t (type_of_node m) i' j out in
      two (shares_flows i ss types) (one_flows f t i' out ++ flows_of types k (suc j) m out') (shares_ties i ss types)
      (one_ties f i' out ++ ties_of types k (suc j) m out')
      (forms.shares_good parts is outcome types table i ss sides (front i (shares ss types) (one_part f t ++ parts_of types m) all))
      (two (one_flows f t i' out) (flows_of types k (suc j) m out') (one_ties f i' out) (ties_of types k (suc j) m out') good.0
      (flows_good k (suc j) m out' rest tab (behind i' (length (one_part f t)) (one_part f t) (parts_of types m) refl own) good.1))
  flows_good i j (Two t ss f m n) out (sides, typed, rest, restn) (own_tab, tab, tabn) all see =
      let i' : ℕ = i + length ss in
      let u : Type' = type_of_node m in
      let v : Type' = type_of_node n in
      let k : ℕ = i' + length (two_part f t v) in
      let l : ℕ = k + length (parts_of types m) in
      let own = after_shares i ss (two_part f t v ++ (parts_of types m ++ parts_of types n)) all in
      let good =
      forms.two_good parts is outcome types table f t u v i' j out typed own_tab (front i' (two_part f t v) (parts_of types m ++ parts_of types n) own) see
      in
      let inner = behind i' (length (two_part f t v)) (two_part f t v) (parts_of types m ++ parts_of types n) refl own in
      let first : List Point = first_out f u v i' j out in
      let second : List Point = second_out f u v i' j out in
      let left : List Flow = flows_of types k (suc j) m first in
      let right : List Flow = flows_of types l (suc j + nodes m) n second in
      let left_ties : List Tie = ties_of types k (suc j) m first in
      let right_ties : List Tie = ties_of types l (suc j + nodes m) n second in
      two (shares_flows i ss types) (two_flows f t i' out ++ (left ++ right)) (shares_ties i ss types) (two_ties f i' out ++ (left_ties ++ right_ties))
      (forms.shares_good parts is outcome types table i ss sides (front i (shares ss types) (two_part f t v ++ (parts_of types m ++ parts_of types n)) all))
      (two (two_flows f t i' out) (left ++ right) (two_ties f i' out) (left_ties ++ right_ties) good.0
      (two left right left_ties right_ties
      (flows_good k (suc j) m first rest tab (front k (parts_of types m) (parts_of types n) inner) good.1)
      (flows_good l (suc j + nodes m) n second restn tabn (behind k (length (parts_of types m)) (parts_of types m) (parts_of types n) refl inner) good.2)))
  flows_good i j (If t ss m n p) out (sides, typed, rest, restn, restp) (tab, tabn, tabp) all see =
      let i' : ℕ = i + length ss in
      let P = places.Part i' in
      let x : Part = kinds.If (answer_bits t) in
      let inside : List Part = parts_of types m ++ (parts_of types n ++ parts_of types p) in
      let k : ℕ = i' + 1 in
      let l : ℕ = k + length (parts_of types m) in
      let o : ℕ = l + length (parts_of types n) in
      let own : PartsAt i' (x ∷ inside) = after_shares i ss (x ∷ inside) all in
      let good =
      forms.choice_good parts is outcome types table t (type_of_node m) (type_of_node n) (type_of_node p) i' out typed (front i' (x ∷ []) inside own) see
      in
      let inner : PartsAt k inside = behind i' 1 (x ∷ []) inside refl own in
      let later : PartsAt l (parts_of types n ++ parts_of types p) =
      behind k (length (parts_of types m)) (parts_of types m) (parts_of types n ++ parts_of types p) refl inner
      in
      let test : List Flow = flows_of types k (suc j) m (point P 0 ∷ []) in
      let left : List Flow = flows_of types l (suc j + nodes m) n (point P 1 ∷ []) in
      let right : List Flow = flows_of types o (suc j + nodes m + nodes n) p (point P 2 ∷ []) in
      let test_ties : List Tie = ties_of types k (suc j) m (point P 0 ∷ []) in
      let left_ties : List Tie = ties_of types l (suc j + nodes m) n (point P 1 ∷ []) in
      let right_ties : List Tie = ties_of types o (suc j + nodes m + nodes n) p (point P 2 ∷ []) in
      two (shares_flows i ss types) (flowing (seen t) out P 3 ++ (test ++ (left ++ right))) (shares_ties i ss types)
      (led out P 3 ++ (test_ties ++ (left_ties ++ right_ties)))
      (forms.shares_good parts is outcome types table i ss sides (front i (shares ss types) (x ∷ inside) all))
      (two (flowing (seen t) out P 3) (test ++ (left ++ right)) (led out P 3) (test_ties ++ (left_ties ++ right_ties)) good.0
      (two test (left ++ right) test_ties (left_ties ++ right_ties)
      (flows_good k (suc j) m (point P 0 ∷ []) rest tab (front k (parts_of types m) (parts_of types n ++ parts_of types p) inner) good.1)
      (two left right left_ties right_ties
      (flows_good l (suc j + nodes m) n (point P 1 ∷ []) restn tabn (front l (parts_of types n) (parts_of types p) later) good.2)
      (flows_good o (suc j + nodes m + nodes n) p (point P 2 ∷ []) restp tabp
      (behind l (length (parts_of types n)) (parts_of types n) (parts_of types p) refl later) good.3))))

  -- the imports
  abbrev ImportsAt : ℕ → Imports → Type 0
  ImportsAt k xs = (i : ℕ) (x : Imported) → slice_get xs i ≡ Some x → (slice_get is (k + i) ≡ Some x) × (types (k + i) ≡ x.ty)

  pub imports_good : (k : ℕ) (xs : Imports) → ImportsAt k xs → Good (import_flows k xs) (import_ties k xs)
  imports_good k [] all = sight.good_none parts is outcome types table
  imports_good k (x ∷ xs) all =
      let zeros : k + 0 ≡ k = omega arith in
      let here = all 0 x refl in
      let at_k : slice_get is k ≡ Some x = ap (slice_get is) (sym zeros) ∙ here.0 in
      let type : x.ty ≡ types k = sym here.1 ∙ ap types zeros in
      two (flowing (contacts_of x.ty) (row (places.Import k) 0 (count x.ty)) (places.Number k) 0) (import_flows (suc k) xs)
      (led (row (places.Import k) 0 (count x.ty)) (places.Number k) 0) (import_ties (suc k) xs)
      (sight.good_led parts is outcome types table (contacts_of x.ty) (row (places.Import k) 0 (count x.ty)) (places.Number k) 0
      (sight.see_row parts is outcome types table (places.Import k) 0 (contacts_of x.ty) (count x.ty) refl
      (λ h c at. let start : 0 + h ≡ h = omega arith in
      ap (slice_get (contacts_of_import (slice_get is k))) start ∙ (ap (λ o. slice_get (contacts_of_import o) h) at_k ∙ at)))
      (sight.made_offers parts is outcome types table k x.ty type))
      (imports_good (suc k) xs
      (λ i y at. let sum : k + suc i ≡ suc k + i = omega arith in
      let there = all (suc i) y at in (ap (slice_get is) (sym sum) ∙ there.0, ap types (sym sum) ∙ there.1)))
