-- The names and inputs of the ports so far, and of one more.
use Rattle.std.specs.Prelude.{◌≡◌, ◌≢◌, ℕ, zero, suc, ◌+◌, Bool, true, false, ◌||◌, not, List, [], ◌∷◌, ◌++◌, take, Some, slice_get}
use Rattle.std.specs.List.{list_any}
use Rattle.std.specs.Str.{bytes_eq}
use Rattle.std.specs.HashSet.{HashSet, PutsKey}
use Rattle.std.proofs.lemmas.List.Sorted.{list_any-IsPermutation}
use Rattle.std.proofs.Common.{arith, refl, sym, ap, subst, ◌∙◌, add-one, Bor}
use Rattle.std.proofs.lemmas.Slice.Eq.{bytes_eq-Decides}
use Rattle.std.proofs.lemmas.List.{append_assoc, append-nil}
use Rattle.std.proofs.lemmas.List.Folds.{list_any-append}
use Rattle.std.proofs.lemmas.Option.{same_Some}
use Rattle.gos_netlist.specs.Nets.{NetPort}
use Rattle.gos_netcheck.specs.Rules.{KeptBefore}
use Rattle.gos_netcheck.specs.PortRules.{inputs_of, all_inputs}
use Rattle.gos_netcheck.specs.inner.PortSearch.{has_name, is_named, HasNames, AreTaken}
use Rattle.gos_netcheck.proofs.TurnLemmas.{take_one_more}

or_true : (x y : Bool) → (x || y) ≡ true → x ≡ false → y ≡ true
or_true true y e f = absurd cc
or_true false y e f = e

or_false : (x y : Bool) → (x || y) ≡ false → (x ≡ false) × (y ≡ false)
or_false true y e = absurd cc
or_false false y e = (refl, e)

or_turned : (x y : Bool) → (x || y) ≡ (y || (x || false))
or_turned true true = refl
or_turned true false = refl
or_turned false true = refl
or_turned false false = refl

pub not_false : (x : Bool) → false ≡ not x → x ≡ true
not_false true e = refl
not_false false e = absurd cc

pub not_true : (x : Bool) → true ≡ not x → x ≡ false
not_true true e = absurd cc
not_true false e = refl

differs : (b : List ℕ) (name : List ℕ) → bytes_eq b name ≡ false → name ≢ b
differs b name e same =
    let is : bytes_eq b name ≡ true = (bytes_eq-Decides b name).1 (sym same) in
    let no : false ≡ true = sym e ∙ is in
    cc

tested : (b name : List ℕ) → name ≢ b → bytes_eq b name ≡ false
tested b name h = by_test (bytes_eq b name) refl
  where
    by_test : (t : Bool) → bytes_eq b name ≡ t → bytes_eq b name ≡ false
    by_test false e = e
    by_test true e = absurd (h (sym ((bytes_eq-Decides b name).0 e)))

-- a name that is new stands in no port before
pub unnamed_before : (ports : List NetPort) (k : ℕ) (b : List ℕ) → is_named (take k ports) b ≡ false
    → KeptBefore (λ _ (q : NetPort). q.name ≢ b) ports k
unnamed_before ports zero b none j q l is = absurd (omega (arith, l))
unnamed_before [] (suc k) b none j q l is = absurd cc
unnamed_before (p ∷ ports) (suc k) b none zero q l is =
    let P : NetPort → Type 0 = λ r. r.name ≢ b in
    subst P (same_Some p q is) (differs b p.name (or_false (bytes_eq b p.name) _ none).0)
unnamed_before (p ∷ ports) (suc k) b none (suc j) q l is =
    unnamed_before ports k b (or_false (bytes_eq b p.name) _ none).1 j q (omega (arith, l)) is

-- and a name that isn't stands in one
pub named_before : (ports : List NetPort) (k : ℕ) (b : List ℕ) → is_named (take k ports) b ≡ true
    → KeptBefore (λ _ (q : NetPort). q.name ≢ b) ports k → ⊥
named_before ports zero b some none = let no : false ≡ true = some in cc
named_before [] (suc k) b some none = let no : false ≡ true = some in cc
named_before (p ∷ ports) (suc k) b some none =
    named_before ports k b (or_true (bytes_eq b p.name) _ some (tested b p.name (none zero p (omega arith) refl)))
    (λ j q l is. none (suc j) q (omega (arith, l)) is)

-- a set of keys with bytes, and a new one
pub put_name : {K S : Type 0} (bytes : K → List ℕ) (old new : HashSet K S) (key : K) (added : Bool) → PutsKey old new key added → added ≡ true
    → (b : List ℕ) → list_any (λ k. bytes_eq b (bytes k)) new.keys ≡ (bytes_eq b (bytes key) || list_any (λ k. bytes_eq b (bytes k)) old.keys)
put_name bytes old new key true puts is_new b = sym (list_any-IsPermutation (λ k. bytes_eq b (bytes k)) (key ∷ old.keys) new.keys puts)
put_name bytes old new key false puts is_new b = absurd (let never : false ≡ true = is_new in cc)

pub names_more : {S : Type 0} (old new : HashSet (Bor (List ℕ)) S) (ports : List NetPort) (k : ℕ) (p : NetPort) → slice_get ports k ≡ Some p
    → HasNames old (take k ports) → ((b : List ℕ) → has_name new b ≡ (bytes_eq b p.name || has_name old b)) → HasNames new (take (k + 1) ports)
names_more old new ports k p at so_far adds b =
    let test : NetPort → Bool = λ q. bytes_eq b q.name in
    let longer : take (k + 1) ports ≡ take k ports ++ p ∷ [] = ap (λ (n : ℕ). take n ports) (add-one k) ∙ take_one_more ports k p at in
    adds b ∙ ap (λ (t : Bool). bytes_eq b p.name || t) (so_far b)
    ∙ or_turned (bytes_eq b p.name) (is_named (take k ports) b)
    ∙ sym (list_any-append test (take k ports) (p ∷ []))
    ∙ ap (λ (qs : List NetPort). is_named qs b) (sym longer)

inputs_append : (ports : List NetPort) (p : NetPort) → all_inputs (ports ++ p ∷ []) ≡ all_inputs ports ++ inputs_of p
inputs_append [] p = append-nil (inputs_of p)
inputs_append (q ∷ ports) p = ap (λ xs. inputs_of q ++ xs) (inputs_append ports p) ∙ sym (append_assoc (inputs_of q) (all_inputs ports) (inputs_of p))

-- the inputs of the ports so far and of one more
pub inputs_so_far : (ports : List NetPort) (k : ℕ) (p : NetPort) → slice_get ports k ≡ Some p
    → all_inputs (take (k + 1) ports) ≡ all_inputs (take k ports) ++ inputs_of p
inputs_so_far ports k p at =
    ap (λ (n : ℕ). all_inputs (take n ports)) (add-one k) ∙ ap all_inputs (take_one_more ports k p at) ∙ inputs_append (take k ports) p

pub taken_so_far : (taken : List Bool) (ports : List NetPort) (k : ℕ) (p : NetPort) → slice_get ports k ≡ Some p
    → AreTaken taken (all_inputs (take k ports) ++ inputs_of p) → AreTaken taken (all_inputs (take (k + 1) ports))
taken_so_far taken ports k p at marks =
    let P : List ℕ → Type 0 = λ xs. AreTaken taken xs in
    subst P (sym (inputs_so_far ports k p at)) marks
