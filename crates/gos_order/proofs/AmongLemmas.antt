-- The first nodes of a list: who is among them; and a list with one node more.
use Rattle.std.specs.Prelude.{◌≡◌, ◌≢◌, ◌⊎◌, ◌<◌, ◌≤◌, ℕ, zero, suc, Bool, true, false, List, [], ◌∷◌, ◌++◌, length, nat_eq, if◌then◌else◌}
use Rattle.std.proofs.Common.{refl, sym, ◌∙◌, ap, subst, arith, inl, inr}
use Rattle.std.proofs.lemmas.Bool.Decides.{nat_tests}
use Rattle.std.proofs.lemmas.Bool.{cases_eq}
use Rattle.std.proofs.lemmas.List.{length_push, get_or_push, get_or_append_left}
use Rattle.gos_order.specs.inner.NodeLists.{at, IsIn}
use Rattle.gos_order.specs.inner.Sortings.{not_among}

pub test_same : (a b : ℕ) → a ≡ b → nat_eq a b ≡ true
test_same a b e = grind (arith, nat_tests, e)

pub test_other : (a b : ℕ) → a ≢ b → nat_eq a b ≡ false
test_other a b ne = grind (arith, nat_tests, ne)

pub not_among_here : (items : List ℕ) (count node : ℕ) → at items count ≡ node → not_among items (suc count) node ≡ 0
not_among_here items count node e = ap (λ (b : Bool). if b then 0 else not_among items count node) (test_same (at items count) node e)

pub not_among_other : (items : List ℕ) (count node : ℕ) → at items count ≢ node → not_among items (suc count) node ≡ not_among items count node
not_among_other items count node ne = ap (λ (b : Bool). if b then 0 else not_among items count node) (test_other (at items count) node ne)

-- it's a matter of the first ones alone
pub not_among_same : (old new : List ℕ) (count node : ℕ) → ((k : ℕ) → k < count → at new k ≡ at old k) → not_among new count node ≡ not_among old count node
not_among_same old new zero node same = refl
not_among_same old new (suc count) node same =
    let here : at new count ≡ at old count = same count (omega arith) in
    let rest : not_among new count node ≡ not_among old count node = not_among_same old new count node (λ k h. same k (omega (arith, h))) in
    λ i. if nat_eq (here i) node then 0 else rest i

pub not_among_absent : (items : List ℕ) (count node : ℕ) → count ≤ length items → (IsIn items node → ⊥) → not_among items count node ≡ 1
not_among_absent items zero node within absent = refl
not_among_absent items (suc count) node within absent =
    not_among_other items count node (λ e. absent (count, omega (arith, within), e))
    ∙ not_among_absent items count node (omega (arith, within)) absent

pub not_among_in : (items : List ℕ) (count place node : ℕ) → place < count → at items place ≡ node → not_among items count node ≡ 0
not_among_in items zero place node within is = absurd (omega (arith, within))
not_among_in items (suc count) place node within is = elim (cases_eq (at items count) node) [
  | inl e ↦ not_among_here items count node e
  | inr ne ↦
      let before : place ≢ count = λ e. ne (subst (λ (k : ℕ). at items k ≡ node) e is) in
      not_among_other items count node ne ∙ not_among_in items count place node (omega (arith, within, before)) is
]

-- a node of a list is in a longer one
pub in_longer : (items : List ℕ) (node x : ℕ) → IsIn items x → IsIn (items ++ node ∷ []) x
in_longer items node x (k, within, e) = (k, omega (arith, within, length_push items node), get_or_append_left items (node ∷ []) 0 k within ∙ e)

-- so is the node that was put there
pub in_pushed : (items : List ℕ) (node : ℕ) → IsIn (items ++ node ∷ []) node
in_pushed items node = (length items, omega (arith, length_push items node), get_or_push items node 0 (length items) refl)

pub only_pushed : (items : List ℕ) (node x : ℕ) → IsIn (items ++ node ∷ []) x → IsIn items x ⊎ (x ≡ node)
only_pushed items node x (k, within, e) = elim (cases_eq k (length items)) [
  | inl last ↦ inr (sym e ∙ get_or_push items node 0 k (sym last))
  | inr ne ↦
      let before : k < length items = omega (arith, within, ne, length_push items node) in
      inl (k, before, sym (get_or_append_left items (node ∷ []) 0 k before) ∙ e)
]

-- each node stands there once, with another node too
pub once_pushed : (items : List ℕ) (node : ℕ) → (IsIn items node → ⊥) → ((k : ℕ) → k < length items → not_among items k (at items k) ≡ 1)
    → (k : ℕ) → k < length (items ++ node ∷ []) → not_among (items ++ node ∷ []) k (at (items ++ node ∷ []) k) ≡ 1
once_pushed items node absent once k within = elim (cases_eq k (length items)) [
  | inl last ↦
      let here : at (items ++ node ∷ []) k ≡ node = get_or_push items node 0 k (sym last) in
      ap (λ (x : ℕ). not_among (items ++ node ∷ []) k x) here
      ∙ not_among_same items (items ++ node ∷ []) k node (λ j low. get_or_append_left items (node ∷ []) 0 j (omega (arith, low, last)))
      ∙ not_among_absent items k node (omega (arith, last)) absent
  | inr ne ↦
      let before : k < length items = omega (arith, within, ne, length_push items node) in
      let here : at (items ++ node ∷ []) k ≡ at items k = get_or_append_left items (node ∷ []) 0 k before in
      ap (λ (x : ℕ). not_among (items ++ node ∷ []) k x) here
      ∙ not_among_same items (items ++ node ∷ []) k (at items k) (λ j low. get_or_append_left items (node ∷ []) 0 j (omega (arith, low, before)))
      ∙ once k before
]
