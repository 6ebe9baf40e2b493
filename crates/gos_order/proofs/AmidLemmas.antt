-- Which edges are left while those from a node are followed.
use Rattle.std.specs.Prelude.{◌≡◌, ◌≢◌, ◌⊎◌, ◌<◌, ◌≤◌, ◌+◌, ℕ, suc, Bool, true, false, List, length, nat_lt, if◌then◌else◌}
use Rattle.std.proofs.Common.{sym, ◌∙◌, ap, arith, inl, inr}
use Rattle.std.proofs.lemmas.Bool.Decides.{nat_tests}
use Rattle.gos_order.specs.declared.links.Way.TheVariants.{Out}
use Rattle.gos_order.specs.Rings.{Edge}
use Rattle.gos_order.specs.inner.NodeLists.{at}
use Rattle.gos_order.specs.inner.Chains.{near_at, IsLast}
use Rattle.gos_order.specs.inner.Sortings.{not_among, left_after, left_amid}
use Rattle.gos_order.proofs.AmongLemmas.{not_among_other, not_among_same, not_among_in}

test_below : (a b : ℕ) → a < b → nat_lt a b ≡ true
test_below a b h = grind (arith, nat_tests, h)

test_above : (a b : ℕ) → b ≤ a → nat_lt a b ≡ false
test_above a b h = grind (arith, nat_tests, h)

cases_lt : (a b : ℕ) → (a < b) ⊎ (b ≤ a)
cases_lt a b = grind arith

-- edges before the place, and the others
amid_before : (edges : List Edge) (items : List ℕ) (count last place : ℕ) → place < last
    → left_amid edges items count last place ≡ not_among items count (near_at Out edges place)
amid_before edges items count last place h =
    ap (λ (b : Bool). not_among items (if b then count else suc count) (near_at Out edges place)) (test_below place last h)

amid_behind : (edges : List Edge) (items : List ℕ) (count last place : ℕ) → last ≤ place
    → left_amid edges items count last place ≡ not_among items (suc count) (near_at Out edges place)
amid_behind edges items count last place h =
    ap (λ (b : Bool). not_among items (if b then count else suc count) (near_at Out edges place)) (test_above place last h)

-- none is followed before the last
pub amid_none : (edges : List Edge) (items : List ℕ) (count node last : ℕ) → at items count ≡ node → IsLast Out edges (length edges) node last
    → (place : ℕ) → place < length edges → left_amid edges items count last place ≡ left_after edges items count place
amid_none edges items count node last here is place within = elim (cases_lt place last) [
  | inl before ↦ amid_before edges items count last place before
  | inr behind ↦
      amid_behind edges items count last place behind
      ∙ not_among_other items count (near_at Out edges place) (λ e. is.others place behind within (sym e ∙ here))
]

-- all are followed after the first
pub amid_all : (edges : List Edge) (items : List ℕ) (count place : ℕ) → left_after edges items (count + 1) place ≡ left_amid edges items count 0 place
amid_all edges items count place =
    let next : count + 1 ≡ suc count = omega arith in
    ap (λ (k : ℕ). not_among items k (near_at Out edges place)) next ∙ sym (amid_behind edges items count 0 place (omega arith))

-- the one before the last is left
pub amid_open : (edges : List Edge) (items : List ℕ) (count node edge : ℕ) → at items count ≡ node → near_at Out edges edge ≡ node
    → not_among items count (at items count) ≡ 1 → left_amid edges items count (edge + 1) edge ≡ 1
amid_open edges items count node edge here near once =
    amid_before edges items count (edge + 1) edge (omega arith) ∙ ap (λ (x : ℕ). not_among items count x) (near ∙ sym here) ∙ once

-- it is followed, and the list may grow
module _ (edges : List Edge) (items new : List ℕ) (count node edge next : ℕ) (within : count < length items) (here : at items count ≡ node)
    (near : near_at Out edges edge ≡ node) (kept : (k : ℕ) → k < length items → at new k ≡ at items k) (is : IsLast Out edges edge node next) where
  pub amid_followed : left_amid edges new count next edge ≡ 0
  amid_followed =
      amid_behind edges new count next edge is.within
      ∙ not_among_in new (suc count) count (near_at Out edges edge) (omega arith) (kept count within ∙ here ∙ sym near)

  same_before : (x : ℕ) → not_among new count x ≡ not_among items count x
  same_before x = not_among_same items new count x (λ k h. kept k (omega (arith, h, within)))

  pub amid_others : (place : ℕ) → place ≢ edge → left_amid edges new count next place ≡ left_amid edges items count (edge + 1) place
  amid_others place other = elim (cases_lt place edge) [
    | inl before ↦ elim (cases_lt place next) [
      | inl first ↦
          amid_before edges new count next place first ∙ same_before (near_at Out edges place)
          ∙ sym (amid_before edges items count (edge + 1) place (omega (arith, before)))
      | inr between ↦
          amid_behind edges new count next place between
          ∙ not_among_other new count (near_at Out edges place) (λ e. is.others place between before (sym e ∙ kept count within ∙ here))
          ∙ same_before (near_at Out edges place)
          ∙ sym (amid_before edges items count (edge + 1) place (omega (arith, before)))
    ]
    | inr behind ↦
        amid_behind edges new count next place (omega (arith, behind, is.within))
        ∙ not_among_same items new (suc count) (near_at Out edges place) (λ k h. kept k (omega (arith, h, within)))
        ∙ sym (amid_behind edges items count (edge + 1) place (omega (arith, behind, other)))
  ]
