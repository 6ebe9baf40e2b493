-- Where no node is ready, all are sorted, and the depths are those of the graph.
use Rattle.std.specs.Prelude.{◌≡◌, ◌≢◌, ◌<◌, ◌≤◌, ◌+◌, ℕ, zero, suc, Bool, List, length, nat_eq, if◌then◌else◌}
use Rattle.std.proofs.Common.{refl, sym, ◌∙◌, ap, subst, arith, inl, inr}
use Rattle.std.proofs.lemmas.Bool.{cases_eq}
use Rattle.gos_order.specs.declared.links.Way.TheVariants.{Out}
use Rattle.gos_order.specs.Rings.{Graph, HasEdge, Leads, along, further, HasRing, IsInRange}
use Rattle.gos_order.specs.Depths.{at, AreDepths}
use Rattle.gos_order.specs.inner.NodeLists.{IsIn}
use Rattle.gos_order.specs.inner.Chains.{near_at, far_at}
use Rattle.gos_order.specs.inner.Sortings.{total, left_after, AreSorted}
use Rattle.gos_order.proofs.EdgeLemmas.{step_at, place_of_step}
use Rattle.gos_order.proofs.LevelLemmas.{in_or_not}
use Rattle.gos_order.proofs.TotalLemmas.{total_less, total_some, total_bounded}
use Rattle.gos_order.proofs.AmongLemmas.{test_same, test_other, not_among_in}

module _ (graph : Graph) (depths waits items : List ℕ) (most : ℕ) (is : AreSorted graph depths waits items (left_after graph.edges items (length items)) most)
    (range : IsInRange graph) (ringless : HasRing graph.edges → ⊥) where
  -- edges from nodes of the list are followed
  followed : (place : ℕ) → IsIn items (near_at Out graph.edges place) → left_after graph.edges items (length items) place ≡ 0
  followed place (k, within, e) = not_among_in items (length items) k (near_at Out graph.edges place) within e

  -- an edge leads to a node that isn't in the list from one that isn't
  from_another : (node : ℕ) → node < graph.nodes → (IsIn items node → ⊥) → (a : ℕ) × HasEdge graph.edges a node × (IsIn items a → ⊥)
  from_another node low absent =
      let left = left_after graph.edges items (length items) in
      let (k, within, part) = total_some (λ place. if nat_eq (far_at Out graph.edges place) node then left place else 0) (length graph.edges)
      (λ none. absent (is.ready node low (is.counted node low ∙ none))) in
      elim (cases_eq (far_at Out graph.edges k) node) [
        | inl e ↦ (
          near_at Out graph.edges k,
          subst (λ (x : ℕ). HasEdge graph.edges (near_at Out graph.edges k) x) e (step_at Out graph.edges k within),
          λ here. part (ap (λ (b : Bool). if b then left k else 0) (test_same (far_at Out graph.edges k) node e) ∙ followed k here),
        )
        | inr ne ↦ absurd (part (ap (λ (b : Bool). if b then left k else 0) (test_other (far_at Out graph.edges k) node ne)))
      ]

  -- The nodes that are met on the way back from such a node are different ones, and there are not so many.
  descent : (steps : ℕ) (seen : ℕ → ℕ) (node : ℕ) → node < graph.nodes → (IsIn items node → ⊥)
      → ((k : ℕ) → 0 < seen k → Leads graph.edges node k) → ((k : ℕ) → seen k ≤ 1) → graph.nodes < steps + total seen graph.nodes → ⊥
  descent zero seen node low absent behind small more = omega (arith, total_bounded seen graph.nodes small, more)
  descent (suc steps) seen node low absent behind small more =
      let (a, step, out) = from_another node low absent in
      let now : ℕ → ℕ = λ k. if nat_eq k node then 1 else seen k in
      let here : now node ≡ 1 = ap (λ (b : Bool). if b then 1 else seen node) (test_same node node refl) in
      let others : (k : ℕ) → k ≢ node → now k ≡ seen k = λ k ne. ap (λ (b : Bool). if b then 1 else seen k) (test_other k node ne) in
      let unseen : seen node ≡ 0 = elim (cases_eq (seen node) 0) [ inl e ↦ e | inr ne ↦ absurd (ringless (node, behind node (omega (arith, ne)))) ] in
      let one_more : total now graph.nodes ≡ suc (total seen graph.nodes) =
      total_less now seen graph.nodes node low (here ∙ ap suc (sym unseen)) (λ k _ ne. others k ne) in
      descent steps now a (range a node step).0 out
      (λ k some. elim (cases_eq k node) [
        | inl e ↦ subst (λ (x : ℕ). Leads graph.edges a x) (sym e) (along a node step)
        | inr ne ↦ further a node k step (behind k (subst (λ (n : ℕ). 0 < n) (others k ne) some))
      ])
      (λ k. elim (cases_eq k node) [
        | inl e ↦ subst (λ (x : ℕ). now x ≤ 1) (sym e) (omega (arith, here))
        | inr ne ↦ subst (λ (n : ℕ). n ≤ 1) (sym (others k ne)) (small k)
      ])
      (omega (arith, more, one_more))

  all_in : (node : ℕ) → node < graph.nodes → IsIn items node
  all_in node low = elim (in_or_not items node) [
    | inl here ↦ here
    | inr absent ↦ absurd (descent (suc graph.nodes) (λ _. 0) node low absent (λ k some. absurd (omega (arith, some))) (λ k. omega arith) (omega arith))
  ]

  pub are_depths : AreDepths graph depths
  are_depths = record {
    all = is.depths_all;
    rise = λ a b edge.
        let (place, within, from, to) = place_of_step Out graph.edges a b edge in
        let here : IsIn items (near_at Out graph.edges place) =
        subst (λ (x : ℕ). IsIn items x) (sym from) (all_in a (range a b edge).0) in
        subst (λ (x : ℕ). at depths x < at depths b) from
        (subst (λ (x : ℕ). at depths (near_at Out graph.edges place) < at depths x) to (is.rise place within (followed place here)));
    least = λ b low. elim (is.least b) [
      | inl none ↦ inl none
      | inr (a, edge, here, e) ↦ inr (a, edge, e)
    ];
  }
