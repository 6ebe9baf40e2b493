-- One edge from the node that is taken: the last of those that are left.
use Rattle.std.specs.Prelude.{◌≡◌, ◌≢◌, ◌<◌, ◌≤◌, ◌+◌, ◌-◌, ℕ, suc, List, [], ◌∷◌, ◌++◌, length, set, max}
use Rattle.std.proofs.Common.{sym, ◌∙◌, ap, subst, arith, inl, inr}
use Rattle.std.proofs.lemmas.Bool.{cases_eq}
use Rattle.std.proofs.lemmas.List.{length_push, get_or_append_left}
use Rattle.gos_order.specs.declared.links.Way.TheVariants.{Out}
use Rattle.gos_order.specs.Rings.{Graph}
use Rattle.gos_order.specs.inner.NodeLists.{NodeList, at, IsIn}
use Rattle.gos_order.specs.inner.Chains.{near_at, far_at, IsLast}
use Rattle.gos_order.specs.inner.Searches.{Grows}
use Rattle.gos_order.specs.inner.Sortings.{left_amid, AreSorted}
use Rattle.gos_order.proofs.SortingLemmas.{waits_for, is_absent, same_depth, sorted_more}
use Rattle.gos_order.proofs.AmidLemmas.{amid_open, amid_followed, amid_others}

-- a list of nodes with one node more, or as it was, where a number tells which
pub grows_maybe : (old new : NodeList) (node n : ℕ) → new.bound ≡ old.bound → (n ≡ 1 → new.items ≡ old.items ++ node ∷ []) → (n ≢ 1 → new.items ≡ old.items)
    → Grows old new
grows_maybe old new node n bound more same = elim (cases_eq n 1) [
  | inl one ↦ record {
    bound = bound;
    longer = omega (arith, ap length (more one), length_push old.items node);
    same = λ k h. ap (λ (xs : List ℕ). at xs k) (more one) ∙ get_or_append_left old.items (node ∷ []) 0 k h;
  }
  | inr ne ↦ record {
    bound = bound;
    longer = omega (arith, ap length (same ne));
    same = λ k h. ap (λ (xs : List ℕ). at xs k) (same ne);
  }
]

module _ (graph : Graph) (depths waits items : List ℕ) (count node last : ℕ)
    (is : AreSorted graph depths waits items (left_amid graph.edges items count last) (count + 1)) (some : 0 < last) (fits : last ≤ length graph.edges)
    (there : (place : ℕ) → last ≡ place + 1 → near_at Out graph.edges place ≡ node) (inside : count < length items) (here : at items count ≡ node)
    (next : ℕ) (far : next ≡ far_at Out graph.edges (last - 1)) (low : next < graph.nodes) where
  is_last : last ≡ last - 1 + 1
  is_last = omega (arith, some)

  within : last - 1 < length graph.edges
  within = omega (arith, some, fits)

  sorted : AreSorted graph depths waits items (left_amid graph.edges items count (last - 1 + 1)) (count + 1)
  sorted = subst (λ (k : ℕ). AreSorted graph depths waits items (left_amid graph.edges items count k) (count + 1)) is_last is

  near : near_at Out graph.edges (last - 1) ≡ node
  near = there (last - 1) is_last

  open_here : left_amid graph.edges items count (last - 1 + 1) (last - 1) ≡ 1
  open_here = amid_open graph.edges items count node (last - 1) here near (is.once count inside)

  among : IsIn items node
  among = (count, inside, here)

  pub take_left : 0 < at waits next
  take_left =
      waits_for graph depths waits items (left_amid graph.edges items count (last - 1 + 1)) (count + 1) sorted (last - 1) within open_here node next near
      (sym far) low among

  pub take_absent : IsIn items next → ⊥
  take_absent =
      is_absent graph depths waits items (left_amid graph.edges items count (last - 1 + 1)) (count + 1) sorted (last - 1) within open_here node next near
      (sym far) low among

  module _ (new : List ℕ) (more : at waits next ≡ 1 → new ≡ items ++ next ∷ []) (same : at waits next ≢ 1 → new ≡ items)
      (kept : (k : ℕ) → k < length items → at new k ≡ at items k) (depth : ℕ) (deep : depth ≡ suc (at depths node)) (shallow : depth ≤ count + 1)
      (before : ℕ) (is_before : IsLast Out graph.edges (last - 1) node before) where
    take_sorted : AreSorted graph (set depths next (max (at depths next) depth)) (set waits next (at waits next - 1)) new
        (left_amid graph.edges new count before) (count + 1)
    take_sorted =
        sorted_more graph depths waits items (left_amid graph.edges items count (last - 1 + 1)) (count + 1) sorted (last - 1) within open_here node next near
        (sym far) low among new more same depth deep shallow (left_amid graph.edges new count before)
        (amid_followed graph.edges items new count node (last - 1) before inside here near kept is_before)
        (λ place _ other. amid_others graph.edges items new count node (last - 1) before inside here near kept is_before place other)

    take_depth : at (set depths next (max (at depths next) depth)) node ≡ at depths node
    take_depth =
        same_depth graph depths waits items (left_amid graph.edges items count (last - 1 + 1)) (count + 1) sorted (last - 1) within open_here node next near
        (sym far) low among new more same depth deep shallow (left_amid graph.edges new count before)
        (amid_followed graph.edges items new count node (last - 1) before inside here near kept is_before)
        (λ place _ other. amid_others graph.edges items new count node (last - 1) before inside here near kept is_before place other)

    pub taken_sorted : (deeper fewer : List ℕ) → deeper ≡ set depths next (max (at depths next) depth) → fewer ≡ set waits next (at waits next - 1)
        → AreSorted graph deeper fewer new (left_amid graph.edges new count before) (count + 1)
    taken_sorted deeper fewer deep_is few_is =
        subst (λ (xs : List ℕ). AreSorted graph xs fewer new (left_amid graph.edges new count before) (count + 1)) (sym deep_is)
        (subst (λ (xs : List ℕ). AreSorted graph (set depths next (max (at depths next) depth)) xs new (left_amid graph.edges new count before) (count + 1)) (sym few_is)
        take_sorted)

    pub taken_depth : (deeper : List ℕ) → deeper ≡ set depths next (max (at depths next) depth) → depth ≡ suc (at deeper node)
    taken_depth deeper deep_is = deep ∙ ap suc (sym (ap (λ (xs : List ℕ). at xs node) deep_is ∙ take_depth))
