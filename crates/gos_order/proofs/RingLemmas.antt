-- Paths and rings with one edge more.
use Rattle.std.specs.Prelude.{◌≡◌, ◌≢◌, ◌⊎◌, ◌++◌, ◌∷◌, [], ℕ, List}
use Rattle.std.proofs.Common.{sym, subst, inl, inr}
use Rattle.gos_order.specs.Rings.{Edge, HasEdge, Leads, along, further, HasRing, and_edge}
use Rattle.gos_order.proofs.EdgeLemmas.{has_old, has_new, has_either}

-- a path and then another one
pub leads_twice : (edges : List Edge) (a b c : ℕ) → Leads edges a b → Leads edges b c → Leads edges a c
leads_twice edges a b c (along _ _ edge) second = further a b c edge second
leads_twice edges a b c (further _ x _ edge path) second = further a x c edge (leads_twice edges x b c path second)

-- a path is one among more edges
pub leads_more : (edges more : List Edge) (a b : ℕ) → Leads edges a b → Leads (edges ++ more) a b
leads_more edges more a b (along _ _ edge) = along a b (has_old edges more a b edge)
leads_more edges more a b (further _ x _ edge path) = further a x b (has_old edges more a x edge) (leads_more edges more x b path)

-- an edge from a node to itself is a ring
pub ring_of_same : (edges : List Edge) (from to : ℕ) → from ≡ to → HasRing (and_edge edges from to)
ring_of_same edges from to same = (
  from,
  along from from (subst (λ (x : ℕ). HasEdge (and_edge edges from to) from x) (sym same) (has_new edges from to)),
)

-- so is one that leads back to where a path begins
pub ring_of_path : (edges : List Edge) (from to : ℕ) → Leads edges to from → HasRing (and_edge edges from to)
ring_of_path edges from to path =
    (from, further from to from (has_new edges from to) (leads_more edges (record { from = from; to = to } ∷ []) to from path))

-- the same node, or one to which a path leads
abbrev Reaches : List Edge → ℕ → ℕ → Type 0
Reaches edges a b = (a ≡ b) ⊎ Leads edges a b

reaches_both : (edges : List Edge) (a b c : ℕ) → Reaches edges a b → Reaches edges b c → Reaches edges a c
reaches_both edges a b c (inl same) second = subst (λ (x : ℕ). Reaches edges x c) (sym same) second
reaches_both edges a b c (inr path) (inl same) = inr (subst (λ (x : ℕ). Leads edges a x) same path)
reaches_both edges a b c (inr path) (inr more) = inr (leads_twice edges a b c path more)

-- a path with the new edge among the edges has no new edge, or leads to where it begins and on from where it ends
leads_either : (edges : List Edge) (from to a b : ℕ) → Leads (and_edge edges from to) a b → Leads edges a b ⊎ (Reaches edges a from × Reaches edges to b)
leads_either edges from to a b (along _ _ edge) = elim (has_either edges from to a b edge) [
  | inl old ↦ inl (along a b old)
  | inr (is_from, is_to) ↦ inr (inl (sym is_from), inl is_to)
]
leads_either edges from to a b (further _ x _ edge path) =
    by (has_either edges from to a x edge) (leads_either edges from to x b path)
  where
    by : HasEdge edges a x ⊎ ((from ≡ a) × (to ≡ x)) → Leads edges x b ⊎ (Reaches edges x from × Reaches edges to b)
        → Leads edges a b ⊎ (Reaches edges a from × Reaches edges to b)
    by (inl old) (inl rest) = inl (further a x b old rest)
    by (inl old) (inr (first, second)) = inr (reaches_both edges a x from (inr (along a x old)) first, second)
    by (inr (is_from, is_to)) (inl rest) = inr (inl (sym is_from), inr (subst (λ (y : ℕ). Leads edges y b) (sym is_to) rest))
    by (inr (is_from, is_to)) (inr (first, second)) = inr (inl (sym is_from), second)

-- the new edge closes no ring, if no path leads back
pub ringless_more : (edges : List Edge) (from to : ℕ) → (HasRing edges → ⊥) → from ≢ to → (Leads edges to from → ⊥) → HasRing (and_edge edges from to) → ⊥
ringless_more edges from to ringless other apart (a, ring) = elim (leads_either edges from to a a ring) [
  | inl old ↦ ringless (a, old)
  | inr (first, second) ↦ elim (reaches_both edges to a from second first) [
    | inl same ↦ other (sym same)
    | inr path ↦ apart path
  ]
]
