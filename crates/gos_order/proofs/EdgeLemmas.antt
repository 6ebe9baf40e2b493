-- Edges by their places, and with one edge more.
use Rattle.std.specs.Prelude.{◌≡◌, ◌⊎◌, ◌<◌, ℕ, zero, suc, List, [], ◌∷◌, ◌++◌, length, map}
use Rattle.std.proofs.Common.{refl, subst, arith, inl, inr}
use Rattle.std.proofs.lemmas.List.{length-map, map-append, get_or_push, get_or_append_left}
use Rattle.gos_order.specs.declared.links.Way.{Way}
use Rattle.gos_order.specs.declared.links.Way.TheVariants.{Out, In}
use Rattle.gos_order.specs.Rings.{Edge, Graph, HasEdge, IsInRange, and_edge}
use Rattle.gos_order.specs.inner.Chains.{near, near_at, far_at, HasStep}

edge_at : (edges : List Edge) (place : ℕ) → place < length edges → HasEdge edges (near_at Out edges place) (far_at Out edges place)
edge_at [] place within = absurd (omega (arith, within))
edge_at (edge ∷ edges) zero within = inl (refl, refl)
edge_at (edge ∷ edges) (suc place) within = inr (edge_at edges place (omega (arith, within)))

-- each edge is a step, whichever way it is followed
pub step_at : (way : Way) (edges : List Edge) (place : ℕ) → place < length edges → HasStep way edges (near_at way edges place) (far_at way edges place)
step_at Out edges place within = edge_at edges place within
step_at In edges place within = edge_at edges place within

place_of : (edges : List Edge) (a b : ℕ) → HasEdge edges a b
    → (place : ℕ) × (place < length edges) × (near_at Out edges place ≡ a) × (far_at Out edges place ≡ b)
place_of [] a b h = absurd h
place_of (edge ∷ edges) a b (inl (from, to)) = (0, omega arith, from, to)
place_of (edge ∷ edges) a b (inr h) =
    let (place, within, from, to) = place_of edges a b h in
    (suc place, omega (arith, within), from, to)

-- each step is an edge
pub place_of_step : (way : Way) (edges : List Edge) (a b : ℕ) → HasStep way edges a b
    → (place : ℕ) × (place < length edges) × (near_at way edges place ≡ a) × (far_at way edges place ≡ b)
place_of_step Out edges a b h = place_of edges a b h
place_of_step In edges a b h =
    let (place, within, from, to) = place_of edges b a h in
    (place, within, to, from)

pub far_in_range : (way : Way) (graph : Graph) (place : ℕ) → IsInRange graph → place < length graph.edges → far_at way graph.edges place < graph.nodes
far_in_range Out graph place range within = (range _ _ (step_at Out graph.edges place within)).1
far_in_range In graph place range within = (range _ _ (step_at In graph.edges place within)).0

-- an edge that was there is there with one more
pub has_old : (edges more : List Edge) (a b : ℕ) → HasEdge edges a b → HasEdge (edges ++ more) a b
has_old [] more a b h = absurd h
has_old (edge ∷ edges) more a b (inl is) = inl is
has_old (edge ∷ edges) more a b (inr h) = inr (has_old edges more a b h)

pub has_new : (edges : List Edge) (from to : ℕ) → HasEdge (and_edge edges from to) from to
has_new [] from to = inl (refl, refl)
has_new (edge ∷ edges) from to = inr (has_new edges from to)

-- an edge is the new one, or was there
pub has_either : (edges : List Edge) (from to a b : ℕ) → HasEdge (and_edge edges from to) a b → HasEdge edges a b ⊎ ((from ≡ a) × (to ≡ b))
has_either [] from to a b (inl is) = inr is
has_either [] from to a b (inr h) = absurd h
has_either (edge ∷ edges) from to a b (inl is) = inl (inl is)
has_either (edge ∷ edges) from to a b (inr h) = elim (has_either edges from to a b h) [ inl old ↦ inl (inr old) | inr new ↦ inr new ]

pub range_more : (graph : Graph) (from to : ℕ) → IsInRange graph → from < graph.nodes → to < graph.nodes
    → IsInRange (record { nodes = graph.nodes; edges = and_edge graph.edges from to })
range_more graph from to range first second a b h = elim (has_either graph.edges from to a b h) [
  | inl old ↦ range a b old
  | inr (is_from, is_to) ↦ (subst (λ (x : ℕ). x < graph.nodes) is_from first, subst (λ (x : ℕ). x < graph.nodes) is_to second)
]

pub near_old : (way : Way) (edges : List Edge) (edge : Edge) (place : ℕ) → place < length edges
    → near_at way (edges ++ edge ∷ []) place ≡ near_at way edges place
near_old way edges edge place within =
    let short : place < length (map (near way) edges) = rw length-map within in
    rw map-append (get_or_append_left (map (near way) edges) (near way edge ∷ []) 0 place short)

pub near_new : (way : Way) (edges : List Edge) (edge : Edge) → near_at way (edges ++ edge ∷ []) (length edges) ≡ near way edge
near_new way edges edge = rw map-append (get_or_push (map (near way) edges) (near way edge) 0 (length edges) (length-map edges (near way)))
