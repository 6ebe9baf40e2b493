-- The graph of directions: its edges with one more behind them, and with those of the directions that aren't kept.
--
-- Read first: Choosing.
use Rattle.std.proofs.Common.{◌≡◌, ◌+◌, ◌<◌, ◌≤◌, ◌⊎◌, ℕ, zero, suc, Bool, true, false, if◌then◌else◌, List, [], ◌∷◌, ◌++◌, length, slice_get, Some, inl, inr, refl, ap, subst, ◌∙◌, arith}
use Rattle.std.proofs.lemmas.Option.{none-some}
use Rattle.gos_expand.specs.inner.Choosing.{GoAcross, linked}
use Rattle.gos_order.specs.Rings as graph
use Rattle.gos_order.specs.Rings.{Edge, HasEdge, and_edge}

-- an edge behind others
pub edge_behind : (edges : List Edge) (x y a b : ℕ) → HasEdge (and_edge edges x y) a b → HasEdge edges a b ⊎ ((x ≡ a) × (y ≡ b))
edge_behind [] x y a b (inl is) = inr is
edge_behind [] x y a b (inr none) = absurd none
edge_behind (e ∷ edges) x y a b (inl is) = inl (inl is)
edge_behind (e ∷ edges) x y a b (inr rest) = elim (edge_behind edges x y a b rest) [ inl h ↦ inl (inr h) | inr h ↦ inr h ]

pub edge_before : (edges : List Edge) (x y a b : ℕ) → HasEdge edges a b → HasEdge (and_edge edges x y) a b
edge_before [] x y a b none = absurd none
edge_before (e ∷ edges) x y a b (inl is) = inl is
edge_before (e ∷ edges) x y a b (inr rest) = inr (edge_before edges x y a b rest)

pub edge_last : (edges : List Edge) (x y : ℕ) → HasEdge (and_edge edges x y) x y
edge_last [] x y = inl (refl, refl)
edge_last (e ∷ edges) x y = inr (edge_last edges x y)

-- edges that go across have no ring
pub across_ringless : (d : ℕ) (edges : List Edge) → GoAcross d edges → graph.HasRing edges → ⊥
across_ringless d edges across (a, graph.along _ _ edge) = let sides = across a a edge in omega (arith, sides.0, sides.1)
across_ringless d edges across (a, graph.further _ m _ edge rest) =
    let first = across a m edge in
    let next = begins rest in
    omega (arith, first.1, next)
  where
    begins : {x y : ℕ} → graph.Leads edges x y → x < d
    begins (graph.along x y e) = (across x y e).0
    begins (graph.further x m y e path) = (across x m e).0

pub across_more : (d : ℕ) (edges : List Edge) (a b : ℕ) → GoAcross d edges → a < d → d ≤ b → GoAcross d (and_edge edges a b)
across_more d edges a b across low high x y edge = by_last (edge_behind edges a b x y edge)
  where
    by_last : HasEdge edges x y ⊎ ((a ≡ x) × (b ≡ y)) → (x < d) × (d ≤ y)
    by_last (inl old) = across x y old
    by_last (inr (e, f)) = (omega (arith, e, low), omega (arith, f, high))

-- the edges of directions that aren't kept
pub record IsLeftOut (d n : ℕ) (keeps : List Bool) (a b : ℕ) : Type 0 where
  pub place : ℕ
  pub is : slice_get keeps place ≡ Some false
  pub from : a ≡ d + (n + place)
  pub to : b ≡ n + place

pub linked_edges : (d : ℕ) (edges : List Edge) (n : ℕ) (keeps : List Bool) (a b : ℕ) → HasEdge (linked d edges n keeps) a b
    → HasEdge edges a b ⊎ IsLeftOut d n keeps a b
linked_edges d edges n [] a b edge = inl edge
linked_edges d edges n (keep ∷ keeps) a b edge = by_rest keep refl (linked_edges d (if keep then edges else and_edge edges (d + n) n) (suc n) keeps a b edge)
  where
    later : IsLeftOut d (suc n) keeps a b → IsLeftOut d n (keep ∷ keeps) a b
    later x =
        let from = x.from in
        let to = x.to in
        record { place = suc x.place; is = x.is; from = omega (arith, from); to = omega (arith, to) }

    by_rest : (k : Bool) → keep ≡ k → HasEdge (if k then edges else and_edge edges (d + n) n) a b ⊎ IsLeftOut d (suc n) keeps a b
        → HasEdge edges a b ⊎ IsLeftOut d n (keep ∷ keeps) a b
    by_rest true is (inl edge) = inl edge
    by_rest false is (inl edge) =
        elim (edge_behind edges (d + n) n a b edge) [
          | inl before ↦ inl before
          | inr last ↦ inr
              (let from = last.0 in
              let to = last.1 in
              record { place = 0; is = ap (λ (x : Bool). Some x) is; from = omega (arith, from); to = omega (arith, to) })
        ]
    by_rest k is (inr x) = inr (later x)

pub edges_kept : (d : ℕ) (edges : List Edge) (n : ℕ) (keeps : List Bool) (a b : ℕ) → HasEdge edges a b → HasEdge (linked d edges n keeps) a b
edges_kept d edges n [] a b edge = edge
edges_kept d edges n (true ∷ keeps) a b edge = edges_kept d edges (suc n) keeps a b edge
edges_kept d edges n (false ∷ keeps) a b edge = edges_kept d (and_edge edges (d + n) n) (suc n) keeps a b (edge_before edges (d + n) n a b edge)

pub edge_linked : (d : ℕ) (edges : List Edge) (n : ℕ) (keeps : List Bool) (place : ℕ) → slice_get keeps place ≡ Some false
    → HasEdge (linked d edges n keeps) (d + (n + place)) (n + place)
edge_linked d edges n [] place is = absurd (none-some false is)
edge_linked d edges n (true ∷ keeps) zero is = cc is
edge_linked d edges n (false ∷ keeps) zero is =
    let e : n ≡ n + 0 = omega arith in
    edges_kept d (and_edge edges (d + n) n) (suc n) keeps (d + (n + 0)) (n + 0)
    (subst (λ (m : ℕ). HasEdge (and_edge edges (d + n) n) (d + m) m) e (edge_last edges (d + n) n))
edge_linked d edges n (keep ∷ keeps) (suc place) is =
    let e : suc n + place ≡ n + suc place = omega arith in
    subst (λ (m : ℕ). HasEdge (linked d edges n (keep ∷ keeps)) (d + m) m) e
    (edge_linked d (if keep then edges else and_edge edges (d + n) n) (suc n) keeps place is)

pub linked_more : (d : ℕ) (edges : List Edge) (n : ℕ) (keeps : List Bool) (k : Bool)
    → linked d edges n (keeps ++ k ∷ [])
    ≡ (if k then linked d edges n keeps else and_edge (linked d edges n keeps) (d + (n + length keeps)) (n + length keeps))
linked_more d edges n [] true = refl
linked_more d edges n [] false = ap (λ (m : ℕ). and_edge edges (d + m) m) (omega arith)
linked_more d edges n (x ∷ keeps) true = linked_more d (if x then edges else and_edge edges (d + n) n) (suc n) keeps true
linked_more d edges n (x ∷ keeps) false =
    let e : suc n + length keeps ≡ n + suc (length keeps) = omega arith in
    linked_more d (if x then edges else and_edge edges (d + n) n) (suc n) keeps false
    ∙ ap (λ (m : ℕ). and_edge (linked d (if x then edges else and_edge edges (d + n) n) (suc n) keeps) (d + m) m) e
