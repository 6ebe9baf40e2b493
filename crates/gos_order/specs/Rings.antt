-- Rings of a directed graph.
use Rattle.std.specs.Prelude.{◌≡◌, ◌<◌, ◌⊎◌, ℕ, List, [], ◌∷◌, ◌++◌}

-- an edge leads from one node to another, or to the same
pub record Edge : Type 0 where
  pub from : ℕ
  pub to : ℕ

-- so many nodes, numbered from 0, and the edges between them
pub record Graph : Type 0 where
  pub nodes : ℕ
  pub edges : List Edge

-- one of the edges leads from a to b
abbrev pub HasEdge : List Edge → ℕ → ℕ → Type 0
HasEdge [] a b = ⊥
HasEdge (edge ∷ edges) a b = ((edge.from ≡ a) × (edge.to ≡ b)) ⊎ HasEdge edges a b

-- a path of one edge or more leads from a to b
pub data Leads (edges : List Edge) : ℕ → ℕ → Type 0 where
  along : (a b : ℕ) → HasEdge edges a b → Leads edges a b
  further : (a b c : ℕ) → HasEdge edges a b → Leads edges b c → Leads edges a c

-- some node leads to itself
abbrev pub HasRing : List Edge → Type 0
HasRing edges = (a : ℕ) × Leads edges a a

-- each edge leads from a node to a node
abbrev pub IsInRange : Graph → Type 0
IsInRange graph = (a b : ℕ) → HasEdge graph.edges a b → (a < graph.nodes) × (b < graph.nodes)

-- the edges, and then this one
abbrev pub and_edge : List Edge → ℕ → ℕ → List Edge
and_edge edges from to = edges ++ record { from = from; to = to } ∷ []
