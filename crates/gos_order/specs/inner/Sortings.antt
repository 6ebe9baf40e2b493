-- How far the nodes of a graph are sorted: which edges are left, and what is known of each node.
--
-- Read first: NodeLists, Chains.
use Rattle.std.specs.Prelude.{◌≡◌, ◌⊎◌, ◌+◌, ◌<◌, ◌≤◌, ℕ, zero, suc, List, length, nat_eq, nat_lt, if◌then◌else◌}
use Rattle.gos_order.specs.declared.links.Way.TheVariants.{Out}
use Rattle.gos_order.specs.Rings.{Edge, Graph, HasEdge}
use Rattle.gos_order.specs.inner.NodeLists.{at, IsIn}
use Rattle.gos_order.specs.inner.Chains.{near_at, far_at}

-- the sum of what a function gives below a bound
abbrev pub total : (ℕ → ℕ) → ℕ → ℕ
total f zero = 0
total f (suc n) = f n + total f n

-- 0 if the node is among so many first ones of a list, and 1 if it isn't
abbrev pub not_among : List ℕ → ℕ → ℕ → ℕ
not_among items zero node = 1
not_among items (suc count) node = if nat_eq (at items count) node then 0 else not_among items count node

-- how many edges to a node are left, where 1 is given for the place of each edge that is, and 0 for another
abbrev pub left_to : List Edge → (ℕ → ℕ) → ℕ → ℕ
left_to edges left node = total (λ place. if nat_eq (far_at Out edges place) node then left place else 0) (length edges)

-- the edges are left that don't begin at so many first nodes of a list
abbrev pub left_after : List Edge → List ℕ → ℕ → ℕ → ℕ
left_after edges items count place = not_among items count (near_at Out edges place)

-- but of those that begin at the node behind them, the edges before a place are left too
abbrev pub left_amid : List Edge → List ℕ → ℕ → ℕ → ℕ → ℕ
left_amid edges items count last place = not_among items (if nat_lt place last then count else suc count) (near_at Out edges place)

-- What is known of each node: how many edges to it are left, and how deep it lies by the others. The nodes to which none
-- is left stand in the list, each once.
pub record AreSorted (graph : Graph) (depths waits items : List ℕ) (left : ℕ → ℕ) (most : ℕ) : Type 0 where
  pub depths_all : length depths ≡ graph.nodes
  pub waits_all : length waits ≡ graph.nodes
  pub counted : (node : ℕ) → node < graph.nodes → at waits node ≡ left_to graph.edges left node
  pub ready : (node : ℕ) → node < graph.nodes → at waits node ≡ 0 → IsIn items node
  pub idle : (node : ℕ) → IsIn items node → at waits node ≡ 0
  pub once : (place : ℕ) → place < length items → not_among items place (at items place) ≡ 1
  pub rise : (place : ℕ) → place < length graph.edges → left place ≡ 0 → at depths (near_at Out graph.edges place) < at depths (far_at Out graph.edges place)
  pub from : (place : ℕ) → place < length graph.edges → left place ≡ 0 → IsIn items (near_at Out graph.edges place)
  pub least : (b : ℕ) → (at depths b ≡ 0) ⊎ ((a : ℕ) × HasEdge graph.edges a b × IsIn items a × (at depths b ≡ suc (at depths a)))
  pub low : (node : ℕ) → at depths node ≤ most

-- the nodes before a place are taken, and no edge from another node is followed
abbrev pub AreTaken : Graph → List ℕ → List ℕ → List ℕ → ℕ → Type 0
AreTaken graph depths waits items count = AreSorted graph depths waits items (left_after graph.edges items count) count
