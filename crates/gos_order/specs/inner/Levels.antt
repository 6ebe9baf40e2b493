-- Levels that never fall along an edge, and what makes room for one edge more.
--
-- Read first: NodeLists.
use Rattle.std.specs.Prelude.{◌≡◌, ◌⊎◌, ◌+◌, ◌<◌, ◌≤◌, ℕ, List, length}
use Rattle.gos_order.specs.Rings.{Edge, HasEdge, Leads}
use Rattle.gos_order.specs.inner.NodeLists.{at, IsIn}

-- no edge leads to a lower level
abbrev pub AreRising : List Edge → List ℕ → Type 0
AreRising edges levels = (a b : ℕ) → HasEdge edges a b → at levels a ≤ at levels b

-- Nodes from which a node is reached, among them that node: of those whose level is the limit or higher, all.
pub record AreBefore (edges : List Edge) (levels : List ℕ) (items : List ℕ) (node limit : ℕ) : Type 0 where
  pub among : IsIn items node
  pub leads : (a : ℕ) → IsIn items a → (node ≡ a) ⊎ Leads edges a node
  pub all : (a b : ℕ) → HasEdge edges a b → IsIn items b → limit ≤ at levels a → IsIn items a
  pub low : at levels node ≤ limit
  pub high : limit ≤ at levels node + 1

-- Nodes from which no edge leads to another node of a level below the limit, among them a node if its level is below.
pub record AreBehind (edges : List Edge) (levels : List ℕ) (items : List ℕ) (node limit : ℕ) : Type 0 where
  pub among : IsIn items node ⊎ (limit ≤ at levels node)
  pub all : (a b : ℕ) → HasEdge edges a b → IsIn items a → at levels b < limit → IsIn items b

-- the nodes have levels below the limit
abbrev pub AreBelow : List ℕ → List ℕ → ℕ → Type 0
AreBelow levels items limit = (a : ℕ) → IsIn items a → at levels a < limit

-- With these nodes raised to this level there is room for an edge between two nodes, which closes no ring.
pub record MakesRoom (edges : List Edge) (levels : List ℕ) (items : List ℕ) (from to limit : ℕ) : Type 0 where
  pub behind : AreBehind edges levels items to limit
  pub rises : (a : ℕ) → IsIn items a → at levels a ≤ limit
  pub other : IsIn items from → ⊥
  pub low : at levels from ≤ limit
  pub high : limit ≤ at levels from + 1
  pub apart : Leads edges to from → ⊥

-- the nodes have this level now, and the others the one that they had
pub record AreRaised (items : List ℕ) (level : ℕ) (old new : List ℕ) : Type 0 where
  pub length : length new ≡ length old
  pub raised : (node : ℕ) → IsIn items node → at new node ≡ level
  pub others : (node : ℕ) → (IsIn items node → ⊥) → at new node ≡ at old node
