-- A search from a node: what it does with the edges that it follows, and what is known when it ends.
--
-- Read first: NodeLists, Chains.
use Rattle.std.specs.Prelude.{◌≡◌, ◌⊎◌, ◌<◌, ◌≤◌, ℕ, List, length}
use Rattle.gos_order.specs.declared.links.Way.{Way}
use Rattle.gos_order.specs.declared.links.Way.TheVariants.{Out, In}
use Rattle.gos_order.specs.Rings.{Edge, Leads}
use Rattle.gos_order.specs.inner.NodeLists.{NodeList, at, IsIn}
use Rattle.gos_order.specs.inner.Chains.{HasStep}

-- which way edges are followed, to nodes of which levels, and which nodes are not to be met
pub record Task : Type 0 where
  pub way : Way
  pub limit : ℕ
  pub edges : List Edge
  pub levels : List ℕ
  pub apart : List ℕ

-- levels below the limit on the way out, and the others on the way in
abbrev pub IsOnWay : Way → ℕ → ℕ → Type 0
IsOnWay Out limit level = level < limit
IsOnWay In limit level = limit ≤ level

-- the search goes on from this node
abbrev pub IsWanted : Task → ℕ → Type 0
IsWanted task node = IsOnWay task.way task.limit (at task.levels node)

-- a path that is followed this way leads from a to b
abbrev pub LeadsOn : Way → List Edge → ℕ → ℕ → Type 0
LeadsOn Out edges a b = Leads edges a b
LeadsOn In edges a b = Leads edges b a

-- a node that the search may hold: it is the start or lies behind it, is wanted, and is not to be met
pub record IsHeld (task : Task) (start node : ℕ) : Type 0 where
  pub leads : (start ≡ node) ⊎ LeadsOn task.way task.edges start node
  pub wanted : IsWanted task node
  pub other : IsIn task.apart node → ⊥

abbrev pub AreHeld : Task → ℕ → List ℕ → Type 0
AreHeld task start items = (node : ℕ) → IsIn items node → IsHeld task start node

-- a path leads to a node that is not to be met
abbrev pub IsMet : Task → ℕ → Type 0
IsMet task start = (node : ℕ) × IsIn task.apart node × LeadsOn task.way task.edges start node

-- a node to which an edge leads is not one that is not to be met, and stands in the list if it is wanted
pub record IsDone (task : Task) (items : List ℕ) (next : ℕ) : Type 0 where
  pub other : IsIn task.apart next → ⊥
  pub reached : IsWanted task next → IsIn items next

-- all edges at the node are followed
abbrev pub IsFollowed : Task → List ℕ → ℕ → Type 0
IsFollowed task items node = (next : ℕ) → HasStep task.way task.edges node next → IsDone task items next

abbrev pub AreFollowed : Task → List ℕ → Type 0
AreFollowed task items = (node : ℕ) → IsIn items node → IsFollowed task items node

-- the list is as it was, and more
pub record Grows (old new : NodeList) : Type 0 where
  pub bound : new.bound ≡ old.bound
  pub longer : length old.items ≤ length new.items
  pub same : (place : ℕ) → place < length old.items → at new.items place ≡ at old.items place
