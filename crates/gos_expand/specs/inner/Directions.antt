-- The graph in which rings of handshakes are searched: where each direction of a joint arrives, and where it leaves.
--
-- Read first: Rings; Rings of gos_order. Of n directions, direction d arrives at node d and leaves at node n + d. What arrives
-- at a part leads to what leaves it, where it passes; what leaves by a direction without registers leads to where it arrives.
use Rattle.std.specs.Prelude.{◌≡◌, ◌↔◌, ◌⊎◌, List, ◌+◌, ◌<◌, ℕ, false, true, length, Some, slice_get}
use Rattle.gos_types.specs.Events.{Direction}
use Rattle.gos_plan.specs.Kinds.{Part, part_contacts}
use Rattle.gos_plan.specs.Plans.{End, PartEnd, Joint, Plan}
use Rattle.gos_expand.specs.Gates.{Making, passing_of}
use Rattle.gos_order.specs.Rings.{Graph, Edge, HasEdge}
use Rattle.gos_expand.specs.Starts.{Keep, Laying, place_of}
use Rattle.gos_expand.specs.Facts.{source, target}

-- how many directions there are
abbrev pub directions : Plan → ℕ
directions p = length p.joints + length p.joints

-- direction d of a joint
pub record IsDirection (p : Plan) (d : ℕ) : Type 0 where
  pub joint : ℕ
  pub way : Direction
  pub number : d ≡ place_of joint way
  pub passed : Joint
  pub stands : slice_get p.joints joint ≡ Some passed

-- where it arrives, and where it leaves
abbrev pub ArrivesAt : Plan → ℕ → End → Type 0
ArrivesAt p d e = (x : IsDirection p d) × (target x.passed x.way ≡ e)

abbrev pub LeavesAt : Plan → ℕ → End → Type 0
LeavesAt p d e = (x : IsDirection p d) × (source x.passed x.way ≡ e)

-- what arrives by the first direction at a part passes on, and leaves by the second
pub record PassesThrough (making : ℕ → Making) (p : Plan) (first second : ℕ) : Type 0 where
  pub part : ℕ
  pub kind : Part
  pub there : slice_get p.parts part ≡ Some kind
  pub from : ℕ
  pub from_there : from < length (part_contacts kind)
  pub arrives : ArrivesAt p first (PartEnd part from)
  pub to : ℕ
  pub to_there : to < length (part_contacts kind)
  pub leaves : LeavesAt p second (PartEnd part to)
  pub passes : passing_of (making part) kind from to ≡ true

-- an edge through a part, and one along a direction without registers
abbrev pub IsInner : (ℕ → Making) → Plan → ℕ → ℕ → Type 0
IsInner making p a b = (d : ℕ) × (b ≡ directions p + d) × PassesThrough making p a d

abbrev pub IsLink : Keep → Plan → ℕ → ℕ → Type 0
IsLink keep p a b = (x : IsDirection p b) × (a ≡ directions p + b) × (keep x.joint x.way ≡ false)

-- the edges are those of the graph
abbrev pub AreEdges : Laying → Plan → List Edge → Type 0
AreEdges lay p edges = (a b : ℕ) → HasEdge edges a b ↔ (IsInner lay.making p a b ⊎ IsLink lay.keep p a b)

-- it has a node for where each direction arrives, and one for where it leaves
pub record IsGraphOf (lay : Laying) (p : Plan) (graph : Graph) : Type 0 where
  pub nodes : graph.nodes ≡ directions p + directions p
  pub edges : AreEdges lay p graph.edges
