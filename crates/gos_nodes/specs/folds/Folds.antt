-- Folds: when the plan of one web lies as a region in the plan of a larger one.
--
-- Read first: Webs and Cutting of gos_joining; Regions of windows. Joints are ways, so it is enough to compare ties: a tie
-- of the small web is a way of the large one, and a tie of the large one is no tie or a way of the small one. A dot of the
-- large web may stand for a dot of the small one, many for one: a way of the region never leaves the dots that do.
use Rattle.std.specs.Prelude.{◌≡◌, ℕ, ◌&&◌, ◌<◌, Bool, true, false, not, List, ◌⊎◌, Option, Some, None, slice_get, Contains, if◌then◌else◌}
use Rattle.gos_plan.specs.Kinds.{Part, Share, Contact}
use Rattle.gos_plan.specs.Plans.{End, PartEnd, ImportEnd, ResultEnd, Joint, Plan, contact_at, same_end, is_free}
use Rattle.gos_plan.specs.Tokens.{IsPortEnd}
use Rattle.gos_joining.specs.webs.Webs.{Dot, Tie, Web, Meet, Way, joint, IsOfWeb}
use Rattle.gos_joining.specs.webs.Cutting.{Cut, lies_at, IsOutside}
use Rattle.gos_nodes.specs.windows.Regions.{Serving, IsOther, IsRegion}

-- How a web lies in a larger one: where its parts and ports lie, where its dots lie, and the dot for which a dot of the larger
-- web stands, if it stands for one.
pub record Fold : Type 0 where
  pub cut : Cut
  pub dot : Dot → Dot
  pub back : Dot → Option Dot

-- what two dots that meet stand for: both for nothing, or for dots that a way connects
abbrev pub Follows : List Tie → Option Dot → Option Dot → Type 0
Follows ts None None = Unit {0}
Follows ts None (Some y) = ⊥
Follows ts (Some x) None = ⊥
Follows ts (Some x) (Some y) = Way ts x y

-- an end where its dot lies, for which that place stands
abbrev pub IsFolded : Fold → Web → Web → End → Type 0
IsFolded f w v e = (f.dot (v.at e) ≡ w.at (lies_at f.cut e)) × (f.back (w.at (lies_at f.cut e)) ≡ Some (v.at e))

-- no way leads from the end to another one that there is
abbrev pub IsAlone : Web → Plan → End → Type 0
IsAlone v c e = (d : End) (k : Contact) → contact_at c d ≡ Some k → Way v.ties (v.at e) (v.at d) → d ≡ e

-- An end that the region doesn't join, though the whole may: of a port or of a Share's other caller.
abbrev pub IsSpare : Fold → List Serving → Web → Web → Plan → End → Type 0
IsSpare f ss w v c e =
    (f.back (w.at (lies_at f.cut e)) ≡ None) × (IsPortEnd e ⊎ IsOther ss (lies_at f.cut e)) × IsAlone v c e

-- The web v lies in w, and what is a part or a port of c in r, with these Shares. It asks nothing of the joints of c.
pub record IsFold (f : Fold) (ss : List Serving) (w v : Web) (r c : Plan) : Type 0 where
  pub whole : IsOfWeb w r
  pub parts : (i : ℕ) (k : Part) → slice_get c.parts i ≡ Some k → (slice_get r.parts (f.cut.part i) ≡ Some k) × (f.cut.number (f.cut.part i) ≡ Some i)
  pub numbers : (i j : ℕ) → f.cut.number i ≡ Some j → (f.cut.part j ≡ i) × ((k : Part) × (slice_get c.parts j ≡ Some k))
  pub ports :
      (e : End) (k : Contact) → IsPortEnd e → contact_at c e ≡ Some k
      → IsOutside f.cut (f.cut.outer e) × (f.cut.inner (f.cut.outer e) ≡ Some e) × (contact_at r (f.cut.outer e) ≡ Some k)
  pub serving :
      (n : Serving) → Contains ss n
      → (n.side < 2) × ((i : ℕ) × (f.cut.number n.part ≡ Some i) × (slice_get c.parts i ≡ Some (Share n.ty)))
  pub others : (e : End) → IsOther ss e → f.back (w.at e) ≡ None
  pub ends : (e : End) (k : Contact) → contact_at c e ≡ Some k → IsFolded f w v e ⊎ IsSpare f ss w v c e
  pub ways : (t : Tie) → Contains v.ties t → Way w.ties (f.dot t.one) (f.dot t.other)
  pub stays : (t : Tie) → Contains w.ties t → Follows v.ties (f.back t.one) (f.back t.other)
  pub comes :
      (e : End) (k : Contact) (y : Dot)
      → IsOutside f.cut e → contact_at r e ≡ Some k → f.back (w.at e) ≡ Some y
      → (d : End) × IsPortEnd d × (f.cut.outer d ≡ e) × (contact_at c d ≡ Some k)

-- an end is a port
abbrev pub is_port : End → Bool
is_port (PartEnd i h) = false
is_port (ImportEnd i h) = true
is_port (ResultEnd h) = true

-- the port, if it is one, lies there, and stands in a joint
abbrev pub port_if : (End → End) → List Joint → End → Option End → Option End
port_if outer js b None = None
port_if outer js b (Some e) = if is_port e && (same_end (outer e) b && not (is_free e js)) then Some e else None

-- the cut, with the ports that stand in these joints alone
abbrev pub joined_cut : Cut → List Joint → Cut
joined_cut f js = record f { inner = λ b. port_if f.outer js b (f.inner b) }

-- The plan of a folded web is a region.
abbrev pub FoldedIsRegion : Type 0
FoldedIsRegion =
    (f : Fold) (ss : List Serving) (w v : Web) (r c : Plan)
    → IsFold f ss w v r c → IsOfWeb v c → IsRegion (joined_cut f.cut c.joints) ss r c

-- A joint of the whole is one of the region's where one of its ends stands for a dot.
abbrev pub FoldedJoint : Type 0
FoldedJoint =
    (f : Fold) (ss : List Serving) (w v : Web) (r c : Plan) (a b : End) (x : Dot)
    → IsFold f ss w v r c → IsOfWeb v c
    → Contains r.joints (joint a b) → (f.back (w.at a) ≡ Some x) ⊎ (f.back (w.at b) ≡ Some x)
    → (d e : End) × Contains c.joints (joint d e) × (lies_at f.cut d ≡ a) × (lies_at f.cut e ≡ b)

-- the plan with these joints
abbrev pub with_joints : Plan → List Joint → Plan
with_joints p js = record p { joints = js }

-- A folded web has a plan: the parts and ports have joints by which they are its plan. It is a region too.
abbrev pub FoldHasPlan : Type 0
FoldHasPlan =
    (f : Fold) (ss : List Serving) (w v : Web) (r c : Plan)
    → IsFold f ss w v r c
    → (js : List Joint) × IsOfWeb v (with_joints c js) × IsRegion (joined_cut f.cut js) ss r (with_joints c js)

-- An end whose dot meets nothing, and is that of no other end, is alone.
abbrev pub UnmetIsAlone : Type 0
UnmetIsAlone =
    (v : Web) (c : Plan) (e : End)
    → ((x : Dot) → Meet v.ties (v.at e) x → ⊥)
    → ((d : End) (k : Contact) → contact_at c d ≡ Some k → v.at d ≡ v.at e → d ≡ e)
    → IsAlone v c e
