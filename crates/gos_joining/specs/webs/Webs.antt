-- Webs: points, ties between them, and which points are ends; and the plan of a web.
--
-- Read first: Plans of gos_plan. It is the one relation of which the plan of a term and a joining are cases: a joint for
-- each two ends that a way of ties connects.
use Rattle.std.specs.Prelude.{◌≡◌, ◌≢◌, ◌↔◌, ℕ, List, ◌⊎◌, map, Some, Contains}
use Rattle.gos_plan.specs.Kinds.{Contact, asks, serves, turned_contact}
use Rattle.gos_plan.specs.Plans.{End, Joint, Plan, contact_at, IsRight}

-- a point of a web: an end, a handshake of a number or within a node of a term, or a point of one of several webs
pub data Dot : Type 0 where
  Of : (e : End) → Dot
  Number : (n h : ℕ) → Dot
  Node : (n h : ℕ) → Dot
  Within : (web : ℕ) (d : Dot) → Dot

-- two points that meet
pub record Tie : Type 0 where
  pub one : Dot
  pub other : Dot

abbrev pub tie : Dot → Dot → Tie
tie a b = record { one = a; other = b }

-- A web: its ties, and the point at which each end stands.
pub record Web : Type 0 where
  pub ties : List Tie
  pub at : End → Dot

-- one of the ties is between these points, in either order
abbrev pub Meet : List Tie → Dot → Dot → Type 0
Meet ts a b = Contains ts (tie a b) ⊎ Contains ts (tie b a)

-- a way of ties
pub data Way (ts : List Tie) : Dot → Dot → Type 0 where
  here : (a : Dot) → Way ts a a
  along : (a c b : Dot) → Meet ts a c → Way ts c b → Way ts a b

-- in a plan the one end asks, the other serves, their bits are equal, and a way leads from one to the other
abbrev pub Connects : Web → Plan → End → End → Type 0
Connects w p a b =
    (q : ℕ) × (v : ℕ) × (contact_at p a ≡ Some (asks q v)) × (contact_at p b ≡ Some (serves q v)) × Way w.ties (w.at a) (w.at b)

-- Of two ends that there are and that a way connects each is the other side of the other.
abbrev pub WaysFit : Web → Plan → Type 0
WaysFit w p =
    (a b : End) (c d : Contact) → contact_at p a ≡ Some c → contact_at p b ≡ Some d → a ≢ b → Way w.ties (w.at a) (w.at b) → d ≡ turned_contact c

-- a joint of these ends
abbrev pub joint : End → End → Joint
joint a b = record { asking = a; serving = b }

-- The plan is right, what is connected fits, and it has the joints of the web. It says nothing of the other fields.
pub record IsOfWeb (w : Web) (p : Plan) : Type 0 where
  pub right : IsRight p
  pub fits : WaysFit w p
  pub joints : (a b : End) → Contains p.joints (joint a b) ↔ Connects w p a b

-- A right plan is the plan of the web of its own joints.
abbrev pub own_web : Plan → Web
own_web p = record { ties = map (λ j. tie (Of j.asking) (Of j.serving)) p.joints; at = Of }

abbrev pub RightIsOfItsWeb : Type 0
RightIsOfItsWeb = (p : Plan) → IsRight p → IsOfWeb (own_web p) p

-- A web that connects the same ends has the same plans.
abbrev pub SameWays : Web → Web → Plan → Type 0
SameWays w v p =
    (a b : End) (c d : Contact) → contact_at p a ≡ Some c → contact_at p b ≡ Some d → Way w.ties (w.at a) (w.at b) ↔ Way v.ties (v.at a) (v.at b)

abbrev pub SameWaysSamePlan : Type 0
SameWaysSamePlan = (w v : Web) (p : Plan) → SameWays w v p → IsOfWeb w p → IsOfWeb v p
