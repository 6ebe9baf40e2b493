-- A plan of a web stands beside the rest of a larger web.
--
-- Read first: Beside; Webs of gos_joining. So it is enough to look at each tie of the larger web: it is a way of the smaller one, or
-- leads from one point outside that to another.
use Rattle.std.specs.Prelude.{◌≡◌, Option, Some, None, Contains}
use Rattle.gos_plan.specs.Kinds.{Contact}
use Rattle.gos_plan.specs.Plans.{End, Plan, contact_at}
use Rattle.gos_joining.specs.webs.Webs.{Dot, tie, Web, Way, joint, IsOfWeb}
use Rattle.gos_supplies.specs.unjoined.Beside.{Placing, placed, IsLoose, LiesIn, IsBeside}

-- two points outside the smaller web, or two of its points that a way connects there
abbrev pub AreHome : Web → Option Dot → Option Dot → Type 0
AreHome v None None = Unit {0}
AreHome v None (Some b) = ⊥
AreHome v (Some a) None = ⊥
AreHome v (Some a) (Some b) = Way v.ties a b

-- `home` says which point of v a point of w is, if it is one: no tie leads out of v, each end of c that there is stands at
-- its point, no loose end stands at one, and each joint of c is a way of w.
pub record IsHome (home : Dot → Option Dot) (f : Placing) (w v : Web) (r c : Plan) : Type 0 where
  pub ties : (a b : Dot) → Contains w.ties (tie a b) → AreHome v (home a) (home b)
  pub ends : (e : End) (k : Contact) → contact_at c e ≡ Some k → home (w.at (placed f e)) ≡ Some (v.at e)
  pub loose : (e : End) (k : Contact) → contact_at r e ≡ Some k → IsLoose f e → home (w.at e) ≡ None
  pub joints : (a b : End) → Contains c.joints (joint a b) → Way w.ties (w.at (placed f a)) (w.at (placed f b))

-- Then the plan of w is the plan of v with loose parts beside it.
abbrev pub WebIsBeside : Type 0
WebIsBeside =
    (home : Dot → Option Dot) (f : Placing) (w v : Web) (r c : Plan)
    → IsOfWeb w r → IsOfWeb v c → LiesIn f r c → IsHome home f w v r c → IsBeside f r c
