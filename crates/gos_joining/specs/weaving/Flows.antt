-- Flows: ties with the handshake that is seen at their one side. What fair flows connect fits.
--
-- Read first: Webs of webs. A flow leads from either dot of its tie to the other; from the other the handshake is seen turned.
use Rattle.std.specs.Prelude.{◌≡◌, List, [], ◌∷◌, ◌⊎◌, map, Some, Contains}
use Rattle.gos_plan.specs.Kinds.{Contact, asks, serves, turned_contact}
use Rattle.gos_plan.specs.Plans.{End, PartEnd, ResultEnd, Plan, contact_at}
use Rattle.gos_plan.specs.SmallPlans.{skip_plan}
use Rattle.gos_joining.specs.webs.Webs.{Dot, Of, Tie, tie, Web, WaysFit, own_web}

pub record Flow : Type 0 where
  pub one : Dot
  pub other : Dot
  pub contact : Contact

abbrev pub tie_in : Flow → Tie
tie_in f = tie f.one f.other

-- a flow leads from a dot, where it has this handshake, to another
abbrev pub Leaves : List Flow → Dot → Dot → Contact → Type 0
Leaves fs q x c =
    (f : Flow) × Contains fs f × (((f.one ≡ q) × (f.other ≡ x) × (f.contact ≡ c)) ⊎ ((f.other ≡ q) × (f.one ≡ x) × (turned_contact f.contact ≡ c)))

-- At each dot one flow at most has either role, and what is seen from the two sides is one handshake, turned. At an end it is the
-- end's, and ends that there are have dots of their own.
pub record AreFair (fs : List Flow) (v : Web) (p : Plan) : Type 0 where
  pub ties : v.ties ≡ map tie_in fs
  pub once : (q x y : Dot) (c d : Contact) → Leaves fs q x c → Leaves fs q y d → c.role ≡ d.role → x ≡ y
  pub through : (q x y : Dot) (c d : Contact) → Leaves fs q x c → Leaves fs q y d → (c.role ≡ d.role → ⊥) → d ≡ turned_contact c
  pub ends : (e : End) (k c : Contact) (x : Dot) → contact_at p e ≡ Some k → Leaves fs (v.at e) x c → k ≡ c
  pub apart : (d e : End) (k l : Contact) → contact_at p d ≡ Some k → contact_at p e ≡ Some l → v.at d ≡ v.at e → d ≡ e

-- What fair flows connect fits.
abbrev pub FairFits : Type 0
FairFits = (fs : List Flow) (v : Web) (p : Plan) → AreFair fs v p → WaysFit v p

-- the web of the plan of `skip`: its one tie is a fair flow, if the Skip is asked, and not if it asks
abbrev pub asked : Flow
asked = record { one = Of (ResultEnd 0); other = Of (PartEnd 0 0); contact = asks 0 0 }

abbrev pub AskedIsFair : Type 0
AskedIsFair = AreFair (asked ∷ []) (own_web skip_plan) skip_plan

abbrev pub AskingIsUnfair : Type 0
AskingIsUnfair = AreFair (record asked { contact = serves 0 0 } ∷ []) (own_web skip_plan) skip_plan → ⊥
