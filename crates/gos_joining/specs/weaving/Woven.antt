-- Woven plans: a web has a plan, if what it connects fits and it connects each end to one other end at most. A thin web does.
--
-- Read first: Webs of webs. The joints are the pairs of ends that a way connects; since ties are finitely many, it is
-- decided whether one does.
use Rattle.std.specs.Prelude.{◌≡◌, ◌≢◌, ℕ, ◌+◌, ◌≤◌, Bool, false, ◌&&◌, List, [], ◌∷◌, Some, nat_eq, if◌then◌else◌}
use Rattle.gos_plan.specs.Kinds.{Contact}
use Rattle.gos_plan.specs.Plans.{End, Joint, Plan, contact_at, same_end}
use Rattle.gos_joining.specs.webs.Webs.{Dot, Of, Number, Node, Within, Tie, Web, Way, WaysFit, IsOfWeb}

-- each end that there is is connected to at most one other that there is
abbrev pub IsPlain : Web → Plan → Type 0
IsPlain v c =
    (a b d : End) (k l m : Contact)
    → contact_at c a ≡ Some k → contact_at c b ≡ Some l → contact_at c d ≡ Some m → a ≢ b → a ≢ d
    → Way v.ties (v.at a) (v.at b) → Way v.ties (v.at a) (v.at d) → b ≡ d

-- A web has a plan: there are joints with which a plan of these parts, imports and result is its plan.
abbrev pub WebHasPlan : Type 0
WebHasPlan = (v : Web) (c : Plan) → WaysFit v c → IsPlain v c → (js : List Joint) × IsOfWeb v (record c { joints = js })

-- whether two dots are one
abbrev pub same_dot : Dot → Dot → Bool
same_dot (Of d) (Of e) = same_end d e
same_dot (Number n h) (Number k g) = nat_eq n k && nat_eq h g
same_dot (Node n h) (Node k g) = nat_eq n k && nat_eq h g
same_dot (Within n d) (Within k e) = nat_eq n k && same_dot d e
same_dot d e = false

-- how often a dot stands in ties
abbrev pub once : Dot → Dot → ℕ
once d e = if same_dot d e then 1 else 0

abbrev pub meetings : Dot → List Tie → ℕ
meetings d [] = 0
meetings d (t ∷ ts) = once d t.one + once d t.other + meetings d ts

-- No dot stands in more than two ties, and that of an end in one at most. Ends that there are have dots of their own.
pub record IsThin (v : Web) (c : Plan) : Type 0 where
  pub points : (d : Dot) → meetings d v.ties ≤ 2
  pub ends : (e : End) (k : Contact) → contact_at c e ≡ Some k → meetings (v.at e) v.ties ≤ 1
  pub apart : (d e : End) (k l : Contact) → contact_at c d ≡ Some k → contact_at c e ≡ Some l → v.at d ≡ v.at e → d ≡ e

-- A thin web connects each end to one other at most.
abbrev pub ThinIsPlain : Type 0
ThinIsPlain = (v : Web) (c : Plan) → IsThin v c → IsPlain v c
