-- The union of webs: the joining of plans of webs is the plan of the union of their webs.
--
-- Read first: Webs of webs; Joining of gos_plan. The ties of the union are those of each web and one for each link.
use Rattle.std.specs.Prelude.{◌≡◌, ℕ, suc, ◌+◌, List, [], ◌∷◌, ◌++◌, map, Option, Some, None, slice_get, Contains}
use Rattle.gos_plan.specs.Kinds.{Contact, contacts_of}
use Rattle.gos_plan.specs.Plans.{End, Plan}
use Rattle.gos_plan.specs.Joining.{Place, Link, Wiring, all_parts, all_weight, all_left, origin, contacts_of_result, IsJoining}
use Rattle.gos_realises.specs.realises.Links.{contact_of}
use Rattle.gos_joining.specs.webs.Webs.{Dot, Of, Within, Tie, tie, Web, IsOfWeb}

-- the points of web k within the union, and so its ties
abbrev pub within : ℕ → List Tie → List Tie
within k ts = map (λ t. tie (Within k t.one) (Within k t.other)) ts

abbrev pub all_within : ℕ → List Web → List Tie
all_within k [] = []
all_within k (w ∷ ws) = within k w.ties ++ all_within (suc k) ws

-- where an end of a web that there is stands
abbrev pub at_of : Option Web → End → Dot
at_of None e = Of e
at_of (Some w) e = w.at e

abbrev pub dot_at : List Web → Place → Dot
dot_at ws a = Within a.plan (at_of (slice_get ws a.plan) a.end)

abbrev pub link_ties : List Web → List Link → List Tie
link_ties ws ls = map (λ l. tie (dot_at ws l.one) (dot_at ws l.other)) ls

abbrev pub union : Wiring → List Web → Web
union w ws = record { ties = all_within 0 ws ++ link_ties ws w.links; at = λ e. dot_at ws (origin w e) }

-- each plan is that of its web
abbrev pub AreOfWebs : List Web → List Plan → Type 0
AreOfWebs [] [] = Unit {0}
AreOfWebs [] (p ∷ ps) = ⊥
AreOfWebs (w ∷ ws) [] = ⊥
AreOfWebs (w ∷ ws) (p ∷ ps) = IsOfWeb w p × AreOfWebs ws ps

-- there is a handshake at a place
abbrev pub IsThere : Wiring → Place → Type 0
IsThere w a = (c : Contact) × (contact_of w a ≡ Some c)

-- Both ends of each link are there. Else a path may pass an end that is none, and what meets there is joined.
abbrev pub LinksStand : Wiring → Type 0
LinksStand w = (l : Link) → Contains w.links l → IsThere w l.one × IsThere w l.other

-- the result's handshakes are some of the giver's
abbrev pub HasResult : Wiring → Type 0
HasResult w =
    (h : ℕ) (c : Contact) → slice_get (contacts_of w.outcome) h ≡ Some c
    → slice_get (contacts_of_result (slice_get w.plans w.giver)) (w.skipped + h) ≡ Some c

-- A plan with the parts, the imports, the outcome and the weight of the joining, before its joints are spoken of.
pub record HasFieldsOf (w : Wiring) (r : Plan) : Type 0 where
  pub parts : r.parts ≡ all_parts w.plans
  pub imports : r.imports ≡ map (λ l. l.import) (all_left w)
  pub outcome : r.outcome ≡ w.outcome
  pub weight : r.weight ≡ all_weight w.plans
  pub result : HasResult w

-- The joining of plans of webs is the plan of the union of the webs.
abbrev pub JoiningIsUnion : Type 0
JoiningIsUnion =
    (w : Wiring) (ws : List Web) (r : Plan) → AreOfWebs ws w.plans → LinksStand w → IsJoining w r → IsOfWeb (union w ws) r

-- And the plan of the union is the joining.
abbrev pub UnionIsJoining : Type 0
UnionIsJoining =
    (w : Wiring) (ws : List Web) (r : Plan)
    → AreOfWebs ws w.plans → LinksStand w → HasFieldsOf w r → IsOfWeb (union w ws) r → IsJoining w r
