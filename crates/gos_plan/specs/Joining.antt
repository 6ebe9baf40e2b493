-- Joining plans: one plan that is made of several, along handshakes of theirs that are joined.
--
-- Read first: Plans. A path of the plans' joints and of joined handshakes leads from an end of the joining to another one;
-- where one of them asks and the other serves there is a joint, and else there is none. The order of joints is free.
use Rattle.std.specs.Prelude.{◌≡◌, ◌≢◌, ◌↔◌, ℕ, zero, suc, ◌+◌, ◌-◌, Bool, false, ◌&&◌, ◌||◌, List, [], ◌∷◌, ◌++◌, ◌⊎◌, length, map, Option, Some, None, slice_get, nat_eq, nat_lt, if◌then◌else◌, Contains}
use Rattle.gos_types.specs.Types.{Type'}
use Rattle.gos_plan.specs.Kinds.{Part, Contact, asks, serves, contacts_of, turned_contact}
use Rattle.gos_model.specs.Typing.{Imported}
use Rattle.gos_plan.specs.Plans.{End, PartEnd, ImportEnd, ResultEnd, Joint, Plan, contact_at, IsRight}

-- an end of one of several plans
pub record Place : Type 0 where
  pub plan : ℕ
  pub end : End

abbrev pub place : ℕ → End → Place
place n e = record { plan = n; end = e }

-- two handshakes that are joined
pub record Link : Type 0 where
  pub one : Place
  pub other : Place

-- Plans, and how they are joined: the links, and the result, which is that of plan `giver` from handshake `skipped` on, and
-- has the type `outcome`.
pub record Wiring : Type 0 where
  pub plans : List Plan
  pub links : List Link
  pub giver : ℕ
  pub skipped : ℕ
  pub outcome : Type'

abbrev pub all_parts : List Plan → List Part
all_parts [] = []
all_parts (p ∷ ps) = p.parts ++ all_parts ps

abbrev pub all_weight : List Plan → ℕ
all_weight [] = 0
all_weight (p ∷ ps) = p.weight + all_weight ps

-- whether a place is a handshake of import i of plan k
abbrev pub is_of_import : ℕ → End → Bool
is_of_import i (PartEnd j h) = false
is_of_import i (ImportEnd j h) = nat_eq j i
is_of_import i (ResultEnd h) = false

abbrev pub is_at_import : ℕ → ℕ → Place → Bool
is_at_import k i a = nat_eq a.plan k && is_of_import i a.end

-- whether a link joins the import
abbrev pub is_joined : List Link → ℕ → ℕ → Bool
is_joined [] k i = false
is_joined (l ∷ ls) k i = (is_at_import k i l.one || is_at_import k i l.other) || is_joined ls k i

-- an import that stays: its plan's number and its own, and itself
pub record LeftImport : Type 0 where
  pub plan : ℕ
  pub number : ℕ
  pub import : Imported

-- the imports that no link joins, of plan k from number i on, and of all plans from number k on
abbrev pub left_in : List Link → ℕ → ℕ → List Imported → List LeftImport
left_in ls k i [] = []
left_in ls k i (x ∷ xs) =
    if is_joined ls k i then left_in ls k (suc i) xs else record { plan = k; number = i; import = x } ∷ left_in ls k (suc i) xs

abbrev pub left_among : List Link → ℕ → List Plan → List LeftImport
left_among ls k [] = []
left_among ls k (p ∷ ps) = left_in ls k 0 p.imports ++ left_among ls (suc k) ps

abbrev pub all_left : Wiring → List LeftImport
all_left w = left_among w.links 0 w.plans

-- where handshake h of part i of all stands, from plan n on
abbrev pub part_place : ℕ → List Plan → ℕ → ℕ → Place
part_place n [] i h = place n (PartEnd i h)
part_place n (p ∷ ps) i h =
    if nat_lt i (length p.parts) then place n (PartEnd i h) else part_place (suc n) ps (i - length p.parts) h

-- where handshake h of an import that stays does
abbrev pub left_place : Option LeftImport → ℕ → Place
left_place None h = place 0 (ImportEnd 0 h)
left_place (Some l) h = place l.plan (ImportEnd l.number h)

-- where an end of the joining stands in the plans
abbrev pub origin : Wiring → End → Place
origin w (PartEnd i h) = part_place 0 w.plans i h
origin w (ImportEnd i h) = left_place (slice_get (all_left w) i) h
origin w (ResultEnd h) = place w.giver (ResultEnd (w.skipped + h))

-- the ends of a joint of one of the plans, in either order
abbrev pub JoinedWithin : Wiring → Place → Place → Type 0
JoinedWithin w a b =
    (p : Plan) × (j : Joint) × (a.plan ≡ b.plan) × (slice_get w.plans a.plan ≡ Some p) × Contains p.joints j
    × (((a.end ≡ j.asking) × (b.end ≡ j.serving)) ⊎ ((a.end ≡ j.serving) × (b.end ≡ j.asking)))

-- the ends of a link, in either order
abbrev pub Linked : Wiring → Place → Place → Type 0
Linked w a b = (l : Link) × Contains w.links l × (((a ≡ l.one) × (b ≡ l.other)) ⊎ ((a ≡ l.other) × (b ≡ l.one)))

-- a path of so many joints and links
abbrev pub Path : Wiring → ℕ → Place → Place → Type 0
Path w zero a b = a ≡ b
Path w (suc n) a b = (c : Place) × (JoinedWithin w a c ⊎ Linked w a c) × Path w n c b

-- in a plan the one end asks, the other serves, their bits are equal, and a path leads from where one stands to the other
abbrev pub Connects : Wiring → Plan → End → End → Type 0
Connects w r a b =
    (q : ℕ) × (v : ℕ) × (n : ℕ) × (contact_at r a ≡ Some (asks q v)) × (contact_at r b ≡ Some (serves q v))
    × Path w n (origin w a) (origin w b)

-- the handshakes of the result of a plan that there is, or of none
abbrev pub contacts_of_result : Option Plan → List Contact
contacts_of_result None = []
contacts_of_result (Some p) = contacts_of p.outcome

-- The plan is the joining. What is joined fits: the result's handshakes are some of the giver's, and of two ends that a path
-- connects each is the other side of the other.
pub record IsJoining (w : Wiring) (r : Plan) : Type 0 where
  pub parts : r.parts ≡ all_parts w.plans
  pub imports : r.imports ≡ map (λ l. l.import) (all_left w)
  pub outcome : r.outcome ≡ w.outcome
  pub weight : r.weight ≡ all_weight w.plans
  pub right : IsRight r
  pub result :
      (h : ℕ) (c : Contact) → slice_get (contacts_of w.outcome) h ≡ Some c
      → slice_get (contacts_of_result (slice_get w.plans w.giver)) (w.skipped + h) ≡ Some c
  pub fits :
      (a b : End) (c d : Contact) (n : ℕ) → contact_at r a ≡ Some c → contact_at r b ≡ Some d → a ≢ b → Path w n (origin w a) (origin w b)
      → d ≡ turned_contact c
  pub joints : (a b : End) → Contains r.joints (record { asking = a; serving = b }) ↔ Connects w r a b

-- two plans are one but for the order of their joints
pub record IsSameButOrder (r q : Plan) : Type 0 where
  pub parts : r.parts ≡ q.parts
  pub imports : r.imports ≡ q.imports
  pub outcome : r.outcome ≡ q.outcome
  pub weight : r.weight ≡ q.weight
  pub joints : (j : Joint) → Contains r.joints j ↔ Contains q.joints j

-- joining plans gives one plan, but for the order of its joints
abbrev pub JoiningIsOne : Type 0
JoiningIsOne = (w : Wiring) (r q : Plan) → IsJoining w r → IsJoining w q → IsSameButOrder r q
