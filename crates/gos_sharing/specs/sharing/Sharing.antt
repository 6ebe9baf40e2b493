-- Seeing through a Share: where a list uses it for one caller alone, plain joints in its place have the list too.
--
-- Read first: Cutting of gos_joining; Orderly of gos_plan. The Share stays among the parts, without a joint, so no number changes. A part without a joint does
-- nothing: the others are a region.
use Rattle.std.specs.Prelude.{◌≡◌, ◌↔◌, ℕ, ◌+◌, ◌-◌, ◌*◌, ◌<◌, ◌≤◌, List, [], ◌∷◌, ◌⊎◌, Option, Some, None, slice_get, nat_eq, nat_lt, Contains, if◌then◌else◌}
use Rattle.gos_types.specs.declared.shakes.Role.{Role}
use Rattle.gos_types.specs.declared.shakes.Role.TheVariants.{Serve, Ask}
use Rattle.gos_types.specs.Types.{Type'}
use Rattle.gos_types.specs.Events.{Direction}
use Rattle.gos_plan.specs.Kinds.{Contact, Share, contacts_of}
use Rattle.gos_plan.specs.Firing.{Rest, Slot, at}
use Rattle.gos_plan.specs.Plans.{End, PartEnd, ImportEnd, ResultEnd, Joint, Plan, same_end, IsRight}
use Rattle.gos_plan.specs.Tokens.{Tokens, Element, Fire, Out, In, shake_of, Does, Runs, IsIdle, IsQuiet, with_state}
use Rattle.gos_plan.specs.Orderly.{Open, none_open, OrderlyFrom}
use Rattle.gos_realises.specs.realises.Regular.{count}
use Rattle.gos_joining.specs.webs.Webs.{joint}
use Rattle.gos_joining.specs.webs.Cutting.{asks_in}

-- the handshakes of a Share of this type: j of the source, and j of caller c
abbrev pub source_end : ℕ → ℕ → End
source_end i j = PartEnd i j

abbrev pub caller_end : ℕ → Type' → ℕ → ℕ → End
caller_end i t c j = PartEnd i (count t + c * count t + j)

-- where a caller's request comes in, and where it goes out; and the same for what the source asks of its caller
abbrev pub way_into : ℕ → Type' → ℕ → ℕ → Role → End
way_into i t c j Serve = caller_end i t c j
way_into i t c j Ask = source_end i j

abbrev pub way_out_of : ℕ → Type' → ℕ → ℕ → Role → End
way_out_of i t c j Serve = source_end i j
way_out_of i t c j Ask = caller_end i t c j

abbrev pub IsOfPart : ℕ → End → Type 0
IsOfPart i (PartEnd k h) = k ≡ i
IsOfPart i (ImportEnd k h) = ⊥
IsOfPart i (ResultEnd h) = ⊥

-- a joint leads into the Share at one of caller c's handshakes, or its source's, and another one out of it
abbrev pub LeadsThrough : ℕ → Type' → ℕ → Plan → End → End → Type 0
LeadsThrough i t c r a b =
    (j : ℕ) × (k : Contact) × (slice_get (contacts_of t) j ≡ Some k)
    × Contains r.joints (joint a (way_into i t c j k.role)) × Contains r.joints (joint (way_out_of i t c j k.role) b)

-- q is r with plain joints from caller c to the source in place of the Share, which is part i. The Share isn't joined to
-- itself: a joint from its source to one of its callers is a ring, and q would still use it.
pub record IsSeenThrough (i : ℕ) (t : Type') (c : ℕ) (r q : Plan) : Type 0 where
  pub share : slice_get r.parts i ≡ Some (Share t)
  pub caller : c < 2
  pub right : IsRight r
  pub also_right : IsRight q
  pub parts : q.parts ≡ r.parts
  pub imports : q.imports ≡ r.imports
  pub outcome : q.outcome ≡ r.outcome
  pub apart : (a b : End) → Contains r.joints (joint a b) → IsOfPart i a → IsOfPart i b → ⊥
  pub joints :
      (a b : End) → Contains q.joints (joint a b)
      ↔ ((Contains r.joints (joint a b) × (IsOfPart i a → ⊥) × (IsOfPart i b → ⊥)) ⊎ LeadsThrough i t c r a b)

-- what an end is joined to, if it stands in a joint
abbrev pub other_end : List Joint → End → Option End
other_end [] e = None
other_end (j ∷ js) e =
    if same_end e j.asking then Some j.serving else if same_end e j.serving then Some j.asking else other_end js e

-- the handshake of the Share to which one of the source's, or of caller c's, leads
abbrev pub passed_on : Type' → ℕ → ℕ → ℕ
passed_on t c k = if nat_lt k (count t) then count t + c * count t + k else k - (count t + c * count t)

-- the joint that follows one that leads into the Share, by the end that asks there
abbrev pub follower : ℕ → Type' → ℕ → Option End → Option End
follower i t c None = None
follower i t c (Some (PartEnd k h)) = if nat_eq k i then Some (PartEnd i (passed_on t c h)) else None
follower i t c (Some (ImportEnd k h)) = None
follower i t c (Some (ResultEnd h)) = None

abbrev pub held_or : Option ℕ → Option ℕ → Option ℕ
held_or None w = w
held_or (Some v) w = Some v

abbrev pub held_if : Tokens → Direction → Option End → Option ℕ
held_if s way None = None
held_if s way (Some e) = s.in_place way e

-- A place of a plain joint holds what either of the two places holds. The Share is as it is when it has served caller c.
abbrev pub seen_tokens : ℕ → Type' → ℕ → Plan → Plan → Tokens → Tokens
seen_tokens i t c r q s =
    with_state i (at Rest c)
    record s {
      in_place = λ way e. if asks_in q.joints e then held_or (s.in_place way e) (held_if s way (follower i t c (other_end r.joints e))) else None;
    }

-- the list without the firings of part i
abbrev pub without : ℕ → List Element → List Element
without i [] = []
without i (Fire k t ∷ xs) = if nat_eq k i then without i xs else Fire k t ∷ without i xs
without i (Out e v ∷ xs) = Out e v ∷ without i xs
without i (In e v ∷ xs) = In e v ∷ without i xs

-- a handshake of caller c; or one of the source, while the branch is that of caller c
abbrev pub IsForCaller : Type' → ℕ → ℕ → ℕ → Type 0
IsForCaller t c branch k =
    ((count t + c * count t ≤ k) × (k < count t + c * count t + count t)) ⊎ ((k < count t) × (branch ≡ c))

-- each firing of the Share is between its source and caller c
abbrev pub WorksFor : ℕ → Type' → ℕ → Plan → List Element → Tokens → Type 0
WorksFor i t c r [] s = Unit {0}
WorksFor i t c r (x ∷ xs) s =
    ((slot : Slot) → x ≡ Fire i slot → IsForCaller t c (s.state i).number (shake_of slot))
    × ((u : Tokens) → Does r x s u → WorksFor i t c r xs u)

-- A list as it is used here: orderly from an idle state, with the Share working for caller c. That it is orderly is needed:
-- else both places of what becomes one joint could hold a token.
pub record ServesOne (i : ℕ) (t : Type') (c : ℕ) (r q : Plan) (xs : List Element) (s w : Tokens) : Type 0 where
  pub plans : IsSeenThrough i t c r q
  pub idle : IsIdle r s
  pub opened : Open
  pub orderly : OrderlyFrom r xs none_open s opened w
  pub works : WorksFor i t c r xs s

abbrev pub RunsAreSeen : Type 0
RunsAreSeen =
    (i : ℕ) (t : Type') (c : ℕ) (r q : Plan) (xs : List Element) (s w : Tokens)
    → ServesOne i t c r q xs s w → Runs q (without i xs) (seen_tokens i t c r q s) (seen_tokens i t c r q w)

-- where the plan with the Share is quiet, so is the other
abbrev pub QuietIsSeen : Type 0
QuietIsSeen =
    (i : ℕ) (t : Type') (c : ℕ) (r q : Plan) (xs : List Element) (s w : Tokens)
    → ServesOne i t c r q xs s w → IsQuiet r w → IsQuiet q (seen_tokens i t c r q w)

-- an idle state is seen as an idle one
abbrev pub IdleIsSeen : Type 0
IdleIsSeen = (i : ℕ) (t : Type') (c : ℕ) (r q : Plan) (s : Tokens) → IsIdle r s → IsIdle q (seen_tokens i t c r q s)
