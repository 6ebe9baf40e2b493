-- Tokens on the joints of a plan, and lists of firings, outputs and inputs.
--
-- Read first: Firing, Plans. A joint has a place for its request and one for its answer. Places are named by the end that
-- asks, so that the order of joints never shows. An end that stands in no joint has no place: what is put there is lost.
use Rattle.std.specs.Prelude.{◌≡◌, ℕ, ◌^◌, ◌<◌, Bool, true, false, ◌&&◌, List, [], ◌∷◌, Option, Some, None, slice_get, nat_eq, if◌then◌else◌}
use Rattle.gos_types.specs.declared.shakes.Role.{Role}
use Rattle.gos_types.specs.declared.shakes.Role.TheVariants.{Serve, Ask}
use Rattle.gos_types.specs.Events.{Direction, Request, Answer}
use Rattle.gos_plan.specs.Kinds.{Part, Contact}
use Rattle.gos_plan.specs.Firing.{Rest, State, Slot, Req, Ans, Token, Row, firing}
use Rattle.gos_plan.specs.Plans.{End, PartEnd, ImportEnd, ResultEnd, Joint, Plan, contact_at, same_end, stands_in}

-- the end that asks in the joint in which an end stands
abbrev pub asking_in : List Joint → End → Option End
asking_in [] e = None
asking_in (j ∷ js) e = if stands_in e j then Some j.asking else asking_in js e

-- the name of an end's places
abbrev pub places_of : Plan → End → Option End
places_of p e = asking_in p.joints e

-- what lies in the places, by direction and by the end that asks, and the states of the parts, by number
pub record Tokens : Type 0 where
  pub in_place : Direction → End → Option ℕ
  pub state : ℕ → State

-- whether two directions are one
abbrev pub same_way : Direction → Direction → Bool
same_way Request Request = true
same_way Answer Answer = true
same_way a b = false

-- a place filled, or emptied
abbrev pub with_place : Direction → End → Option ℕ → Tokens → Tokens
with_place way e held s =
    record s { in_place = λ w d. if same_way w way && same_end d e then held else s.in_place w d }

-- the part of this number in another state
abbrev pub with_state : ℕ → State → Tokens → Tokens
with_state i q s = record s { state = λ j. if nat_eq j i then q else s.state j }

-- what lies in the place of this name, if there is one
abbrev pub held_at : Tokens → Direction → Option End → Option ℕ
held_at s way None = None
held_at s way (Some e) = s.in_place way e

-- the place of this name filled or emptied, if there is one
abbrev pub with_held : Direction → Option End → Option ℕ → Tokens → Tokens
with_held way None held s = s
with_held way (Some e) held s = with_place way e held s

-- the token at an end
abbrev pub token_at : Plan → Tokens → End → Direction → Option ℕ
token_at p s e way = held_at s way (places_of p e)

-- a token put at an end, or taken there
abbrev pub with_token : Plan → End → Direction → Option ℕ → Tokens → Tokens
with_token p e way held s = with_held way (places_of p e) held s

-- the end and the direction of a part's slot
abbrev pub shake_of : Slot → ℕ
shake_of (Req h) = h
shake_of (Ans h) = h

abbrev pub way_of : Slot → Direction
way_of (Req h) = Request
way_of (Ans h) = Answer

abbrev pub end_of : ℕ → Slot → End
end_of i s = PartEnd i (shake_of s)

-- the tokens that a part puts
abbrev pub with_puts : Plan → ℕ → List Token → Tokens → Tokens
with_puts p i [] s = s
with_puts p i (t ∷ ts) s = with_puts p i ts (with_token p (end_of i t.slot) (way_of t.slot) (Some t.value) s)

-- a firing of a part, named by the token that it takes; an output at a port's end; an input there
pub data Element : Type 0 where
  Fire : (part : ℕ) (takes : Slot) → Element
  Out : (e : End) (value : ℕ) → Element
  In : (e : End) (value : ℕ) → Element

-- an end of an import or of the result
abbrev pub IsPortEnd : End → Type 0
IsPortEnd (PartEnd i h) = ⊥
IsPortEnd (ImportEnd i h) = Unit {0}
IsPortEnd (ResultEnd h) = Unit {0}

-- what is taken at an end of this role, and what is put there: where it serves, requests are taken and answers put
abbrev pub way_taken : Role → Direction
way_taken Serve = Request
way_taken Ask = Answer

abbrev pub way_put : Role → Direction
way_put Serve = Answer
way_put Ask = Request

-- the bits of a request or of an answer
abbrev pub bits_of : Contact → Direction → ℕ
bits_of c Request = c.ask_bits
bits_of c Answer = c.answer_bits

-- what a part that there is does with a token
abbrev pub firing_of : Option Part → State → Slot → Option Row
firing_of None q s = None
firing_of (Some k) q s = firing k q s

-- the tokens after a part fired by this row on this value
abbrev pub fired : Plan → ℕ → Row → ℕ → Tokens → Tokens
fired p i r v s =
    with_puts p i (r.puts v) (with_state i (r.next v) (with_token p (end_of i r.takes) (way_of r.takes) None s))

-- an output takes the token at its end, and an input puts one there
abbrev pub Passes : Plan → Element → Option Contact → Tokens → Tokens → Type 0
Passes p x None s s' = ⊥
Passes p (Fire i t) (Some c) s s' = ⊥
Passes p (Out e v) (Some c) s s' =
    (token_at p s e (way_taken c.role) ≡ Some v) × (s' ≡ with_token p e (way_taken c.role) None s)
Passes p (In e v) (Some c) s s' =
    (v < 2 ^ bits_of c (way_put c.role)) × (s' ≡ with_token p e (way_put c.role) (Some v) s)

-- the element leads from one token state to another
abbrev pub Does : Plan → Element → Tokens → Tokens → Type 0
Does p (Fire i t) s s' =
    (v : ℕ) × (r : Row) × (token_at p s (end_of i t) (way_of t) ≡ Some v)
    × (firing_of (slice_get p.parts i) (s.state i) t ≡ Some r) × (s' ≡ fired p i r v s)
Does p (Out e v) s s' = IsPortEnd e × Passes p (Out e v) (contact_at p e) s s'
Does p (In e v) s s' = IsPortEnd e × Passes p (In e v) (contact_at p e) s s'

-- a list of elements, each possible where it stands
abbrev pub Runs : Plan → List Element → Tokens → Tokens → Type 0
Runs p [] s s' = s' ≡ s
Runs p (x ∷ xs) s s' = (t : Tokens) × Does p x s t × Runs p xs t s'

-- every place is empty, and every part is idle
abbrev pub IsIdle : Plan → Tokens → Type 0
IsIdle p s = ((way : Direction) (e : End) → s.in_place way e ≡ None) × ((i : ℕ) → (s.state i).phase ≡ Rest)

-- no firing and no output is possible
abbrev pub IsQuiet : Plan → Tokens → Type 0
IsQuiet p s =
    ((i : ℕ) (t : Slot) (s' : Tokens) → Does p (Fire i t) s s' → ⊥) × ((e : End) (v : ℕ) (s' : Tokens) → Does p (Out e v) s s' → ⊥)
