-- One token for each joint: what a plan without sharing keeps while its inputs alternate with its outputs.
--
-- Read first: Tokens. At a port's handshake inputs and outputs alternate, and who asks begins.
use Rattle.std.specs.Prelude.{◌≡◌, ◌≢◌, ℕ, Bool, true, false, IsTrue, List, [], ◌∷◌, Option, Some, None, All, slice_get, if◌then◌else◌}
use Rattle.gos_types.specs.declared.shakes.Role.{Role}
use Rattle.gos_types.specs.declared.shakes.Role.TheVariants.{Serve, Ask}
use Rattle.gos_types.specs.Types.{Type'}
use Rattle.gos_types.specs.Events.{Direction, Request, Answer}
use Rattle.gos_plan.specs.Kinds.{Part, Share, Contact}
use Rattle.gos_plan.specs.Firing.{Token, Row}
use Rattle.gos_plan.specs.Plans.{End, Plan, IsRight, contact_at, same_end}
use Rattle.gos_plan.specs.Tokens.{Tokens, Element, Fire, Out, In, token_at, with_token, with_state, end_of, way_of, firing_of, Does, Runs, IsIdle}

-- Whether an input at an end of this role alternates after these elements, the newest first: it comes after an output
-- there, or, where the outside asks, as the first.
abbrev pub alternates : Role → End → List Element → Bool
alternates Ask e [] = true
alternates Serve e [] = false
alternates role e (Fire i t ∷ past) = alternates role e past
alternates role e (Out d v ∷ past) = if same_end d e then true else alternates role e past
alternates role e (In d v ∷ past) = if same_end d e then false else alternates role e past

-- the same at an end that there is
abbrev pub alternates_at : Option Contact → End → List Element → Bool
alternates_at None e past = false
alternates_at (Some c) e past = alternates c.role e past

-- an element alternates with those before it, if it is an input
abbrev pub Alternates : Plan → List Element → Element → Type 0
Alternates p past (Fire i t) = Unit {0}
Alternates p past (Out e v) = Unit {0}
Alternates p past (In e v) = IsTrue (alternates_at (contact_at p e) e past)

-- each input does, after these elements
abbrev pub InputsAlternate : Plan → List Element → List Element → Type 0
InputsAlternate p past [] = Unit {0}
InputsAlternate p past (x ∷ xs) = Alternates p past x × InputsAlternate p (x ∷ past) xs

-- no token lies on the joint of an end
abbrev pub IsEmptyAt : Plan → Tokens → End → Type 0
IsEmptyAt p s e = (way : Direction) → token_at p s e way ≡ None

-- a part puts each of these tokens on a joint without one
abbrev pub PutsOnEmpty : Plan → ℕ → List Token → Tokens → Type 0
PutsOnEmpty p i [] s = Unit {0}
PutsOnEmpty p i (t ∷ ts) s =
    IsEmptyAt p s (end_of i t.slot) × PutsOnEmpty p i ts (with_token p (end_of i t.slot) (way_of t.slot) (Some t.value) s)

-- an element puts each of its tokens on a joint without one
abbrev pub HoldsOne : Plan → Element → Tokens → Type 0
HoldsOne p (Fire i t) s =
    (v : ℕ) (r : Row) → token_at p s (end_of i t) (way_of t) ≡ Some v → firing_of (slice_get p.parts i) (s.state i) t ≡ Some r
    → PutsOnEmpty p i (r.puts v) (with_state i (r.next v) (with_token p (end_of i r.takes) (way_of r.takes) None s))
HoldsOne p (Out e v) s = Unit {0}
HoldsOne p (In e v) s = IsEmptyAt p s e

-- each element of a list does
abbrev pub AllHoldOne : Plan → List Element → Tokens → Type 0
AllHoldOne p [] s = Unit {0}
AllHoldOne p (x ∷ xs) s = (t : Tokens) → Does p x s t → HoldsOne p x s × AllHoldOne p xs t

-- no Share
abbrev pub IsUnshared : Part → Type 0
IsUnshared k = (t : Type') → k ≢ Share t

-- no joint holds both a request and an answer
abbrev pub HoldsAtMostOne : Plan → Tokens → Type 0
HoldsAtMostOne p s = (e : End) (v w : ℕ) → token_at p s e Request ≡ Some v → token_at p s e Answer ≡ Some w → ⊥

-- Over every list from an idle state whose inputs alternate, a plan without a Share holds at most one token for each
-- joint: each token is put on a joint that holds none, and at the end none holds two.
abbrev pub OneTokenEach : Type 0
OneTokenEach =
    (p : Plan) (xs : List Element) (s : Tokens)
    → IsRight p → All IsUnshared p.parts → IsIdle p s → InputsAlternate p [] xs
    → AllHoldOne p xs s × ((t : Tokens) → Runs p xs s t → HoldsAtMostOne p t)
