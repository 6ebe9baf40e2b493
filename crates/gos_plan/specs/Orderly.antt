-- Orderly lists: no request comes while its handshake is open, no answer while it is not, and no token waits in vain.
--
-- Read first: Tokens. A handshake is named by the end that asks; where an end stands in no joint, by that end itself. It
-- is open from the putting of its request to the taking of its answer.
use Rattle.std.specs.Prelude.{◌≡◌, ℕ, Bool, true, false, List, [], ◌∷◌, Option, Some, None, slice_get, if◌then◌else◌}
use Rattle.gos_types.specs.Events.{Direction, Request, Answer}
use Rattle.gos_plan.specs.Kinds.{Contact}
use Rattle.gos_plan.specs.Firing.{Slot, Token, Row}
use Rattle.gos_plan.specs.Plans.{End, Plan, contact_at, same_end}
use Rattle.gos_plan.specs.Turns.{IsEmptyAt, HoldsAtMostOne}
use Rattle.gos_plan.specs.Tokens.{Tokens, Element, Fire, Out, In, places_of, token_at, end_of, way_of, way_taken, way_put, with_token, with_state, firing_of, Does, IsIdle}

-- the name of the handshake at an end
abbrev pub named_by : Option End → End → End
named_by None e = e
named_by (Some d) e = d

abbrev pub handshake_at : Plan → End → End
handshake_at p e = named_by (places_of p e) e

-- which handshakes are open, by their names
abbrev pub Open : Type 0
Open = End → Bool

abbrev pub none_open : Open
none_open e = false

abbrev pub with_open : End → Bool → Open → Open
with_open e b o = λ d. if same_end d e then b else o d

-- taking an answer at an end closes its handshake
abbrev pub after_taken : Plan → End → Direction → Open → Open
after_taken p e Request o = o
after_taken p e Answer o = with_open (handshake_at p e) false o

-- putting a request there opens it
abbrev pub after_put : Plan → End → Direction → Open → Open
after_put p e Request o = with_open (handshake_at p e) true o
after_put p e Answer o = o

-- A request is put on a closed handshake. An answer is put on an open one, when nothing lies on its joint.
abbrev pub ComesWell : Plan → End → Direction → Open → Tokens → Type 0
ComesWell p e Request o s = o (handshake_at p e) ≡ false
ComesWell p e Answer o s = (o (handshake_at p e) ≡ true) × IsEmptyAt p s e

-- part i puts each of these tokens so, one after another
abbrev pub AllComeWell : Plan → ℕ → List Token → Open → Tokens → Type 0
AllComeWell p i [] o s = Unit {0}
AllComeWell p i (t ∷ ts) o s =
    ComesWell p (end_of i t.slot) (way_of t.slot) o s
    × AllComeWell p i ts (after_put p (end_of i t.slot) (way_of t.slot) o) (with_token p (end_of i t.slot) (way_of t.slot) (Some t.value) s)

-- what is open after it has put them
abbrev pub after_puts : Plan → ℕ → List Token → Open → Open
after_puts p i [] o = o
after_puts p i (t ∷ ts) o = after_puts p i ts (after_put p (end_of i t.slot) (way_of t.slot) o)

-- The element puts each of its tokens so; o is open before it, and u after it.
abbrev pub ComesInOrder : Plan → Element → Tokens → Open → Open → Type 0
ComesInOrder p (Fire i t) s o u =
    (v : ℕ) (r : Row) → token_at p s (end_of i t) (way_of t) ≡ Some v → firing_of (slice_get p.parts i) (s.state i) t ≡ Some r
    → AllComeWell p i (r.puts v) (after_taken p (end_of i t) (way_of t) o) (with_state i (r.next v) (with_token p (end_of i r.takes) (way_of r.takes) None s))
    × (u ≡ after_puts p i (r.puts v) (after_taken p (end_of i t) (way_of t) o))
ComesInOrder p (Out e v) s o u = (c : Contact) → contact_at p e ≡ Some c → u ≡ after_taken p e (way_taken c.role) o
ComesInOrder p (In e v) s o u =
    (c : Contact) → contact_at p e ≡ Some c → ComesWell p e (way_put c.role) o s × (u ≡ after_put p e (way_put c.role) o)

-- a token that a part is to take finds it in a state that takes it
abbrev pub AllWelcome : Plan → Tokens → Type 0
AllWelcome p s =
    (i : ℕ) (t : Slot) (c : Contact) (v : ℕ)
    → contact_at p (end_of i t) ≡ Some c → way_taken c.role ≡ way_of t → token_at p s (end_of i t) (way_of t) ≡ Some v
    → (r : Row) × (firing_of (slice_get p.parts i) (s.state i) t ≡ Some r)

-- The list is possible, and orderly after each of its elements. It leads from a state in which o is open to one in which
-- u is.
abbrev pub OrderlyFrom : Plan → List Element → Open → Tokens → Open → Tokens → Type 0
OrderlyFrom p [] o s u t = (u ≡ o) × (t ≡ s)
OrderlyFrom p (x ∷ xs) o s u t =
    (m : Open) × (w : Tokens) × Does p x s w × ComesInOrder p x s o m × AllWelcome p w × OrderlyFrom p xs m w u t

-- the list is possible and orderly from a state in which no handshake is open
abbrev pub IsOrderly : Plan → List Element → Tokens → Type 0
IsOrderly p xs s = (u : Open) × (t : Tokens) × OrderlyFrom p xs none_open s u t

-- After an orderly list from an idle state no joint holds two tokens, whatever the kinds of the plan's parts.
abbrev pub OrderlyHoldsOne : Type 0
OrderlyHoldsOne =
    (p : Plan) (xs : List Element) (u : Open) (s t : Tokens) → IsIdle p s → OrderlyFrom p xs none_open s u t → HoldsAtMostOne p t
