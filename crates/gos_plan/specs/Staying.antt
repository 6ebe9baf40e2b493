-- What lies in a place stays until it is taken. So what parts take in a list is what lay there before it, where they
-- take no more than lay there.
--
-- Read first: Projection, Accounts. So it is in a cycle of a netlist with a register in each direction of each joint:
-- what is put in a cycle is taken in a later one.
use Rattle.std.specs.Prelude.{◌≡◌, ℕ, ◌≤◌, List, Option, None, Some, Contains}
use Rattle.gos_types.specs.Events.{Request, Answer}
use Rattle.gos_plan.specs.Kinds.{Contact}
use Rattle.gos_plan.specs.Plans.{End, PartEnd, Joint, Plan, IsRight, contact_at}
use Rattle.gos_plan.specs.Tokens.{Tokens, Element, token_at, way_taken, IsIdle}
use Rattle.gos_plan.specs.Orderly.{Open, none_open, OrderlyFrom}
use Rattle.gos_plan.specs.Projection.{TakesValues}
use Rattle.gos_plan.specs.Accounts.{count, number, taken_at}

-- Over an orderly list, which may go on from one that begins idle, a request stays where none is taken at the end
-- that serves, and an answer where none is taken at the end that asks.
abbrev pub TokensStay : Type 0
TokensStay =
    (p : Plan) (ys xs : List Element) (o u : Open) (first s t : Tokens) (j : Joint) (v : ℕ)
    → IsRight p → IsIdle p first → OrderlyFrom p ys none_open first o s → OrderlyFrom p xs o s u t → Contains p.joints j
    → (s.in_place Request j.asking ≡ Some v → taken_at Request j.serving xs ≡ 0 → t.in_place Request j.asking ≡ Some v)
    × (s.in_place Answer j.asking ≡ Some v → taken_at Answer j.asking xs ≡ 0 → t.in_place Answer j.asking ≡ Some v)

-- the number that lies for who stands at an end: of a request where it serves, of an answer where it asks; 0 where
-- none lies
abbrev pub number_for : Plan → Tokens → End → Option Contact → ℕ
number_for p s e None = 0
number_for p s e (Some c) = number (token_at p s e (way_taken c.role))

-- those that lie for a part, by its handshakes
abbrev pub numbers_for : Plan → Tokens → ℕ → ℕ → ℕ
numbers_for p s i h = number_for p s (PartEnd i h) (contact_at p (PartEnd i h))

-- at each of their handshakes the parts take no more in a list than lies there before it
abbrev pub TakeNoMore : Plan → List Element → Tokens → Type 0
TakeNoMore p xs s =
    (i h : ℕ) (c : Contact) → contact_at p (PartEnd i h) ≡ Some c
    → taken_at (way_taken c.role) (PartEnd i h) xs ≤ count (token_at p s (PartEnd i h) (way_taken c.role))

-- what they take then has the numbers that lay for them
abbrev pub PartsTakeWhatLay : Type 0
PartsTakeWhatLay =
    (p : Plan) (ys xs : List Element) (o u : Open) (first s t : Tokens)
    → IsRight p → IsIdle p first → OrderlyFrom p ys none_open first o s → OrderlyFrom p xs o s u t → TakeNoMore p xs s
    → (i : ℕ) → TakesValues p i (numbers_for p s i) xs s
