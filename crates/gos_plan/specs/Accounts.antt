-- What lies in a place after a list: what lay there and what was put there, without what was taken.
--
-- Read first: Projection, Gates. A place is filled at one end of its joint and emptied at the other: requests are put
-- where the joint asks and taken where it serves, and answers the other way round. What is put at an end without a
-- joint is lost.
use Rattle.std.specs.Prelude.{◌≡◌, ℕ, suc, ◌+◌, ◌*◌, List, [], ◌∷◌, Option, None, Some, Contains, slice_get, if◌then◌else◌}
use Rattle.gos_types.specs.Events.{Direction, Request, Answer}
use Rattle.gos_plan.specs.Kinds.{Part}
use Rattle.gos_plan.specs.Firing.{Slot, Req, Ans, Token}
use Rattle.gos_plan.specs.Plans.{End, PartEnd, Joint, Plan, IsRight, same_end}
use Rattle.gos_plan.specs.Tokens.{Tokens, Element, Fire, Out, In, IsIdle}
use Rattle.gos_plan.specs.Orderly.{Open, none_open, OrderlyFrom}
use Rattle.gos_plan.specs.Firings.{due, value_due, Fires, times}
use Rattle.gos_plan.specs.Projection.{firings_of, asked_by, TakesValues}

-- how many tokens lie in a place, and the number of what lies there
abbrev pub count : Option ℕ → ℕ
count None = 0
count (Some v) = 1

abbrev pub number : Option ℕ → ℕ
number None = 0
number (Some v) = v

-- how many outputs of a list are at an end, and the sum of their numbers
abbrev pub outs_at : End → List Element → ℕ
outs_at e [] = 0
outs_at e (Fire i t ∷ xs) = outs_at e xs
outs_at e (Out d v ∷ xs) = if same_end d e then suc (outs_at e xs) else outs_at e xs
outs_at e (In d v ∷ xs) = outs_at e xs

abbrev pub outs_sum : End → List Element → ℕ
outs_sum e [] = 0
outs_sum e (Fire i t ∷ xs) = outs_sum e xs
outs_sum e (Out d v ∷ xs) = if same_end d e then v + outs_sum e xs else outs_sum e xs
outs_sum e (In d v ∷ xs) = outs_sum e xs

-- the same of inputs
abbrev pub ins_at : End → List Element → ℕ
ins_at e [] = 0
ins_at e (Fire i t ∷ xs) = ins_at e xs
ins_at e (Out d v ∷ xs) = ins_at e xs
ins_at e (In d v ∷ xs) = if same_end d e then suc (ins_at e xs) else ins_at e xs

abbrev pub ins_sum : End → List Element → ℕ
ins_sum e [] = 0
ins_sum e (Fire i t ∷ xs) = ins_sum e xs
ins_sum e (Out d v ∷ xs) = ins_sum e xs
ins_sum e (In d v ∷ xs) = if same_end d e then v + ins_sum e xs else ins_sum e xs

-- the slot of a handshake in a direction
abbrev pub slot_at : Direction → ℕ → Slot
slot_at Request h = Req h
slot_at Answer h = Ans h

-- How many tokens are taken at an end, and the sum of their numbers. `values` are the numbers that each part takes,
-- by its handshakes.
abbrev pub taken_at : Direction → End → List Element → ℕ
taken_at way (PartEnd i h) xs = times (slot_at way h) (firings_of i xs)
taken_at way e xs = outs_at e xs

abbrev pub sum_taken : (ℕ → ℕ → ℕ) → Direction → End → List Element → ℕ
sum_taken values way (PartEnd i h) xs = times (slot_at way h) (firings_of i xs) * values i h
sum_taken values way e xs = outs_sum e xs

-- How many are put at an end, and the sum of their numbers. `puts` are the tokens that each part puts.
abbrev pub put_at : (ℕ → List Token) → End → List Element → ℕ
put_at puts (PartEnd i h) xs = due h (puts i)
put_at puts e xs = ins_at e xs

abbrev pub sum_put : (ℕ → List Token) → End → List Element → ℕ
sum_put puts (PartEnd i h) xs = value_due h (puts i)
sum_put puts e xs = ins_sum e xs

-- a place named by `place`, which is filled at `source` and emptied at `target`, adds up from one token state to
-- another
pub record AddsUp (values : ℕ → ℕ → ℕ) (puts : ℕ → List Token) (xs : List Element) (s t : Tokens) (way : Direction) (place source target : End) : Type 0 where
  pub counts : count (t.in_place way place) + taken_at way target xs ≡ count (s.in_place way place) + put_at puts source xs
  pub sums : number (t.in_place way place) + sum_taken values way target xs ≡ number (s.in_place way place) + sum_put puts source xs

-- both places of each joint do
abbrev pub AllAddUp : Plan → (ℕ → ℕ → ℕ) → (ℕ → List Token) → List Element → Tokens → Tokens → Type 0
AllAddUp p values puts xs s t =
    (j : Joint) → Contains p.joints j
    → AddsUp values puts xs s t Request j.asking j.asking j.serving × AddsUp values puts xs s t Answer j.asking j.serving j.asking

-- each part fires as in PartsFire, and puts these tokens
abbrev pub PartsPut : Plan → (ℕ → ℕ → ℕ) → (ℕ → List Token) → List Element → Open → Tokens → Open → Tokens → Type 0
PartsPut p values puts xs o s u t =
    (i : ℕ) (k : Part) → slice_get p.parts i ≡ Some k
    → Fires k (values i) (asked_by i o) (s.state i) (firings_of i xs) (asked_by i u) (t.state i) (puts i)

-- Over an orderly list, which may go on from one that begins idle, all joints add up, whichever tokens are given as
-- those that the parts put by their rows.
abbrev pub HeldTokens : Type 0
HeldTokens =
    (p : Plan) (values : ℕ → ℕ → ℕ) (puts : ℕ → List Token) (ys xs : List Element) (o u : Open) (first s t : Tokens)
    → IsRight p → IsIdle p first → OrderlyFrom p ys none_open first o s → OrderlyFrom p xs o s u t
    → ((i : ℕ) → TakesValues p i (values i) xs s) → PartsPut p values puts xs o s u t → AllAddUp p values puts xs s t

-- and there are such tokens
abbrev pub PartsFillPlaces : Type 0
PartsFillPlaces =
    (p : Plan) (values : ℕ → ℕ → ℕ) (ys xs : List Element) (o u : Open) (first s t : Tokens)
    → IsRight p → IsIdle p first → OrderlyFrom p ys none_open first o s → OrderlyFrom p xs o s u t
    → ((i : ℕ) → TakesValues p i (values i) xs s)
    → (puts : ℕ → List Token) × PartsPut p values puts xs o s u t × AllAddUp p values puts xs s t
