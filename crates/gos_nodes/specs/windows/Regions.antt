-- Regions that share: a child of a node, joined to its supplies, lies in the whole, joint for joint. What is missing are the joints
-- at which the Shares between children serve their other caller.
--
-- Read first: Cutting of gos_joining; Sharing of gos_sharing; Regular of gos_realises.
use Rattle.std.specs.Prelude.{◌≡◌, ℕ, ◌-◌, ◌<◌, List, [], ◌⊎◌, Some, slice_get, Contains}
use Rattle.gos_types.specs.Types.{Type'}
use Rattle.gos_plan.specs.Kinds.{Part, Share}
use Rattle.gos_plan.specs.Firing.{Slot}
use Rattle.gos_plan.specs.Plans.{End, Plan, contact_at, IsRight}
use Rattle.gos_plan.specs.Tokens.{Tokens, Element, Fire, Out, In, IsPortEnd, shake_of, Does, Runs, IsIdle}
use Rattle.gos_realises.specs.realises.Regular.{count, InputsKeepTurns}
use Rattle.gos_joining.specs.webs.Webs.{joint}
use Rattle.gos_joining.specs.webs.Cutting.{Cut, lies_at, IsInside, IsOutside, StandsIn}
use Rattle.gos_sharing.specs.sharing.Sharing.{caller_end}

-- a Share of the region, by its number in the whole; its type; and the caller for which the region has it
pub record Serving : Type 0 where
  pub part : ℕ
  pub ty : Type'
  pub side : ℕ

-- an end at which such a Share serves its other caller
abbrev pub IsOther : List Serving → End → Type 0
IsOther ss e = (n : Serving) × (j : ℕ) × Contains ss n × (j < count n.ty) × (e ≡ caller_end n.part n.ty (1 - n.side) j)

-- c is the plan of the region of r in which these Shares serve. A port that stands in no joint stands for nothing. An end of
-- the region in a joint of the whole that the region lacks is one at which such a Share serves its other caller.
pub record IsRegion (f : Cut) (ss : List Serving) (r c : Plan) : Type 0 where
  pub whole_right : IsRight r
  pub right : IsRight c
  pub parts : (i : ℕ) (k : Part) → slice_get c.parts i ≡ Some k → (slice_get r.parts (f.part i) ≡ Some k) × (f.number (f.part i) ≡ Some i)
  pub numbers : (i j : ℕ) → f.number i ≡ Some j → (f.part j ≡ i) × ((k : Part) × (slice_get c.parts j ≡ Some k))
  pub ports : (e : End) → IsPortEnd e → StandsIn c e → IsOutside f (f.outer e) × (f.inner (f.outer e) ≡ Some e)
  pub inners : (b e : End) → f.inner b ≡ Some e → IsPortEnd e × StandsIn c e × (f.outer e ≡ b)
  pub contacts : (e : End) → IsPortEnd e → StandsIn c e → contact_at r (f.outer e) ≡ contact_at c e
  pub joints : (a b : End) → Contains c.joints (joint a b) → Contains r.joints (joint (lies_at f a) (lies_at f b))
  pub all :
      (a b : End) → Contains r.joints (joint a b) → IsInside f a ⊎ IsInside f b
      → ((d e : End) × Contains c.joints (joint d e) × (lies_at f d ≡ a) × (lies_at f e ≡ b))
      ⊎ ((IsInside f a → IsOther ss a) × (IsInside f b → IsOther ss b))
  pub serving :
      (n : Serving) → Contains ss n
      → (n.side < 2) × ((i : ℕ) × (f.number n.part ≡ Some i) × (slice_get c.parts i ≡ Some (Share n.ty)))
  pub unused : (n : Serving) (i j : ℕ) → Contains ss n → f.number n.part ≡ Some i → j < count n.ty → StandsIn c (caller_end i n.ty (1 - n.side) j) → ⊥

-- A Share works for one caller alone: over every list from an idle state whose inputs keep turns, each token that it takes from
-- its source finds this branch.
abbrev pub IsLoyal : ℕ → Type' → ℕ → Plan → Type 0
IsLoyal i t side p =
    (s w u : Tokens) (xs : List Element) (slot : Slot)
    → IsIdle p s → Runs p xs s w → InputsKeepTurns p [] xs → Does p (Fire i slot) w u → shake_of slot < count t → (w.state i).number ≡ side

-- an element of the region as one of the whole
abbrev pub whole_element : Cut → Element → Element
whole_element f (Fire i t) = Fire (f.part i) t
whole_element f (Out e v) = Out (lies_at f e) v
whole_element f (In e v) = In (lies_at f e) v
