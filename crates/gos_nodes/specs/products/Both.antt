-- The plan of a product whose two sides are two regions of it, that may share supplies, by Shares.
--
-- Read first: Regions, OpenNodes of windows; Rests of gos_supplies.
use Rattle.std.specs.Prelude.{◌≡◌, ℕ, ◌+◌, List, ◌⊎◌, slice_get, Some, Contains}
use Rattle.gos_types.specs.Types.{Type', Pair}
use Rattle.gos_model.specs.Typing.{Imported}
use Rattle.gos_plan.specs.Plans.{End, ImportEnd, ResultEnd, Plan}
use Rattle.gos_realises.specs.realises.Regular.{count, IsRegular}
use Rattle.gos_realises.specs.realises.Realises.{NamesDiffer}
use Rattle.gos_joining.specs.webs.Webs.{joint}
use Rattle.gos_joining.specs.webs.Cutting.{Cut, lies_at, StandsIn}
use Rattle.gos_nodes.specs.windows.Regions.{Serving, IsRegion, IsLoyal}
use Rattle.gos_nodes.specs.windows.OpenNodes.{IsHeard}
use Rattle.gos_supplies.specs.turns.Rests.{Rests}

-- A side, joined to its supplies: how it lies in the whole, the Shares that serve in it, and its plan.
pub record Side : Type 0 where
  pub cut : Cut
  pub sides : List Serving
  pub plan : Plan

-- The side lies in the whole r: its imports are some of r's, and its result is r's from handshake n on.
pub record IsSide (r : Plan) (n : ℕ) (g : Side) : Type 0 where
  pub region : IsRegion g.cut g.sides r g.plan
  pub regular : IsRegular g.plan
  pub loyal : (x : Serving) (i : ℕ) → Contains g.sides x → g.cut.number x.part ≡ Some i → IsLoyal i x.ty x.side g.plan
  pub result : (h : ℕ) → StandsIn g.plan (ResultEnd h) → g.cut.outer (ResultEnd h) ≡ ResultEnd (n + h)
  pub imports : (x : Imported) → Contains g.plan.imports x → Contains r.imports x
  pub names : NamesDiffer g.plan.imports
  pub ports :
      (i h : ℕ) → StandsIn g.plan (ImportEnd i h)
      → (k : ℕ) × (g.cut.outer (ImportEnd i h) ≡ ImportEnd k h) × (slice_get r.imports k ≡ slice_get g.plan.imports i)
  pub heard : IsHeard g.cut r g.plan

-- a joint of the whole that the side has
abbrev pub IsOfSide : Side → End → End → Type 0
IsOfSide g a b = (d : End) × (e : End) × Contains g.plan.joints (joint d e) × (lies_at g.cut d ≡ a) × (lies_at g.cut e ≡ b)

-- The whole is a product of two sides, which have all of its joints. Parts without a joint may be there too.
pub record IsBoth (a b : Type') (r : Plan) (g e : Side) : Type 0 where
  pub outcome : r.outcome ≡ Pair a b
  pub names : NamesDiffer r.imports
  pub first : IsSide r 0 g
  pub first_type : g.plan.outcome ≡ a
  pub second : IsSide r (count a) e
  pub second_type : e.plan.outcome ≡ b
  pub joints : (c d : End) → Contains r.joints (joint c d) → IsOfSide g c d ⊎ IsOfSide e c d

-- It is regular, and rests, where its sides rest.
abbrev pub BothIsRegular : Type 0
BothIsRegular = (a b : Type') (r : Plan) (g e : Side) → IsBoth a b r g e → Rests g.plan → Rests e.plan → IsRegular r × Rests r
