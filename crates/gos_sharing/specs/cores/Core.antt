-- The core of a plan: the plan may have more parts, imports and joints, on which no token ever lies.
--
-- Read first: Plans, Tokens of gos_plan; Regular of gos_realises.
use Rattle.std.specs.Prelude.{◌≡◌, ℕ, List, [], Option, Some, None, slice_get, Contains}
use Rattle.gos_types.specs.Events.{Direction}
use Rattle.gos_model.specs.Typing.{Imported}
use Rattle.gos_plan.specs.Kinds.{Part}
use Rattle.gos_plan.specs.Plans.{End, PartEnd, ImportEnd, ResultEnd, Plan, IsRight}
use Rattle.gos_plan.specs.Tokens.{Tokens, Element, Runs, IsIdle}
use Rattle.gos_realises.specs.realises.Regular.{InputsKeepTurns}
use Rattle.gos_joining.specs.webs.Webs.{joint}

-- How the one plan lies in the other: the number in the plan of each part and import of the core, and the number in the core of each of
-- the plan that the core has.
pub record Core : Type 0 where
  pub part : ℕ → ℕ
  pub number : ℕ → Option ℕ
  pub import : ℕ → ℕ
  pub origin : ℕ → Option ℕ

-- where an end of the core lies in the plan
abbrev pub core_end : Core → End → End
core_end f (PartEnd j h) = PartEnd (f.part j) h
core_end f (ImportEnd i h) = ImportEnd (f.import i) h
core_end f (ResultEnd h) = ResultEnd h

-- c is a part of r: each part, import and joint of c is one of r.
pub record IsCore (f : Core) (r c : Plan) : Type 0 where
  pub right : IsRight r
  pub also_right : IsRight c
  pub outcome : r.outcome ≡ c.outcome
  pub parts : (j : ℕ) (k : Part) → slice_get c.parts j ≡ Some k → (slice_get r.parts (f.part j) ≡ Some k) × (f.number (f.part j) ≡ Some j)
  pub numbers : (i j : ℕ) → f.number i ≡ Some j → (f.part j ≡ i) × ((k : Part) × (slice_get c.parts j ≡ Some k))
  pub imports :
      (i : ℕ) (x : Imported) → slice_get c.imports i ≡ Some x → (slice_get r.imports (f.import i) ≡ Some x) × (f.origin (f.import i) ≡ Some i)
  pub origins : (k i : ℕ) → f.origin k ≡ Some i → (f.import i ≡ k) × ((x : Imported) × (slice_get c.imports i ≡ Some x))
  pub joints : (a b : End) → Contains c.joints (joint a b) → Contains r.joints (joint (core_end f a) (core_end f b))

-- a joint of r that is none of c's
abbrev pub IsDead : Core → Plan → Plan → End → End → Type 0
IsDead f r c a b =
    Contains r.joints (joint a b) × ((d e : End) → Contains c.joints (joint d e) → core_end f d ≡ a → core_end f e ≡ b → ⊥)

-- No token ever lies on a dead joint: over every list of r from an idle state whose inputs keep turns. Places are named by the asking end.
abbrev pub IsStill : Core → Plan → Plan → Type 0
IsStill f r c =
    (s t : Tokens) (xs : List Element) (a b : End) (way : Direction)
    → IsIdle r s → Runs r xs s t → InputsKeepTurns r [] xs → IsDead f r c a b → t.in_place way a ≡ None
