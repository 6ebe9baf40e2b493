-- A plan beside loose parts: parts and imports without a joint to it.
--
-- Read first: Plans of gos_plan; Webs of gos_joining. In `(fun x . skip) N` the plan of N is there, but nothing asks it. Ports
-- of the plan and of the whole are the same but for the numbers of imports, so what passes one passes the other.
use Rattle.std.specs.Prelude.{◌≡◌, ℕ, ◌⊎◌, Option, Some, None, Contains, slice_get}
use Rattle.gos_model.specs.Typing.{Imported}
use Rattle.gos_plan.specs.Kinds.{Part}
use Rattle.gos_plan.specs.Plans.{End, PartEnd, ImportEnd, ResultEnd, Plan, IsRight}
use Rattle.gos_joining.specs.webs.Webs.{joint}

-- The number in the whole of each part of a plan, and that in the plan of each part of the whole that is its own; the same
-- for imports.
pub record Placing : Type 0 where
  pub part : ℕ → ℕ
  pub number : ℕ → Option ℕ
  pub import : ℕ → ℕ
  pub import_number : ℕ → Option ℕ

-- where an end of the plan stands in the whole
abbrev pub placed : Placing → End → End
placed f (PartEnd i h) = PartEnd (f.part i) h
placed f (ImportEnd i h) = ImportEnd (f.import i) h
placed f (ResultEnd h) = ResultEnd h

-- an end of a loose part or of a loose import; the result's are not loose
abbrev pub IsLoose : Placing → End → Type 0
IsLoose f (PartEnd i h) = f.number i ≡ None
IsLoose f (ImportEnd i h) = f.import_number i ≡ None
IsLoose f (ResultEnd h) = ⊥

-- the ends of a joint of the plan stand at these ends of the whole
abbrev pub IsOwn : Placing → Plan → End → End → Type 0
IsOwn f c a b = (d : End) × (e : End) × Contains c.joints (joint d e) × (placed f d ≡ a) × (placed f e ≡ b)

-- The numbers are right: the parts and the imports of c are some of those of r, and both have one outcome. Weights are free.
pub record LiesIn (f : Placing) (r c : Plan) : Type 0 where
  pub outcome : r.outcome ≡ c.outcome
  pub parts : (i : ℕ) (k : Part) → slice_get c.parts i ≡ Some k → (slice_get r.parts (f.part i) ≡ Some k) × (f.number (f.part i) ≡ Some i)
  pub numbers : (i j : ℕ) → f.number i ≡ Some j → (f.part j ≡ i) × ((k : Part) × (slice_get c.parts j ≡ Some k))
  pub imports :
      (i : ℕ) (x : Imported) → slice_get c.imports i ≡ Some x
      → (slice_get r.imports (f.import i) ≡ Some x) × (f.import_number (f.import i) ≡ Some i)
  pub import_numbers :
      (i j : ℕ) → f.import_number i ≡ Some j → (f.import j ≡ i) × ((x : Imported) × (slice_get c.imports j ≡ Some x))

-- r is c with loose parts and imports beside it: each joint of r is one of c's, or both its ends are loose.
pub record IsBeside (f : Placing) (r c : Plan) : Type 0 where
  pub lies : LiesIn f r c
  pub whole_right : IsRight r
  pub right : IsRight c
  pub joints : (a b : End) → Contains c.joints (joint a b) → Contains r.joints (joint (placed f a) (placed f b))
  pub all : (a b : End) → Contains r.joints (joint a b) → IsOwn f c a b ⊎ (IsLoose f a × IsLoose f b)
