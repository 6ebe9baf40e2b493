-- How the plan of `x := N` is made of that of N, where x is an import of a variable: a region, and the part that asks it for a
-- number and writes that at the import.
--
-- Read first: Cutting of gos_joining, Widening of gos_programs. The region's plan is closed but for ground imports, and these
-- are imports of the whole. The variable may be one of them: it is read there only while nothing is written.
use Rattle.std.specs.Prelude.{◌≡◌, ◌⊎◌, ℕ, Contains, Some, None, slice_get}
use Rattle.gos_types.specs.Types.{Com, Exp, Var}
use Rattle.gos_model.specs.Terms.{Name}
use Rattle.gos_plan.specs.Kinds.{Part, Assign}
use Rattle.gos_plan.specs.Plans.{End, PartEnd, ImportEnd, ResultEnd, Plan}
use Rattle.gos_joining.specs.webs.Webs.{joint}
use Rattle.gos_joining.specs.webs.Cutting.{Cut, lies_at, StandsIn, IsCut}
use Rattle.gos_programs.specs.contexts.Widening.{AreAmong}

-- the joint is one of the region's
abbrev pub IsJointOf : Cut → Plan → End → End → Type 0
IsJointOf f p a b = (x : End) × (y : End) × Contains p.joints (joint x y) × (lies_at f x ≡ a) × (lies_at f y ≡ b)

-- Region f of r has the plan p, which is asked for a number of w bits by part d, an Assign. This is run by the result of r,
-- and writes at import k, the variable x. An import of p that stands in a joint leads to the import of r with its name and
-- its type. r has no other part and no other joint.
pub record IsPortWrite (d k w : ℕ) (x : Name) (f : Cut) (r p : Plan) : Type 0 where
  pub cut : IsCut f r p
  pub number : p.outcome ≡ Exp w
  pub outside : f.number d ≡ None
  pub asked : f.outer (ResultEnd 0) ≡ PartEnd d 0
  pub imports :
      (i h : ℕ) → StandsIn p (ImportEnd i h)
      → (j : ℕ) × (f.outer (ImportEnd i h) ≡ ImportEnd j h) × (slice_get p.imports i ≡ slice_get r.imports j)
  pub among : AreAmong p.imports r.imports
  pub outcome : r.outcome ≡ Com
  pub own : slice_get r.parts d ≡ Some (Assign w)
  pub variable : slice_get r.imports k ≡ Some (record { name = x; ty = Var w })
  pub run : Contains r.joints (joint (ResultEnd 0) (PartEnd d 2))
  pub write : Contains r.joints (joint (PartEnd d 1) (ImportEnd k 1))
  pub joints :
      (a b : End) → Contains r.joints (joint a b)
      → IsJointOf f p a b ⊎ (((a ≡ ResultEnd 0) × (b ≡ PartEnd d 2)) ⊎ ((a ≡ PartEnd d 1) × (b ≡ ImportEnd k 1)))
  pub parts : (i : ℕ) (n : Part) → slice_get r.parts i ≡ Some n → (i ≡ d) ⊎ ((j : ℕ) × (f.number i ≡ Some j))
