-- How the plan of `M || N` is made of those of M and N: two regions that share nothing, and the part that asks both.
--
-- Read first: Realises of gos_realises, Cutting of gos_joining, Widening of gos_programs. The regions' plans are closed but for
-- imports, and these are imports of the whole.
use Rattle.std.specs.Prelude.{◌≡◌, ◌⊎◌, ℕ, [], All, Contains, Some, None, slice_get}
use Rattle.gos_types.specs.Types.{Com}
use Rattle.gos_model.specs.Terms.{Term, Par}
use Rattle.gos_model.specs.Typing.{Typed}
use Rattle.gos_plan.specs.Kinds as kinds
use Rattle.gos_plan.specs.Plans.{End, PartEnd, ImportEnd, ResultEnd, Plan}
use Rattle.gos_plan.specs.TokenBits.{LiteralFits}
use Rattle.gos_plan.specs.Kinds.{Part}
use Rattle.gos_joining.specs.webs.Webs.{joint}
use Rattle.gos_joining.specs.webs.Cutting.{Cut, lies_at, StandsIn, IsCut}
use Rattle.gos_programs.specs.contexts.Widening.{AreAmong}
use Rattle.gos_nodes.specs.windows.Nodes.{IsRestful}
use Rattle.gos_nodes.specs.windows.OpenNodes.{IsHeard}
use Rattle.gos_realises.specs.realises.Regular.{IsRegular}
use Rattle.gos_realises.specs.realises.Realises.{AllGround, AllPorts, NamesDiffer, HaveOtherNames, Realises}

-- Region f of r has the plan p, and part d of r asks it at its handshake h. Where the region's result stands in no joint
-- d asks in vain. An import that stands in a joint leads to the import of r with its name and its type.
pub record IsSide (d h : ℕ) (f : Cut) (r p : Plan) : Type 0 where
  pub cut : IsCut f r p
  pub outcome : p.outcome ≡ Com
  pub outside : f.number d ≡ None
  pub result : f.outer (ResultEnd 0) ≡ PartEnd d h
  pub imports :
      (i k : ℕ) → StandsIn p (ImportEnd i k)
      → (j : ℕ) × (f.outer (ImportEnd i k) ≡ ImportEnd j k) × (slice_get p.imports i ≡ slice_get r.imports j)
  pub among : AreAmong p.imports r.imports

-- the joint is one of the region's
abbrev pub IsJointOf : Cut → Plan → End → End → Type 0
IsJointOf f p a b = (x : End) × (y : End) × Contains p.joints (joint x y) × (lies_at f x ≡ a) × (lies_at f y ≡ b)

-- the part is one of the region's
abbrev pub IsPartOf : Cut → ℕ → Type 0
IsPartOf f i = (j : ℕ) × (f.number i ≡ Some j)

-- r has the regions f and g, with the plans p and q, and beside them the part d, which asks both, and is asked by the
-- result of r. The regions have no part and no import in common.
pub record IsParallel (d : ℕ) (f g : Cut) (r p q : Plan) : Type 0 where
  pub left : IsSide d 0 f r p
  pub right : IsSide d 1 g r q
  pub outcome : r.outcome ≡ Com
  pub driver : slice_get r.parts d ≡ Some kinds.Par
  pub run : Contains r.joints (joint (ResultEnd 0) (PartEnd d 2))
  pub joints :
      (a b : End) → Contains r.joints (joint a b)
      → (IsJointOf f p a b ⊎ IsJointOf g q a b) ⊎ ((a ≡ ResultEnd 0) × (b ≡ PartEnd d 2))
  pub parts : (i : ℕ) (k : Part) → slice_get r.parts i ≡ Some k → (IsPartOf f i ⊎ IsPartOf g i) ⊎ (i ≡ d)
  pub apart : (i : ℕ) → IsPartOf f i → IsPartOf g i → ⊥
  pub names : HaveOtherNames p.imports q.imports

-- The whole is regular where both regions are, with imports of any types: a region that has one end of an import has those at which
-- the surroundings ask there.
abbrev pub OpenParallelIsRegular : Type 0
OpenParallelIsRegular =
    (d : ℕ) (f g : Cut) (r p q : Plan)
    → IsParallel d f g r p q → IsHeard f r p → IsHeard g r q → All LiteralFits r.parts → NamesDiffer r.imports
    → NamesDiffer p.imports → IsRegular p → NamesDiffer q.imports → IsRegular q → IsRegular r

-- And it rests after its answer where both do.
abbrev pub OpenParallelIsRestful : Type 0
OpenParallelIsRestful =
    (d : ℕ) (f g : Cut) (r p q : Plan)
    → IsParallel d f g r p q → IsHeard f r p → IsHeard g r q → All LiteralFits r.parts → NamesDiffer r.imports
    → NamesDiffer p.imports → IsRegular p → IsRestful p → NamesDiffer q.imports → IsRegular q → IsRestful q → IsRestful r

-- At ground imports they don't ask.
abbrev pub ParallelIsRegular : Type 0
ParallelIsRegular =
    (d : ℕ) (f g : Cut) (r p q : Plan)
    → IsParallel d f g r p q → All LiteralFits r.parts → AllGround r.imports → NamesDiffer r.imports
    → AllGround p.imports → NamesDiffer p.imports → IsRegular p → AllGround q.imports → NamesDiffer q.imports → IsRegular q → IsRegular r

-- Where they realise m and n, it realises `m || n`, with imports that are ports.
abbrev pub ParallelRealises : Type 0
ParallelRealises =
    (d : ℕ) (f g : Cut) (r p q : Plan) (m n : Term)
    → IsParallel d f g r p q → IsHeard f r p → IsHeard g r q → All LiteralFits r.parts → AllPorts r.imports → NamesDiffer r.imports
    → Typed r.imports [] (Par m n) Com → Realises Com p m → Realises Com q n → Realises Com r (Par m n)
